-- Why a source is refused, from what each stage says.
use Rattle.std.proofs.Common.{◌≡◌, ◌⊎◌, inl, inr, ℕ, ◌≤◌, List, [], length, refl, subst}
use Rattle.core_tree.specs.BuiltIn.{first_class}
use Rattle.java_tokens.specs.declared.token.Token.{Token}
use Rattle.java_tokens.specs.Tokens.{AreTokens}
use Rattle.token_reading.specs.declared.fault.Fault.{Fault}
use Rattle.token_reading.specs.declared.fault.CheckError.{CheckError}
use Rattle.token_reading.specs.declared.fault.CheckError.TheVariants as check
use Rattle.java_syntax.specs.declared.class.FileTree.{FileTree}
use Rattle.java_syntax.specs.Height.{file_height}
use Rattle.java_syntax.specs.Spells.{Spells}
use Rattle.token_reading.specs.declared.error.ParseError.{ParseError}
use Rattle.token_reading.specs.declared.error.ParseError.TheVariants as parse
use Rattle.java_parse.specs.Answer.{HasCause, IsOnlyTree}
use Rattle.class_table.specs.Faults.{Blames, Clear}
use Rattle.class_table.specs.Rules.{Breaks}
use Rattle.class_table.specs.Table.{table_of}
use Rattle.java_names.specs.declared.symbol.Symbols.{Symbols}
use Rattle.java_names.specs.Refusals.{Refuses}
use Rattle.java_names.specs.Symbols.{symbols_of}
use Rattle.throw_check.specs.Files.{faults_from}
use Rattle.java_source.specs.declared.refusal.SourceError.{SourceError}
use Rattle.java_source.specs.declared.refusal.SourceError.TheVariants as error
use Rattle.java_source.specs.declared.refusal.SourceRefusal.TheVariants as refusal
use Rattle.java_source.specs.Accepted.{IsBroken, most_bytes, type_faults, throw_faults}
use Rattle.java_source.specs.Refused.{IsRefused, TellsNoTree, rule_refusal}

-- an error of the check of types is a rule that is broken where none of the classes is
pub blames_types : (tree : FileTree) (e : CheckError) → Clear (Breaks tree) → Refuses (type_faults tree) e → Blames (IsBroken tree) e
blames_types tree (check.Fault f) classes h = inr (classes, inl h)
blames_types tree check.OutOfMemory classes h = tt

-- an error of the check of thrown exceptions is a rule that is broken where no earlier one is
throws_in : (tree : FileTree) (e : CheckError)
    → Clear (Breaks tree) → type_faults tree ≡ [] → Refuses (throw_faults tree) e → Blames (IsBroken tree) e
throws_in tree (check.Fault f) classes types h = inr (classes, inr (types, h))
throws_in tree check.OutOfMemory classes types h = tt

-- and of that check by the symbols of the tree
pub blames_throws : (tree : FileTree) (e : CheckError) (symbols : Symbols) → symbols ≡ symbols_of (table_of tree)
    → Clear (Breaks tree) → type_faults tree ≡ [] → Refuses (faults_from symbols first_class tree.classes) e → Blames (IsBroken tree) e
blames_throws tree e symbols is classes types h =
    throws_in tree e classes types (subst (λ s. Refuses (faults_from s first_class tree.classes) e) is h)

module _ (bytes : List ℕ) (few : length bytes ≤ most_bytes) (tokens : List Token) (read : AreTokens bytes tokens) where
  pub refuses_unparsed : (e : ParseError) (made : SourceError) → HasCause e tokens → TellsNoTree tokens e made → IsRefused bytes made
  refuses_unparsed (parse.Syntax at) (error.Refused refusal.TooLong) cause told = absurd told
  refuses_unparsed (parse.Syntax at) (error.Refused (refusal.Lexical what place)) cause told = absurd told
  refuses_unparsed (parse.Syntax at) (error.Refused (refusal.Syntax line column)) cause told =
      record { few = few; tokens = tokens; read = read; none = cause.0; place = told }
  refuses_unparsed (parse.Syntax at) (error.Refused refusal.TooDeep) cause told = absurd told
  refuses_unparsed (parse.Syntax at) (error.Refused (refusal.Fault rule line column)) cause told = absurd told
  refuses_unparsed (parse.Syntax at) error.OutOfMemory cause told = absurd told
  refuses_unparsed parse.TooDeep made cause told =
      rw told (record { few = few; tokens = tokens; read = read; high = cause.0; many = cause.1 })
  refuses_unparsed parse.OutOfMemory made cause told = rw told (tt {0})

  pub refuses_broken : (tree : FileTree) (f : Fault) → Spells tree tokens → file_height tree ≤ 200 → IsOnlyTree tree tokens → IsBroken tree f
      → IsRefused bytes (error.Refused (rule_refusal tokens f))
  refuses_broken tree f spelled low only broken = record {
    few = few;
    tokens = tokens;
    read = read;
    tree = tree;
    spelled = spelled;
    low = low;
    only = only;
    fault = f;
    broken = broken;
    told = refl;
  }
