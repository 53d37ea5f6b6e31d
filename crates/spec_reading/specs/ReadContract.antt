-- Reading of contracts and spec methods, as functions on lists.
use Rattle.std.specs.Prelude.{ℕ, zero, suc, nat_eq, if◌then◌else◌, List, [], ◌∷◌, ◌++◌, length, Bool, true, false, Option, Some, None, Ok, Err, codes}
use Rattle.std.specs.Cmp.Lexicographic.{pointwise}
use Rattle.java_tokens.specs.declared.token.Operator.TheVariants as o
use Rattle.java_tokens.specs.declared.token.TokenKind.{TokenKind}
use Rattle.java_tokens.specs.declared.token.TokenKind.TheVariants as k
use Rattle.token_reading.specs.declared.name.Ident.{Ident}
use Rattle.token_reading.specs.declared.name.ParamTree.{ParamTree}
use Rattle.token_reading.specs.declared.name.TypeTree.{TypeTree}
use Rattle.token_reading.specs.Lexeme.{Lexeme, place, sees}
use Rattle.token_reading.specs.Outcome.{no_tree, Parser, ◌>>=◌}
use Rattle.token_reading.specs.ReadType.{next, expect, none_fits, ident, type_tree, params}
use Rattle.spec_trees.specs.declared.contract.AddedTree.{AddedTree}
use Rattle.spec_trees.specs.declared.contract.BoundTree.{BoundTree}
use Rattle.spec_trees.specs.declared.contract.ContractTree.{ContractTree}
use Rattle.spec_trees.specs.declared.contract.IntsTree.{IntsTree}
use Rattle.spec_trees.specs.declared.contract.NumberTree.{NumberTree}
use Rattle.spec_trees.specs.declared.contract.SpecTree.{SpecTree}
use Rattle.spec_trees.specs.declared.term.TermTree.{TermTree}
use Rattle.spec_trees.specs.declared.word.ContractWord.{ContractWord}
use Rattle.spec_trees.specs.declared.word.ContractWord.TheVariants as word
use Rattle.spec_trees.specs.Words.{word_text}
use Rattle.spec_reading.specs.ReadLink.{name}
use Rattle.spec_reading.specs.ReadTerm.{number_of, read_term}

-- ---- identifiers with a text of their own

abbrev pub is_text_kind : List ℕ → TokenKind → Bool
is_text_kind s (k.Ident x) = pointwise nat_eq x s
is_text_kind s _ = false

-- the identifier of this text comes first
abbrev pub sees_text : List ℕ → List Lexeme → Bool
sees_text s [] = false
sees_text s (x ∷ xs) = is_text_kind s x.kind

-- that identifier
unfoldable pub expect_text : List ℕ → Parser (Unit {0})
expect_text s xs = if sees_text s xs then Ok (tt, next xs) else Err no_tree

-- ---- numbers

abbrev pub number_by : ℕ → TokenKind → Parser NumberTree
number_by at (k.Number v) xs = Ok (number_of at v, xs)
number_by at _ xs = Err no_tree

unfoldable pub number : Parser NumberTree
number [] = Err no_tree
number (x ∷ xs) = number_by x.at x.kind xs

-- after its sign
unfoldable pub signed : Bool → Parser BoundTree
signed is_negative xs = number xs >>= (λ v ys. Ok (record { is_negative = is_negative; number = v }, ys))

unfoldable pub bound : Parser BoundTree
bound xs = if sees o.Minus xs then signed true (next xs) else signed false xs

-- ---- clauses

-- after `ints`
unfoldable pub interval : Parser IntsTree
interval xs =
    bound xs >>= (λ lo ys. expect o.DotDot ys >>= (λ _ zs. bound zs >>= (λ hi us. Ok (record { low = lo; high = hi }, us))))

-- the clause `ints`, or nothing
unfoldable pub ints : Parser (Option IntsTree)
ints xs =
    if sees_text (word_text word.Ints) xs then (interval (next xs) >>= (λ i ys. Ok (Some i, ys))) else Ok (None, xs)

-- a part of `adds`
unfoldable pub added : Parser AddedTree
added xs = number xs >>= (λ n ys. name ys >>= (λ x zs. Ok (record { count = n; class = x }, zs)))

module _ {A : Type 0} (item : Parser A) where
  -- items with commas between them, after those that are found; the number bounds the turns
  unfoldable pub more_items : ℕ → List A → Parser (List A)
  more_items zero found xs = Err no_tree
  more_items (suc n) found xs =
      item xs >>= (λ a ys. if sees o.Comma ys then more_items n (found ++ a ∷ []) (next ys) else Ok (found ++ a ∷ [], ys))

  -- the clause with this word, or nothing
  unfoldable pub list_clause : ContractWord → Parser (List A)
  list_clause w xs = if sees_text (word_text w) xs then more_items (length xs) [] (next xs) else Ok ([], xs)

-- ---- contracts and spec methods, whose parts have the height n at most

abbrev pub contract_of : Option IntsTree → List TermTree → List AddedTree → ℕ → TermTree → ContractTree
contract_of ints modifies adds at t = record { ints = ints; modifies = modifies; adds = adds; at = at; ensured = t }

abbrev pub spec_of : ℕ → TypeTree → Ident → List ParamTree → TermTree → SpecTree
spec_of at ty x ps t = record { at = at; ty = ty; name = x; params = ps; term = t }

module _ (n : ℕ) where
  -- a term of level `least` or above, without its height
  unfoldable pub term_from : ℕ → Parser TermTree
  term_from least xs = read_term n least xs >>= (λ a ys. Ok (a.0, ys))

  -- the clause `ensures`
  unfoldable pub ensures_clause : Parser TermTree
  ensures_clause xs = expect_text (word_text word.Ensures) xs >>= (λ _ ys. term_from 1 ys)

  unfoldable pub contract_node : Parser ContractTree
  contract_node xs =
      ints xs >>= (λ i ys. list_clause (term_from 11) word.Modifies ys >>= (λ ms zs. list_clause added word.Adds zs >>= (λ cs us.
      ensures_clause us >>= (λ t vs. Ok (contract_of i ms cs (place us) t, vs)))))

  -- after the parameters of a spec method
  unfoldable pub definition : Parser TermTree
  definition xs =
      expect o.Assign xs >>= (λ _ ys. term_from 1 ys >>= (λ t zs. expect o.Semicolon zs >>= (λ _ us. Ok (t, us))))

  -- after the name of a spec method
  unfoldable pub defined : ℕ → TypeTree → Ident → Parser SpecTree
  defined at ty x xs = params n xs >>= (λ ps ys. definition ys >>= (λ t zs. Ok (spec_of at ty x ps t, zs)))

  -- after `spec`
  unfoldable pub declared : ℕ → Parser SpecTree
  declared at xs = type_tree n xs >>= (λ ty ys. ident ys >>= (λ x zs. defined at ty x zs))

  unfoldable pub spec_node : Parser SpecTree
  spec_node xs = expect_text (codes "spec") xs >>= (λ _ ys. declared (place xs) ys)

-- a contract of at most this height
unfoldable pub read_contract : ℕ → Parser ContractTree
read_contract zero xs = none_fits xs
read_contract (suc n) xs = contract_node n xs

-- a spec method of at most this height
unfoldable pub read_spec : ℕ → Parser SpecTree
read_spec zero xs = none_fits xs
read_spec (suc n) xs = spec_node n xs
