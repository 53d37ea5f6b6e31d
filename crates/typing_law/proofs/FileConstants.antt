-- The constants of a file that breaks no rule have values of their types.
use Rattle.std.proofs.Common.{◌≡◌, ◌∙◌, ⊎_elim, ℕ, zero, suc, ◌+◌, Bool, true, false, not, ◌||◌, ◌&&◌, ◌==◌, IsTrue, List, [], ◌∷◌, ◌++◌, Option, Some, None, option_map, slice_get, refl, subst, sym, ap, arith, if◌then◌else◌}
use Rattle.std.specs.Prelude.{option_and_then, unwrap_or, find}
use Rattle.std.specs.List.{flat_map}
use Rattle.std.specs.Option.{option_map_or}
use Rattle.std.proofs.lemmas.Option.{none-some, same_Some}
use Rattle.std.proofs.lemmas.Bool.{false≢true, eqb-true, eq-eqb, or_cases}
use Rattle.core_tree.specs.declared.ty.Ty.{Ty}
use Rattle.core_tree.specs.declared.ty.Ty.TheVariants as ty
use Rattle.core_tree.specs.declared.program.Class.{Class as CoreClass}
use Rattle.core_tree.specs.Typing.{is_int_number}
use Rattle.core_tree.specs.Types.{is_int, is_boolean, is_string, is_void}
use Rattle.token_reading.specs.declared.fault.Fault.{Fault}
use Rattle.java_syntax.specs.declared.expression.Expr.{Expr}
use Rattle.java_syntax.specs.declared.class.ClassTree.{ClassTree}
use Rattle.java_syntax.specs.declared.class.FieldTree.{FieldTree}
use Rattle.java_syntax.specs.declared.class.FileTree.{FileTree}
use Rattle.java_syntax.specs.declared.class.Member.{Member}
use Rattle.java_syntax.specs.declared.class.Member.TheVariants as member
use Rattle.token_reading.specs.declared.name.TypeTree.{TypeTree}
use Rattle.class_table.specs.declared.row.ClassTable.{ClassTable}
use Rattle.class_table.specs.Declarations.{declaration, declared_of}
use Rattle.class_table.specs.Faults.{Clear}
use Rattle.class_table.specs.Fields.{fields_at}
use Rattle.class_table.specs.Members.{field_row, fields_in, is_static}
use Rattle.class_table.specs.Names.{Name, class_names}
use Rattle.class_table.specs.Rules.{Breaks}
use Rattle.class_table.specs.Table.{table_of}
use Rattle.class_table.specs.TableFacts.{IsTable}
use Rattle.java_names.specs.declared.symbol.FieldSymbol.{FieldSymbol}
use Rattle.java_names.specs.Types.{declared_type}
use Rattle.java_exprs.specs.declared.environment.Environment.{Environment}
use Rattle.primitive_operators.specs.declared.scalar.Scalar.{Scalar}
use Rattle.primitive_operators.specs.declared.scalar.Scalar.TheVariants as scalar
use Rattle.java_exprs.specs.declared.folded.Folded.{Folded}
use Rattle.java_exprs.specs.declared.folded.Folded.TheVariants as folded
use Rattle.java_exprs.specs.Attr.{Attr, unless, of_rule, value_faults, named_10, nothing_11, bare_19}
use Rattle.java_denotes.specs.Members.{value_type}
use Rattle.java_denotes.specs.Types as rules
use Rattle.java_exprs.specs.Rules.{wants, wants_type}
use Rattle.java_exprs.specs.Checks.{attr}
use Rattle.java_exprs.specs.Constants.{read_folded, field_folded, folded_of, literal_of}
use Rattle.java_exprs.specs.Lookups.{member_of, constant_at, type_named}
use Rattle.java_members.specs.Constants.{Reading, initialiser_folded, is_initialiser, initialiser_20, constant_faults_of, constant_faults, where_sound, constant_value, read_constant, read_member, read_members, read_classes}
use Rattle.java_members.specs.Declarations.{declared_10, declared_11, declared_20, declaration_faults, is_constant_type, constant_type_20, field_words_20}
use Rattle.java_names.specs.Scope.{constant_scope}
use Rattle.java_members.specs.Files.{of_members, env_of, reading_of}
use Rattle.typing_law.specs.Agrees.{is_literal_of}
use Rattle.token_law.specs.Tokens.{HasOwnTokens}
use Rattle.core_tree.proofs.TypeFacts as facts
use Rattle.typing_law.proofs.NoFaults.{empty_parts, empty_rule, unless_empty, only_if_empty, no_place}
use Rattle.typing_law.proofs.Scopes.{get_before}
use Rattle.typing_law.proofs.Spelled.{known_type}
use Rattle.typing_law.proofs.Tables.{env_with, program_with}
use Rattle.typing_law.proofs.FileClasses.{behind}
use Rattle.typing_law.proofs.FileLookups.{calls_agree}
use Rattle.typing_law.proofs.FileMethods.{all_names}
use Rattle.typing_law.proofs.FieldRows.{Each, each_append}
use Rattle.typing_law.proofs.FileMembers.{Stands, FieldFound, field_found}
use Rattle.typing_law.proofs.LiteralKinds.{Kind, AnInt, ABool, AText, ANull, kind_type, null_kind, widens_test, Fits, value_widens}
use Rattle.typing_law.proofs.FoldedNodes.{Matches, ReadFits, folded_sound}
use Rattle.typing_law.proofs.Found.{find_there, not_false, numbers_shift}

abbrev Entries : Type 0
Entries = List (ℕ × Option Scalar)

-- ---- the first entry of a token

found_in : {X : Type 0} (test : X → Bool) (xs : List X) (x : X) → find test xs ≡ Some x → (k : ℕ) × (slice_get xs k ≡ Some x) × (test x ≡ true)
found_in test [] x is = absurd (none-some x is)
found_in test (y ∷ xs) x is = cases (found_in test xs x) (test y) refl is
  where
    cases : (find test xs ≡ Some x → (k : ℕ) × (slice_get xs k ≡ Some x) × (test x ≡ true)) → (b : Bool) → test y ≡ b → (if b then Some y else find test xs) ≡ Some x → (k : ℕ) × (slice_get (y ∷ xs) k ≡ Some x) × (test x ≡ true)
    cases more true holds is = (zero, is, ap test (sym (same_Some y x is)) ∙ holds)
    cases more false fails is = let there = more is in (suc there.0, there.1, there.2)

-- ---- kinds of constants

literal_fits : (v : Scalar) (k : Kind) → Fits v k → null_kind k ≡ false → IsTrue (is_literal_of v (kind_type k))
literal_fits (scalar.Int n) AnInt fits is = ap (λ b. b && is_int_number n) facts.is_int-Int ∙ fits
literal_fits (scalar.Bool b) ABool fits is = facts.is_boolean-Bool
literal_fits (scalar.Text t) AText fits is = facts.is_string-Text
literal_fits scalar.Null AText fits is = facts.is_string-Text
literal_fits scalar.Null ANull fits is = absurd (false≢true (sym is))
literal_fits _ _ fits is = absurd fits

-- a type of constants
record IsKind (t : Ty) : Type 0 where
  kind : Kind
  is : t ≡ kind_type kind
  other : null_kind kind ≡ false

constant_kind : (t : Ty) → IsTrue (is_constant_type t) → IsKind t
constant_kind t passes =
    ⊎_elim (λ int. record { kind = AnInt; is = facts.int_type t int; other = refl })
    (λ more. ⊎_elim (λ bool. record { kind = ABool; is = facts.boolean_type t bool; other = refl }) (λ text. record { kind = AText; is = facts.string_type t text; other = refl }) (or_cases (is_boolean t) (is_string t) more))
    (or_cases (is_int t) (is_boolean t || is_string t) passes)

not_void : (k : Kind) → is_void (kind_type k) ≡ false
not_void AnInt = facts.is_void-Int
not_void ABool = facts.is_void-Bool
not_void AText = facts.is_void-Text
not_void ANull = facts.is_void-Null

-- the type of a constant that is declared without a fault
declared_kind : (env : Environment) (c : ℕ) (f : FieldTree) → declaration_faults env c (member.Field f) ≡ [] → is_static f.mods ≡ true → IsKind (declared_type env.symbols.names f.ty)
declared_kind env c f none static =
    let m = member.Field f in
    let e10 = empty_rule 10 (declared_10 env c m) (of_rule 11 (declared_11 env m) (of_rule 20 (declared_20 env m) [])) none in
    let e11 = empty_rule 11 (declared_11 env m) (of_rule 20 (declared_20 env m) []) e10.1 in
    let e20 = empty_rule 20 (declared_20 env m) [] e11.1 in
    let kinds = (empty_parts (field_words_20 f.mods f.name.at) (constant_type_20 env f) e20.0).1 in
    let known = known_type env f.ty e10.0 in
    let fails : (is_static f.mods && option_map_or (λ t. not (is_constant_type t)) (type_named env f.ty) false) ≡ false = only_if_empty _ f.name.at kinds in
    let holds : not (is_constant_type known.0) ≡ false = sym (ap (λ b. b && option_map_or (λ t. not (is_constant_type t)) (type_named env f.ty) false) static ∙ ap (λ found. option_map_or (λ t. not (is_constant_type t)) found false) known.1) ∙ fails in
    subst (λ found. IsKind (unwrap_or found ty.Void)) (sym known.1) (constant_kind known.0 (not_false (is_constant_type known.0) holds))

-- ---- the fields among some members

in_fields : (c : ℕ) (members : List Member) (n : ℕ) (f : FieldTree) → slice_get members n ≡ Some (member.Field f) → (i : ℕ) × (slice_get (fields_in c members) i ≡ Some (field_row c f))
in_fields c [] n f is = absurd (none-some _ is)
in_fields c (member.Field g ∷ more) zero f is = (zero, ap (λ m. slice_get (fields_in c (m ∷ more)) zero) (same_Some _ _ is))
in_fields c (member.Field g ∷ more) (suc n) f is = let there = in_fields c more n f is in (suc there.0, there.1)
in_fields c (member.Method m ∷ more) (suc n) f is = in_fields c more n f is
in_fields c (member.Maker m ∷ more) (suc n) f is = in_fields c more n f is
in_fields c (member.Empty ∷ more) (suc n) f is = in_fields c more n f is
in_fields c (_ ∷ more) zero f is = cc

-- ---- what is read

module _ (tree : FileTree) (is_table : IsTable (table_of tree)) (clear : Clear (Breaks tree)) (none : of_members (declaration_faults (env_with (table_of tree) tree [])) 18 tree.classes ≡ []) (own : HasOwnTokens tree) where
  abbrev table : ClassTable
  table = table_of tree

  names : List Name
  names = all_names tree [] none

  abbrev first : Environment
  first = env_with table tree []

  -- an entry has a value of the type of a declaration by its token
  record IsRead (at : ℕ) (o : Option Scalar) : Type 0 where
    value : Scalar
    is : o ≡ Some value
    spelled : TypeTree
    stands : Stands tree [] none at spelled
    kind : IsKind (declared_type (all_names tree [] none) spelled)
    fits : Fits value kind.kind

  abbrev AllRead : Entries → Type 0
  AllRead = Each (λ e. IsRead e.0 e.1)

  abbrev Has : Entries → ℕ → Type 0
  Has cs at = (i : ℕ) × (e : ℕ × Option Scalar) × (slice_get cs i ≡ Some e) × (e.0 ≡ at)

  -- what is read by the token of a field has the field's type
  same_type : (at : ℕ) (t u : TypeTree) → Stands tree [] none at t → Stands tree [] none at u → t ≡ u
  same_type at t u a b = sym a.5 ∙ own a.0 b.0 a.1 b.1 a.2 b.2 a.3 b.3 (a.4 ∙ sym b.4) ∙ b.5

  read_type : (cs : Entries) (c : ℕ) (m : FieldSymbol) (found : FieldFound tree cs none c m) (o : Option Scalar) → (read : IsRead m.at o) → m.ty ≡ kind_type read.kind.kind
  read_type cs c m found o read =
      let row = found.row in
      let at : m.at ≡ row.at = ap (λ s. s.at) found.is_symbol in
      ap (λ s. s.ty) found.is_symbol
      ∙ ap (declared_type (all_names tree [] none)) (same_type row.at row.ty read.spelled found.known.stands (subst (λ n. Stands tree [] none n read.spelled) at read.stands))
      ∙ read.kind.is

  read_fits : (cs : Entries) → AllRead cs → (c : ℕ) (x : Name) (m : FieldSymbol) → member_of (env_with table tree cs) c x ≡ Some m → ReadFits m.ty (field_folded (env_with table tree cs) m)
  read_fits cs all c x m is = cases (find (λ e. e.0 == m.at) cs) refl
    where
      of_value : (o : Option Scalar) (v : Scalar) (k : Kind) → o ≡ Some v → m.ty ≡ kind_type k → Fits v k → ReadFits m.ty (read_folded (Some o))
      of_value o v k is_o type fits = subst (λ o. ReadFits m.ty (read_folded (Some o))) (sym is_o) (k, type, fits)

      cases : (e : Option (ℕ × Option Scalar)) → find (λ e. e.0 == m.at) cs ≡ e → ReadFits m.ty (read_folded (option_map (λ c. c.1) e))
      cases None is_found = tt
      cases (Some e) is_found =
          let there = found_in (λ e. e.0 == m.at) cs e is_found in
          let read = subst (λ n. IsRead n e.1) (eqb-true e.0 m.at there.2) (all there.0 e there.1) in
          of_value e.1 read.value read.kind.kind read.is (read_type cs c m (field_found tree cs none c x m is) e.1 read) read.fits

  -- ---- one constant

  abbrev faultless : Attr → List Fault
  faultless e = of_rule 10 (named_10 e) (of_rule 11 (nothing_11 e) (of_rule 19 (bare_19 e) []))

  initial_value : (cs : Entries) → AllRead cs → (c : ℕ) (f : FieldTree) (k : Kind) → declared_type (all_names tree [] none) f.ty ≡ kind_type k → constant_faults (env_with table tree cs) c f ≡ [] →
      (v : Scalar) × (constant_value (env_with table tree cs) c f ≡ Some v) × Fits v k
  initial_value cs all c f k type clear_of =
      let env = env_with table tree cs in
      let parts = empty_parts (option_map_or (constant_faults_of env c f) f.value []) (of_rule 20 (initialiser_20 env c f) []) clear_of in
      let rule_20 = (empty_rule 20 (initialiser_20 env c f) [] parts.1).0 in
      let is_one : is_initialiser (initialiser_folded env c f) ≡ true = unless_empty _ f.name.at rule_20 in
      let valued = of_expr f.value refl is_one parts.0 in
      (valued.0, ap (λ faults. where_sound faults (literal_of (initialiser_folded env c f))) clear_of ∙ valued.1, valued.2)
    where
      classes : List CoreClass
      classes = (program_with table tree cs).classes

      of_folded : (e : Expr) (g : Folded) → Matches (attr (env_with table tree cs) (constant_scope c) e).denotes g → is_initialiser g ≡ true → wants_type (env_with table tree cs) (declared_type (all_names tree [] none) f.ty) (attr (env_with table tree cs) (constant_scope c) e) ≡ [] →
          (v : Scalar) × (literal_of g ≡ Some v) × Fits v k
      of_folded e folded.Unknown matches is_one wants_none = absurd matches
      of_folded e (folded.Gives v) matches is_one wants_none =
          let env = env_with table tree cs in
          let a = attr env (constant_scope c) e in
          let asked : wants_type env (kind_type k) a ≡ [] = subst (λ t. wants_type env t a ≡ []) type wants_none in
          let of_value : wants (λ from. rules.is_assignable env.symbols from (kind_type k)) a ≡ [] = subst (λ b. (if b then [] else wants (λ from. rules.is_assignable env.symbols from (kind_type k)) a) ≡ []) (not_void k) asked in
          let fits : rules.is_assignable env.symbols (kind_type matches.0) (kind_type k) ≡ true = unless_empty _ a.at (subst (λ d. option_map_or (λ t. unless (rules.is_assignable env.symbols t (kind_type k)) a.at) (value_type d) [] ≡ []) matches.1 of_value) in
          let calls = calls_agree tree cs is_table clear none in
          (v, refl, value_widens matches.0 k v (sym (widens_test env.symbols (program_with table tree cs).classes calls.below matches.0 k) ∙ fits) matches.2)
      of_folded e _ matches is_one wants_none = absurd (false≢true is_one)

      of_expr : (o : Option Expr) → f.value ≡ o → is_initialiser (option_map_or (folded_of (env_with table tree cs) (constant_scope c)) o folded.Other) ≡ true → option_map_or (constant_faults_of (env_with table tree cs) c f) o [] ≡ [] →
          (v : Scalar) × (literal_of (option_map_or (folded_of (env_with table tree cs) (constant_scope c)) o folded.Other) ≡ Some v) × Fits v k
      of_expr None is is_one faults = absurd (false≢true is_one)
      of_expr (Some e) is is_one faults =
          let env = env_with table tree cs in
          let a = attr env (constant_scope c) e in
          let parts = empty_parts (value_faults a) (of_rule 11 (wants_type env (declared_type env.symbols.names f.ty) a) []) faults in
          let here = (empty_parts a.faults (faultless a) parts.0).0 in
          let calls = calls_agree tree cs is_table clear none in
          of_folded e (folded_of env (constant_scope c) e) (folded_sound env (constant_scope c) (program_with table tree cs).classes calls.below (read_fits cs all) e here) is_one (empty_rule 11 (wants_type env (declared_type env.symbols.names f.ty) a) [] parts.1).0

  -- ---- faults of a part are faults of the whole

  member_before : (c : ℕ) (m : Member) (before : Reading) → (read_member first c m before).faults ≡ [] → before.faults ≡ []
  member_before c (member.Field f) before faults = cases (is_static f.mods) faults
    where
      cases : (b : Bool) → (if b then read_constant first c f before else before).faults ≡ [] → before.faults ≡ []
      cases true faults = (empty_parts before.faults (constant_faults (env_with table tree before.constants) c f) faults).0
      cases false faults = faults
  member_before c _ before faults = faults

  members_before : (c : ℕ) (members : List Member) (before : Reading) → (read_members first c members before).faults ≡ [] → before.faults ≡ []
  unfolding read_members
  members_before c [] before faults = faults
  members_before c (m ∷ more) before faults = member_before c m before (members_before c more (read_member first c m before) faults)

  classes_before : (c : ℕ) (ks : List ClassTree) (before : Reading) → (read_classes first c ks before).faults ≡ [] → before.faults ≡ []
  unfolding read_classes
  classes_before c [] before faults = faults
  classes_before c (k ∷ ks) before faults = members_before c k.members before (classes_before (suc c) ks (read_members first c k.members before) faults)

  -- ---- all constants

  abbrev Kept : Reading → Reading → Type 0
  Kept before after = (at : ℕ) → Has before.constants at → Has after.constants at

  abbrev Reads : List Member → Reading → Type 0
  Reads members after = (i : ℕ) (f : FieldTree) → slice_get members i ≡ Some (member.Field f) → is_static f.mods ≡ true → Has after.constants f.name.at

  -- the constant of a field is declared by its token
  field_stands : (j : ℕ) (k : ClassTree) → slice_get tree.classes j ≡ Some k → (i : ℕ) (f : FieldTree) → slice_get k.members i ≡ Some (member.Field f) → Stands tree [] none f.name.at f.ty
  field_stands j k is_class i f is =
      let there = in_fields (18 + j) k.members i f is in
      let shape : 18 + j ≡ suc (suc (suc (suc (suc (suc (suc (suc (suc (suc (suc (suc (suc (suc (suc (suc (suc (suc j))))))))))))))))) = omega arith in
      let fields : fields_at (declared_of tree.classes) (18 + j) ≡ fields_in (18 + j) k.members =
      ap (λ found. option_map_or (λ d. d.fields) found []) (ap (slice_get (declared_of tree.classes)) shape ∙ behind tree.classes j ∙ ap (option_map (declaration (class_names tree.classes) (18 + j))) is_class) in
      (18 + j, there.0, field_row (18 + j) f, ap (λ fs. slice_get fs there.0) fields ∙ there.1, refl, refl)

  record IsDone (members : List Member) (before after : Reading) : Type 0 where
    all : AllRead after.constants
    kept : Kept before after
    reads : Reads members after

  -- a member's declaration has no fault, and it stands in a class of the file
  abbrev InFile : ℕ → Member → Type 0
  InFile c m = (declaration_faults first c m ≡ []) × ((f : FieldTree) → m ≡ member.Field f → Stands tree [] none f.name.at f.ty)

  single : (m : Member) (after : Reading) → ((f : FieldTree) → m ≡ member.Field f → is_static f.mods ≡ true → Has after.constants f.name.at) → Reads (m ∷ []) after
  single m after reads zero f is static = reads f (same_Some m (member.Field f) is) static
  single m after reads (suc i) f is static = absurd (none-some _ is)

  has_kept : (cs : Entries) (e : ℕ × Option Scalar) (at : ℕ) → Has cs at → Has (cs ++ e ∷ []) at
  has_kept cs e at has = (has.0, has.1, get_before cs (e ∷ []) has.0 has.1 has.2, has.3)

  has_last : (cs : Entries) (e : ℕ × Option Scalar) → Has (cs ++ e ∷ []) e.0
  has_last [] e = (zero, e, refl, refl)
  has_last (x ∷ cs) e = let there = has_last cs e in (suc there.0, there.1, there.2, there.3)

  member_done : (c : ℕ) (m : Member) → InFile c m → (before : Reading) → AllRead before.constants → (read_member first c m before).faults ≡ [] → IsDone (m ∷ []) before (read_member first c m before)
  member_done c (member.Method m) in_file before all faults = record { all = all; kept = λ at has. has; reads = single (member.Method m) before (λ f is static. cc) }
  member_done c (member.Maker m) in_file before all faults = record { all = all; kept = λ at has. has; reads = single (member.Maker m) before (λ f is static. cc) }
  member_done c member.Empty in_file before all faults = record { all = all; kept = λ at has. has; reads = single member.Empty before (λ f is static. cc) }
  member_done c (member.Field f) in_file before all faults = cases (is_static f.mods) refl faults
    where
      same_field : (g : FieldTree) → member.Field f ≡ member.Field g → f ≡ g
      same_field g is = cc

      of_static : is_static f.mods ≡ true → (read_constant first c f before).faults ≡ [] → IsDone (member.Field f ∷ []) before (read_constant first c f before)
      of_static static faults =
          let kind = declared_kind first c f in_file.0 static in
          let value = initial_value before.constants all c f kind.kind kind.is (empty_parts before.faults (constant_faults (env_with table tree before.constants) c f) faults).1 in
          let entry : ℕ × Option Scalar = (f.name.at, constant_value (env_with table tree before.constants) c f) in
          let read : IsRead f.name.at (constant_value (env_with table tree before.constants) c f) = record { value = value.0; is = value.1; spelled = f.ty; stands = in_file.1 f refl; kind = kind; fits = value.2 } in
          record {
            all = each_append (λ e. IsRead e.0 e.1) before.constants (entry ∷ []) all (one entry read);
            kept = has_kept before.constants entry;
            reads = single (member.Field f) (read_constant first c f before) (λ g is static_g. subst (λ h. Has (before.constants ++ entry ∷ []) h.name.at) (same_field g is) (has_last before.constants entry));
          }
        where
          one : (e : ℕ × Option Scalar) → IsRead e.0 e.1 → Each (λ e. IsRead e.0 e.1) (e ∷ [])
          one e read zero x is = subst (λ e. IsRead e.0 e.1) (same_Some e x is) read
          one e read (suc i) x is = absurd (none-some x is)

      cases : (b : Bool) → is_static f.mods ≡ b → (if b then read_constant first c f before else before).faults ≡ [] → IsDone (member.Field f ∷ []) before (if b then read_constant first c f before else before)
      cases true static faults = of_static static faults
      cases false other faults = record { all = all; kept = λ at has. has; reads = single (member.Field f) before (λ g is static. absurd (false≢true (sym other ∙ ap (λ h. is_static h.mods) (same_field g is) ∙ static))) }

  members_done : (c : ℕ) (members : List Member) → Each (InFile c) members → (before : Reading) → AllRead before.constants → (read_members first c members before).faults ≡ [] → IsDone members before (read_members first c members before)
  unfolding read_members
  members_done c [] in_file before all faults = record { all = all; kept = λ at has. has; reads = λ i f is static. absurd (none-some _ is) }
  members_done c (m ∷ more) in_file before all faults =
      let after = read_member first c m before in
      let here = member_done c m (in_file zero m refl) before all (members_before c more after faults) in
      let rest = members_done c more (λ i. in_file (suc i)) after here.all faults in
      record { all = rest.all; kept = λ at has. rest.kept at (here.kept at has); reads = joined (read_members first c more after) (here.reads zero) rest }
    where
      joined : (last : Reading) → ((f : FieldTree) → Some m ≡ Some (member.Field f) → is_static f.mods ≡ true → Has (read_member first c m before).constants f.name.at) → IsDone more (read_member first c m before) last → Reads (m ∷ more) last
      joined last here rest zero f is static = rest.kept f.name.at (here f is static)
      joined last here rest (suc i) f is static = rest.reads i f is static

  members_in_file : (c j : ℕ) (k : ClassTree) → slice_get tree.classes j ≡ Some k → (n : ℕ) (members : List Member) → ((i : ℕ) (m : Member) → slice_get members i ≡ Some m → slice_get k.members (n + i) ≡ Some m) → flat_map (declaration_faults first c) members ≡ [] →
      (i : ℕ) (m : Member) → slice_get members i ≡ Some m → InFile c m
  members_in_file c j k is_class n [] here faults i m is = absurd (none-some _ is)
  members_in_file c j k is_class n (x ∷ more) here faults zero m is =
      let clear_here = (empty_parts (declaration_faults first c x) (flat_map (declaration_faults first c) more) faults).0 in
      (subst (λ y. declaration_faults first c y ≡ []) (same_Some x m is) clear_here, λ f is_f. field_stands j k is_class (n + 0) f (here 0 (member.Field f) (is ∙ ap Some is_f)))
  members_in_file c j k is_class n (x ∷ more) here faults (suc i) m is =
      members_in_file c j k is_class (suc n) more (λ i m at. ap (slice_get k.members) (numbers_shift n i) ∙ here (suc i) m at) (empty_parts (declaration_faults first c x) (flat_map (declaration_faults first c) more) faults).1 i m is

  record AreDone (ks : List ClassTree) (before after : Reading) : Type 0 where
    all : AllRead after.constants
    kept : Kept before after
    reads : (i : ℕ) (k : ClassTree) → slice_get ks i ≡ Some k → Reads k.members after

  classes_done : (n c : ℕ) (ks : List ClassTree) → ((i : ℕ) (k : ClassTree) → slice_get ks i ≡ Some k → slice_get tree.classes (n + i) ≡ Some k) → of_members (declaration_faults first) c ks ≡ [] → (before : Reading) → AllRead before.constants → (read_classes first c ks before).faults ≡ [] →
      AreDone ks before (read_classes first c ks before)
  unfolding read_classes of_members
  classes_done n c [] here declared before all faults = record { all = all; kept = λ at has. has; reads = λ i k is. absurd (none-some _ is) }
  classes_done n c (k ∷ ks) here declared before all faults =
      let after = read_members first c k.members before in
      let parts = empty_parts (flat_map (declaration_faults first c) k.members) (of_members (declaration_faults first) (suc c) ks) declared in
      let in_file = members_in_file c (n + 0) k (here 0 k refl) 0 k.members (λ i m is. ap (slice_get k.members) (start i) ∙ is) parts.0 in
      let mine = members_done c k.members in_file before all (classes_before (suc c) ks after faults) in
      let rest = classes_done (suc n) (suc c) ks (λ i k is. ap (slice_get tree.classes) (numbers_shift n i) ∙ here (suc i) k is) parts.1 after mine.all faults in
      record { all = rest.all; kept = λ at has. rest.kept at (mine.kept at has); reads = joined (read_classes first (suc c) ks after) mine.reads rest }
    where
      start : (i : ℕ) → 0 + i ≡ i
      start i = omega arith

      joined : (last : Reading) → Reads k.members (read_members first c k.members before) → AreDone ks (read_members first c k.members before) last → (i : ℕ) (x : ClassTree) → slice_get (k ∷ ks) i ≡ Some x → Reads x.members last
      joined last mine rest zero x is j f is_f static = rest.kept f.name.at (mine j f (ap (λ y. slice_get y.members j) (same_Some k x is) ∙ is_f) static)
      joined last mine rest (suc i) x is j f is_f static = rest.reads i x is j f is_f static

  nothing_read : AllRead []
  nothing_read i e is = absurd (none-some _ is)

  -- every constant that is looked up has a value of its type
  pub constant_agrees : (reading_of table tree).faults ≡ [] → (c : ℕ) (x : Name) (m : FieldSymbol) → member_of (env_of table tree) c x ≡ Some m → m.place ≡ None → (v : Scalar) × (constant_at (env_of table tree) m.at ≡ Some v) × IsTrue (is_literal_of v m.ty)
  constant_agrees faults c x m is no_place =
      let cs = (reading_of table tree).constants in
      let start : (i : ℕ) → 0 + i ≡ i = λ i. omega arith in
      let done = classes_done 0 18 tree.classes (λ i k at. ap (slice_get tree.classes) (start i) ∙ at) none (record { constants = []; faults = [] }) nothing_read faults in
      let found = field_found tree cs none c x m is in
      let row_place : found.row.place ≡ None = sym (ap (λ s. s.place) found.is_symbol) ∙ no_place in
      let constant = found.known.constant row_place in
      let at : constant.field.name.at ≡ m.at = constant.token ∙ sym (ap (λ s. s.at) found.is_symbol) in
      let has = done.reads constant.class constant.tree constant.is_class constant.number constant.field constant.is_field constant.static in
      let first_one = find_there (λ e. e.0 == m.at) cs has.0 has.1 has.2 (eq-eqb has.1.0 m.at (has.3 ∙ at)) in
      let there = found_in (λ e. e.0 == m.at) cs first_one.0 first_one.1 in
      let read = subst (λ n. IsRead n first_one.0.1) (eqb-true first_one.0.0 m.at there.2) (done.all there.0 first_one.0 there.1) in
      let type = read_type cs c m found first_one.0.1 read in
      (read.value, ap (option_and_then (λ e. e.1)) first_one.1 ∙ read.is, subst (λ t. IsTrue (is_literal_of read.value t)) (sym type) (literal_fits read.value read.kind.kind read.fits read.kind.other))
