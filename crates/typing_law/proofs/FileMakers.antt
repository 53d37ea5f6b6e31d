-- The constructors that a file's symbols name are those of its program.
use Rattle.std.proofs.Common.{◌≡◌, ◌∙◌, ℕ, zero, suc, ◌+◌, ◌-◌, ◌≤◌, false, IsTrue, List, [], ◌∷◌, length, map, Option, Some, None, option_map, slice_get, refl, subst, sym, ap, arith, if◌then◌else◌}
use Rattle.std.specs.Prelude.{option_and_then, nat_eq, position}
use Rattle.std.specs.List.{flat_map, list_all}
use Rattle.std.proofs.lemmas.Option.{none-some, same_Some, option_and_then_some, slice_get-map, get_or_from_slice_get}
use Rattle.std.proofs.lemmas.Bool.{eqb-true}
use Rattle.std.proofs.lemmas.List.Quantifiers.{position-Some}
use Rattle.core_tree.specs.declared.program.Maker.{Maker}
use Rattle.java_syntax.specs.declared.class.Member.{Member}
use Rattle.java_syntax.specs.declared.class.Member.TheVariants as member
use Rattle.class_table.specs.declared.row.MakerRow.{MakerRow}
use Rattle.class_table.specs.Names.{Name}
use Rattle.class_table.specs.Members.{makers_in, maker_row}
use Rattle.java_names.specs.declared.numbers.Numbers.{Numbers}
use Rattle.java_names.specs.declared.symbol.MakerSymbol.{MakerSymbol}
use Rattle.core_tree.specs.BuiltIn.{is_built_in}
use Rattle.java_names.specs.Numbers.{made_for, numbers_after}
use Rattle.java_names.specs.Symbols.{maker_symbol, maker_symbols, maker_arities, following}
use Rattle.java_names.specs.Types.{declared_type, declared_types}
use Rattle.class_table.specs.declared.row.ClassRow.{ClassRow}
use Rattle.java_exprs.specs.declared.environment.Environment.{Environment}
use Rattle.java_members.specs.Bodies.{core_maker}
use Rattle.java_members.specs.Files.{own_maker, of_members, of_made}
use Rattle.std.proofs.lemmas.List.{length-map}
use Rattle.core_tree.specs.WellTyped.{is_value}
use Rattle.java_syntax.specs.declared.class.FileTree.{FileTree}
use Rattle.class_table.specs.declared.row.ClassTable.{ClassTable}
use Rattle.class_table.specs.Table.{table_of}
use Rattle.java_names.specs.Numbers.{first_numbers}
use Rattle.java_names.specs.Symbols.{names_of}
use Rattle.primitive_operators.specs.declared.scalar.Scalar.{Scalar}
use Rattle.java_members.specs.Bodies.{made_maker}
use Rattle.java_members.specs.Declarations.{declaration_faults}
use Rattle.typing_law.specs.Agrees.{AgreesOnMaker}
use Rattle.typing_law.proofs.Scopes.{get_before}
use Rattle.typing_law.proofs.Tables.{numbers_at, env_with, program_with, class_within}
use Rattle.typing_law.proofs.Numbered.{stands_at}
use Rattle.typing_law.proofs.FileClasses.{tree_at, of_class, maker_values}
use Rattle.typing_law.proofs.Found.{numbers_one}

-- the number of the n-th of some members, the first of which has a number
unfoldable pub shifted : Option ℕ → ℕ → Option ℕ
shifted number n = option_map (λ k. k + n) number

pub first_shifted : (number : Option ℕ) → number ≡ option_map (λ k. k + 0) number
first_shifted None = refl
first_shifted (Some k) = let e : k ≡ k + 0 = omega arith in ap Some e

pub next_shifted : (n : ℕ) (number : Option ℕ) → option_map (λ k. k + n) (following number) ≡ option_map (λ k. k + suc n) number
next_shifted n None = refl
next_shifted n (Some k) = ap Some (numbers_one k n)

pub maker_symbol_at : (names : List Name) (owner : ℕ) (number : Option ℕ) (rows : List MakerRow) (n : ℕ) → slice_get (maker_symbols names owner number rows) n ≡ option_map (maker_symbol names owner (shifted number n)) (slice_get rows n)
unfolding shifted
maker_symbol_at names owner number [] n = refl
maker_symbol_at names owner number (m ∷ more) zero = ap (λ k. Some (maker_symbol names owner k m)) (first_shifted number)
maker_symbol_at names owner number (m ∷ more) (suc n) = maker_symbol_at names owner (following number) more n ∙ ap (λ k. option_map (maker_symbol names owner k) (slice_get more n)) (next_shifted n number)

-- ---- the constructors of the file by their numbers

abbrev pub IsMakerOf : Environment → ℕ → MakerRow → Maker → Type 0
IsMakerOf env c y x = (x.owner ≡ c) × (x.params ≡ declared_types env.symbols.names y.params)

pub maker_lengths : (env : Environment) (c : ℕ) (members : List Member) → length (flat_map (own_maker env c) members) ≡ length (makers_in members)
maker_lengths env c [] = refl
maker_lengths env c (member.Maker m ∷ more) = ap suc (maker_lengths env c more)
maker_lengths env c (_ ∷ more) = maker_lengths env c more

pub maker_found : (env : Environment) (c : ℕ) (members : List Member) (i : ℕ) (y : MakerRow) → slice_get (makers_in members) i ≡ Some y → (x : Maker) × (slice_get (flat_map (own_maker env c) members) i ≡ Some x) × IsMakerOf env c y x
maker_found env c [] i y is = absurd (none-some y is)
maker_found env c (member.Maker m ∷ more) zero y is = (core_maker env c m, refl, (refl, ap (λ r. declared_types env.symbols.names r.params) (same_Some (maker_row m) y is)))
maker_found env c (member.Maker m ∷ more) (suc i) y is = maker_found env c more i y is
maker_found env c (_ ∷ more) i y is = maker_found env c more i y is

pub maker_counts : (n : ℕ) (numbers : Numbers) (row : ClassRow) → is_built_in n ≡ false → (numbers_after n numbers row).maker ≡ numbers.maker + length row.makers
maker_counts n numbers row other = ap (λ b. (if b then numbers else record { method = numbers.method + length row.methods; maker = numbers.maker + length row.makers; made = numbers.made + made_for n row }).maker) other

-- what is found by its number of parameters
pub arity_of : {X : Type 0} (arity_of_row : X → ℕ) (rows : List X) (arity n : ℕ) (y : X) → position (nat_eq arity) (map arity_of_row rows) ≡ Some n → slice_get rows n ≡ Some y → arity_of_row y ≡ arity
arity_of f rows arity n y is is_y =
    let found = (position-Some (nat_eq arity) (map f rows) n 0 is).1 in
    let there : slice_get (map f rows) n ≡ Some (f y) = slice_get-map f rows n ∙ ap (option_map f) is_y in
    sym (eqb-true arity (f y) (ap (nat_eq arity) (sym (get_or_from_slice_get (map f rows) n (f y) 0 there)) ∙ found))

pub found_by : {X Y : Type 0} (f : X → Y) (found : Option X) (y : Y) → option_map f found ≡ Some y → (x : X) × (found ≡ Some x) × (y ≡ f x)
found_by f None y is = absurd (none-some y is)
found_by f (Some x) y is = (x, refl, sym (same_Some _ _ is))

-- a constructor that is written
pub written_found : (names : List Name) (c : ℕ) (number : Option ℕ) (ms : List MakerRow) (arity : ℕ) (m : MakerSymbol) → option_and_then (λ n. slice_get (maker_symbols names c number ms) n) (position (nat_eq arity) (maker_arities ms)) ≡ Some m →
    (n : ℕ) × (y : MakerRow) × (slice_get ms n ≡ Some y) × (m ≡ maker_symbol names c (shifted number n) y) × (length y.params ≡ arity)
written_found names c number ms arity m is =
    option_and_then_some (λ n. slice_get (maker_symbols names c number ms) n) (position (nat_eq arity) (maker_arities ms)) m is (λ n is_n is_m.
    let y = found_by (maker_symbol names c (shifted number n)) (slice_get ms n) m (sym (maker_symbol_at names c number ms n) ∙ is_m) in
    (n, y.0, y.1, y.2, arity_of (λ m. length m.params) ms arity n y.0 is_n y.1))

module _ (tree : FileTree) (constants : List (ℕ × Option Scalar)) (none : of_members (declaration_faults (env_with (table_of tree) tree [])) 18 tree.classes ≡ []) where
  abbrev table : ClassTable
  table = table_of tree

  -- a constructor that class c of the file writes
  pub written_agrees : (c : ℕ) (row : ClassRow) (arity : ℕ) (m : MakerSymbol) → 18 ≤ c → slice_get table.classes c ≡ Some row →
      option_and_then (λ n. slice_get (maker_symbols (names_of table.classes) c (Some (numbers_at 0 (first_numbers table.classes) table.classes c).maker) row.makers) n) (position (nat_eq arity) (maker_arities row.makers)) ≡ Some m →
      AgreesOnMaker (program_with table tree constants) c arity m
  unfolding shifted
  written_agrees c row arity m least is_row is =
      let env = env_with table tree constants in
      let number = (numbers_at 0 (first_numbers table.classes) table.classes c).maker in
      let found = written_found (names_of table.classes) c (Some number) row.makers arity m is in
      let at = tree_at tree.classes c row least is_row in
      let faults = of_class (declaration_faults (env_with table tree [])) 18 tree.classes (c - 18) at.tree none at.place in
      let place : 18 + (c - 18) ≡ c = omega arith in
      let is_y : slice_get (makers_in at.tree.members) found.0 ≡ Some found.1 = ap (λ r. slice_get r.makers found.0) (sym at.row_is) ∙ found.2 in
      let values = maker_values (env_with table tree []) (program_with table tree constants) (class_within table tree constants) c at.tree.members found.0 found.1 (ap (λ n. flat_map (declaration_faults (env_with table tree []) n) at.tree.members) (sym place) ∙ faults) is_y in
      let stands = stands_at (own_maker env) makers_in (λ r. r.makers) (λ n. n.maker) (IsMakerOf env) (λ all known c k. refl) maker_counts (maker_lengths env) (maker_found env) tree.classes (first_numbers table.classes) refl c found.0 row found.1 least is_row found.2 in
      record {
        same_arity = ap (λ s. length s.params) found.3 ∙ length-map found.1.params (declared_type (names_of table.classes)) ∙ found.4;
        params = subst (λ s. IsTrue (list_all (is_value (program_with table tree constants)) s.params)) (sym found.3) values;
        of_file = λ k is_k.
            let same : number + found.0 ≡ k = same_Some _ _ (sym (ap (λ s. s.number) found.3) ∙ is_k) in (
              stands.0,
              ap (slice_get (program_with table tree constants).makers) (sym same) ∙ get_before (of_members (own_maker env) 18 tree.classes) (of_made (λ c k. made_maker env c ∷ []) 18 tree.classes) (number + found.0) stands.0 stands.1,
              stands.2.1 ∙ ap (λ s. s.params) (sym found.3),
              stands.2.0,
            );
        built_in = λ is_none. absurd (none-some (number + found.0) (sym is_none ∙ ap (λ s. s.number) found.3));
      }
