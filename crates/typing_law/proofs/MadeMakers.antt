-- The constructors that are made for classes without one, and those of built-in classes, agree.
use Rattle.std.proofs.Common.{◌≡◌, ◌∙◌, ⊎_elim, ◌⊎◌, inl, inr, ℕ, zero, suc, ◌+◌, ◌-◌, ◌<◌, ◌≤◌, Bool, true, false, not, ◌&&◌, ◌==◌, IsTrue, List, [], ◌∷◌, ◌++◌, length, Option, Some, None, slice_get, refl, subst, sym, ap, arith, if◌then◌else◌}
use Rattle.std.specs.Prelude.{option_and_then, nat_eq, position}
use Rattle.std.specs.List.{flat_map, list_all}
use Rattle.std.proofs.lemmas.Option.{none-some, same_Some, option_and_then_some}
use Rattle.std.proofs.lemmas.Bool.{ltb-true, ltb-false}
use Rattle.core_tree.specs.declared.ty.Ty.TheVariants as ty
use Rattle.core_tree.specs.declared.program.Maker.{Maker}
use Rattle.java_syntax.specs.declared.class.Member.{Member}
use Rattle.java_syntax.specs.declared.class.Member.TheVariants as member
use Rattle.class_table.specs.declared.row.MakerRow.{MakerRow}
use Rattle.class_table.specs.Names.{Name}
use Rattle.class_table.specs.Members.{makers_in, maker_row}
use Rattle.java_names.specs.declared.numbers.Numbers.{Numbers}
use Rattle.java_names.specs.declared.symbol.MakerSymbol.{MakerSymbol}
use Rattle.core_tree.specs.BuiltIn.{is_built_in}
use Rattle.java_names.specs.Numbers.{made_for, numbers_after}
use Rattle.java_names.specs.Symbols.{maker_symbol, maker_symbols, maker_arities, following}
use Rattle.java_names.specs.Types.{declared_type, declared_types}
use Rattle.class_table.specs.declared.row.ClassRow.{ClassRow}
use Rattle.java_exprs.specs.declared.environment.Environment.{Environment}
use Rattle.java_members.specs.Files.{own_maker, of_members, of_made, is_maker, where_none}
use Rattle.std.proofs.lemmas.List.{length-map, length-append, append_assoc}
use Rattle.core_tree.specs.WellTyped.{is_value}
use Rattle.java_syntax.specs.declared.class.ClassTree.{ClassTree}
use Rattle.java_syntax.specs.declared.class.FileTree.{FileTree}
use Rattle.class_table.specs.declared.declaration.Declaration.{Declaration}
use Rattle.class_table.specs.declared.row.ClassTable.{ClassTable}
use Rattle.class_table.specs.Names.{class_names}
use Rattle.class_table.specs.Declarations.{declaration, declarations, declared_of}
use Rattle.class_table.specs.Table.{row_of, rows_from, table_of}
use Rattle.java_names.specs.BuiltIn.{needs_maker, in_file}
use Rattle.java_names.specs.Lookups.{class_at, maker_in}
use Rattle.java_names.specs.Numbers.{first_numbers, written_from}
use Rattle.java_names.specs.Selectors.{selectors_of}
use Rattle.java_names.specs.Symbols.{class_symbol, makers_of, written_makers, made_makers, names_of, symbols_of}
use Rattle.java_names.specs.Symbols as symbol_specs
use Rattle.java_names.specs.declared.symbol.Makers.{Makers}
use Rattle.primitive_operators.specs.declared.scalar.Scalar.{Scalar}
use Rattle.java_exprs.specs.Lookups.{maker_of}
use Rattle.java_members.specs.Bodies.{made_maker}
use Rattle.java_members.specs.Declarations.{declaration_faults}
use Rattle.typing_law.specs.Agrees.{AgreesOnMaker}
use Rattle.typing_law.proofs.Tables.{row_at, numbers_at, env_with, program_with, class_symbol_at}
use Rattle.typing_law.proofs.Numbered.{get_behind, not_built_in}
use Rattle.class_table.specs.BuiltIn.{built_in, declaration_of, exception_makers, string_type}
use Rattle.class_table.specs.BuiltIn as classes
use Rattle.core_tree.proofs.TypeNodes.{is_value_type-Text}
use Rattle.typing_law.proofs.FileMakers.{shifted, maker_lengths, arity_of, found_by, written_found, written_agrees}
use Rattle.typing_law.proofs.Found.{too_great}

-- ---- constructors that are made

some_or_none : (members : List Member) → ((flat_map is_maker members ≡ []) × (makers_in members ≡ [])) ⊎ ((y : Member) × (ys : List Member) × (z : MakerRow) × (zs : List MakerRow) × (flat_map is_maker members ≡ y ∷ ys) × (makers_in members ≡ z ∷ zs))
some_or_none [] = inl (refl, refl)
some_or_none (member.Maker m ∷ more) = inr (member.Maker m, flat_map is_maker more, maker_row m, makers_in more, refl, refl)
some_or_none (_ ∷ more) = some_or_none more

no_cons : {X : Type 0} (x : X) (xs : List X) → ◌≡◌ {A = List X} (x ∷ xs) [] → ⊥
no_cons x xs e = cc

module _ (env : Environment) (all : List Declaration) (known : List Name) where
  abbrev rows_of : ℕ → List ClassTree → List ClassRow
  rows_of n ks = rows_from all n (declarations known n ks)

  abbrev make : ℕ → ClassTree → List Maker
  make c k = made_maker env c ∷ []

  made_length : (n : ℕ) (k : ClassTree) → is_built_in n ≡ false → length (where_none (flat_map is_maker k.members) (make n k)) ≡ made_for n (row_of all n (declaration known n k))
  made_length n k other = ⊎_elim
      (λ e. ap (λ xs. length (where_none xs (make n k))) e.0 ∙ sym (ap (λ ms. if needs_maker n ms then 1 else 0) e.1 ∙ ap (λ b. if not b then 1 else 0) other))
      (λ e. ap (λ xs. length (where_none xs (make n k))) e.4 ∙ sym (ap (λ ms. if needs_maker n ms then 1 else 0) e.5))
      (some_or_none k.members)

  made_counts : (n : ℕ) (numbers : Numbers) (row : ClassRow) → is_built_in n ≡ false → (numbers_after n numbers row).made ≡ numbers.made + made_for n row
  made_counts n numbers row other = ap (λ b. (if b then numbers else record { method = numbers.method + length row.methods; maker = numbers.maker + length row.makers; made = numbers.made + made_for n row }).made) other

  made_at : (ks : List ClassTree) (n : ℕ) (numbers : Numbers) (front : List Maker) → numbers.made ≡ length front → 18 ≤ n → (j : ℕ) (row : ClassRow) → slice_get (rows_of n ks) j ≡ Some row → row.makers ≡ [] →
      slice_get (front ++ of_made make n ks) (numbers_at n numbers (rows_of n ks) j).made ≡ Some (made_maker env (n + j))
  unfolding of_made numbers_at
  made_at [] n numbers front counted least j row is empty = absurd (none-some row is)
  made_at (k ∷ ks) n numbers front counted least zero row is empty =
      let e : n ≡ n + 0 = omega arith in
      let z : length front ≡ length front + 0 = omega arith in
      let mine : flat_map is_maker k.members ≡ [] = ⊎_elim (λ e. e.0) (λ e. absurd (no_cons e.2 e.3 (sym e.5 ∙ ap (λ r. r.makers) (same_Some _ _ is) ∙ empty))) (some_or_none k.members) in
      ap (λ xs. slice_get (front ++ (where_none xs (make n k) ++ of_made make (suc n) ks)) numbers.made) mine
      ∙ ap (slice_get (front ++ (made_maker env n ∷ of_made make (suc n) ks))) (counted ∙ z) ∙ get_behind front (made_maker env n ∷ of_made make (suc n) ks) 0 ∙ ap (λ m. Some (made_maker env m)) e
  made_at (k ∷ ks) n numbers front counted least (suc j) row is empty =
      let first = row_of all n (declaration known n k) in
      let later = numbers_after n numbers first in
      let mine = where_none (flat_map is_maker k.members) (make n k) in
      let counted_on : later.made ≡ length (front ++ mine) = made_counts n numbers first (not_built_in n least) ∙ ap (λ m. m + made_for n first) counted ∙ ap (λ m. length front + m) (sym (made_length n k (not_built_in n least))) ∙ sym (length-append front mine) in
      let one : n + 1 ≡ suc n = omega arith in
      let e : n + 1 + j ≡ n + suc j = omega arith in
      ap (λ xs. slice_get xs (numbers_at (n + 1) later (rows_of (n + 1) ks) j).made) (sym (append_assoc front mine (of_made make (suc n) ks)) ∙ ap (λ m. (front ++ mine) ++ of_made make m ks) (sym one))
      ∙ made_at ks (n + 1) later (front ++ mine) counted_on (omega arith) j row is empty ∙ ap (λ m. Some (made_maker env m)) e

  -- how many are written
  written_length : (ks : List ClassTree) (n : ℕ) → 18 ≤ n → written_from n (rows_of n ks) ≡ length (of_members (own_maker env) n ks)
  unfolding of_members
  written_length [] n least = refl
  written_length (k ∷ ks) n least =
      let one : n + 1 ≡ suc n = omega arith in
      ap (λ b. (if b then 0 else length (makers_in k.members)) + written_from (n + 1) (rows_of (n + 1) ks)) (not_built_in n least)
      ∙ ap (λ m. length (makers_in k.members) + m) (written_length ks (n + 1) (omega arith) ∙ ap (λ m. length (of_members (own_maker env) m ks)) one)
      ∙ ap (λ m. m + length (of_members (own_maker env) (suc n) ks)) (sym (maker_lengths env n k.members)) ∙ sym (length-append (flat_map (own_maker env n) k.members) (of_members (own_maker env) (suc n) ks))

zeros : (x : ℕ) → 0 + (0 + (0 + (0 + (0 + (0 + (0 + (0 + (0 + (0 + (0 + (0 + (0 + (0 + (0 + (0 + (0 + (0 + x))))))))))))))))) ≡ x
zeros x = omega arith

all_written : (env : Environment) (ks : List ClassTree) → written_from 0 (rows_from (declared_of ks) 0 (declared_of ks)) ≡ length (of_members (own_maker env) 18 ks)
unfolding declared_of built_in
all_written env ks = zeros (written_from 18 (rows_from (declared_of ks) 18 (declarations (class_names ks) 18 ks))) ∙ written_length env (declared_of ks) (class_names ks) ks 18 (omega arith)

behind : (env : Environment) (ks : List ClassTree) (numbers : Numbers) (front : List Maker) → numbers.made ≡ length front → (j : ℕ) (row : ClassRow) → slice_get (rows_from (declared_of ks) 0 (declared_of ks)) (suc (suc (suc (suc (suc (suc (suc (suc (suc (suc (suc (suc (suc (suc (suc (suc (suc (suc j)))))))))))))))))) ≡ Some row → row.makers ≡ [] →
    slice_get (front ++ of_made (λ c k. made_maker env c ∷ []) 18 ks) (numbers_at 0 numbers (rows_from (declared_of ks) 0 (declared_of ks)) (suc (suc (suc (suc (suc (suc (suc (suc (suc (suc (suc (suc (suc (suc (suc (suc (suc (suc j))))))))))))))))))).made ≡ Some (made_maker env (18 + j))
unfolding declared_of built_in numbers_at
behind env ks numbers front counted j row is empty = made_at env (declared_of ks) (class_names ks) ks 18 numbers front counted (omega arith) j row is empty

-- the constructor that is made for class c of the file
pub made_there : (env : Environment) (ks : List ClassTree) (c : ℕ) (row : ClassRow) → 18 ≤ c → slice_get (rows_from (declared_of ks) 0 (declared_of ks)) c ≡ Some row → row.makers ≡ [] →
    slice_get (of_members (own_maker env) 18 ks ++ of_made (λ c k. made_maker env c ∷ []) 18 ks) (numbers_at 0 (first_numbers (rows_from (declared_of ks) 0 (declared_of ks))) (rows_from (declared_of ks) 0 (declared_of ks)) c).made ≡ Some (made_maker env c)
made_there env ks c row least is empty =
    let shape : suc (suc (suc (suc (suc (suc (suc (suc (suc (suc (suc (suc (suc (suc (suc (suc (suc (suc (c - 18)))))))))))))))))) ≡ c = omega arith in
    let place : 18 + (c - 18) ≡ c = omega arith in
    let rows = rows_from (declared_of ks) 0 (declared_of ks) in
    ap (λ k. slice_get (of_members (own_maker env) 18 ks ++ of_made (λ c k. made_maker env c ∷ []) 18 ks) (numbers_at 0 (first_numbers rows) rows k).made) (sym shape)
    ∙ behind env ks (first_numbers rows) (of_members (own_maker env) 18 ks) (all_written env ks) (c - 18) row (ap (slice_get rows) shape ∙ is) empty ∙ ap (λ k. Some (made_maker env k)) place

-- ---- built-in classes

built_makers : (ks : List ClassTree) (c : ℕ) (d : Declaration) → c < 18 → slice_get (declared_of ks) c ≡ Some d → ((d.makers ≡ classes.maker_of [] ∷ []) × (c ≡ 0)) ⊎ ((d.makers ≡ exception_makers) × ((c == 0) ≡ false))
unfolding declared_of built_in
built_makers ks zero d below is = inl (ap (λ d. d.makers) (sym (same_Some _ d is)), refl)
built_makers ks (suc (suc (suc (suc (suc (suc (suc (suc (suc (suc (suc (suc (suc (suc (suc (suc (suc (suc c)))))))))))))))))) d below is = too_great c below
built_makers ks _ d below is = inr (ap (λ d. d.makers) (sym (same_Some _ d is)), refl)

-- a constructor of a built-in class has no parameter, or the message
object_params : (n : ℕ) (y : MakerRow) → slice_get (classes.maker_of [] ∷ []) n ≡ Some y → y.params ≡ []
object_params zero y is = ap (λ r. r.params) (sym (same_Some _ y is))
object_params (suc n) y is = absurd (none-some y is)

exception_params : (n : ℕ) (y : MakerRow) → slice_get exception_makers n ≡ Some y → (y.params ≡ []) ⊎ (y.params ≡ string_type ∷ [])
exception_params zero y is = inl (ap (λ r. r.params) (sym (same_Some _ y is)))
exception_params (suc zero) y is = inr (ap (λ r. r.params) (sym (same_Some _ y is)))
exception_params (suc (suc n)) y is = absurd (none-some y is)

string_declared : (names : List Name) → declared_types names (string_type ∷ []) ≡ ty.Text ∷ []
string_declared names = refl

module _ (tree : FileTree) (constants : List (ℕ × Option Scalar)) (none : of_members (declaration_faults (env_with (table_of tree) tree [])) 18 tree.classes ≡ []) where
  abbrev table : ClassTable
  table = table_of tree

  abbrev all_names : List Name
  all_names = names_of table.classes

  abbrev numbers : ℕ → Numbers
  numbers c = numbers_at 0 (first_numbers table.classes) table.classes c

  abbrev look : ℕ → Makers → Option MakerSymbol
  look arity ms = option_and_then (λ n. slice_get ms.symbols n) (position (nat_eq arity) ms.arities)

  abbrev Agree : ℕ → ℕ → MakerSymbol → Type 0
  Agree c arity m = AgreesOnMaker (program_with table tree constants) c arity m

  built_in_agrees : (c arity : ℕ) (m : MakerSymbol) (ms : List MakerRow) → IsTrue (is_built_in c) → ((n : ℕ) (y : MakerRow) → slice_get ms n ≡ Some y → (y.params ≡ []) ⊎ ((y.params ≡ string_type ∷ []) × ((c == 0) ≡ false))) → look arity (written_makers all_names c None ms) ≡ Some m → Agree c arity m
  unfolding shifted
  built_in_agrees c arity m ms built_in_c params is =
      let found = written_found all_names c None ms arity m is in
      let p = program_with table tree constants in
      let params_is : m.params ≡ declared_types all_names found.1.params = ap (λ s. s.params) found.3 in
      record {
        same_arity = ap length params_is ∙ length-map found.1.params (declared_type all_names) ∙ found.4;
        params = subst (λ ts. IsTrue (list_all (is_value p) ts)) (sym params_is) (⊎_elim
            (λ e. ap (λ ts. list_all (is_value p) (declared_types all_names ts)) e)
            (λ e. ap (λ ts. list_all (is_value p) (declared_types all_names ts)) e.0 ∙ ap (λ b. b && true) (is_value_type-Text (length p.classes)))
            (params found.0 found.1 found.2));
        of_file = λ k is_k. absurd (none-some k (ap (λ s. s.number) (sym found.3) ∙ is_k));
        built_in = λ is_none. (
          built_in_c,
          ⊎_elim
              (λ e. inl (params_is ∙ ap (declared_types all_names) e))
              (λ e. inr (params_is ∙ ap (declared_types all_names) e.0 ∙ string_declared all_names, ap not e.1))
              (params found.0 found.1 found.2),
        );
      }

  made_agrees : (c : ℕ) (row : ClassRow) (arity : ℕ) (m : MakerSymbol) → 18 ≤ c → slice_get table.classes c ≡ Some row → row.makers ≡ [] → look arity (made_makers c (numbers c).made row.at) ≡ Some m → Agree c arity m
  made_agrees c row arity m least is_row empty is =
      let symbol = symbol_specs.made_maker c (numbers c).made row.at in
      option_and_then_some (λ n. slice_get (symbol ∷ []) n) (position (nat_eq arity) (0 ∷ [])) m is (λ n is_n is_m. at n is_n is_m)
    where
      at : (n : ℕ) → position (nat_eq arity) (0 ∷ []) ≡ Some n → slice_get (symbol_specs.made_maker c (numbers c).made row.at ∷ []) n ≡ Some m → Agree c arity m
      at (suc n) is_n is_m = absurd (none-some m is_m)
      at zero is_n is_m =
          let same : symbol_specs.made_maker c (numbers c).made row.at ≡ m = same_Some _ _ is_m in
          record {
            same_arity = ap (λ s. length s.params) (sym same) ∙ arity_of (λ s. length s.params) (symbol_specs.made_maker c (numbers c).made row.at ∷ []) arity 0 (symbol_specs.made_maker c (numbers c).made row.at) is_n refl;
            params = ap (λ s. list_all (is_value (program_with table tree constants)) s.params) (sym same);
            of_file = λ k is_k. (
              made_maker (env_with table tree constants) c,
              ap (slice_get (program_with table tree constants).makers) (sym (same_Some _ _ (ap (λ s. s.number) same ∙ is_k))) ∙ made_there (env_with table tree constants) tree.classes c row least is_row empty,
              ap (λ s. s.params) same,
              refl,
            );
            built_in = λ is_none. absurd (none-some (numbers c).made (sym is_none ∙ ap (λ s. s.number) (sym same)));
          }

  file_agrees : (c : ℕ) (row : ClassRow) (arity : ℕ) (m : MakerSymbol) → is_built_in c ≡ false → slice_get table.classes c ≡ Some row → look arity (makers_of all_names c (numbers c) row) ≡ Some m → Agree c arity m
  file_agrees c row arity m other is_row is = cases row.makers refl is
    where
      least : 18 ≤ c
      least = ltb-false c 18 other

      cases : (ms : List MakerRow) → row.makers ≡ ms → look arity (if needs_maker c ms then made_makers c (numbers c).made row.at else written_makers all_names c (in_file c (numbers c).maker) ms) ≡ Some m → Agree c arity m
      cases [] is_ms is = made_agrees c row arity m least is_row is_ms (subst (λ b. look arity (if not b then made_makers c (numbers c).made row.at else written_makers all_names c (in_file c (numbers c).maker) []) ≡ Some m) other is)
      cases (y ∷ ys) is_ms is = written_agrees tree constants none c row arity m least is_row
          (subst (λ ms. look arity (written_makers all_names c (Some (numbers c).maker) ms) ≡ Some m) (sym is_ms) (subst (λ b. look arity (written_makers all_names c (if b then None else Some (numbers c).maker) (y ∷ ys)) ≡ Some m) other is))

  -- a row of a built-in class
  built_in_row : (c : ℕ) (row : ClassRow) (arity : ℕ) (m : MakerSymbol) → IsTrue (is_built_in c) → slice_get table.classes c ≡ Some row → look arity (makers_of all_names c (numbers c) row) ≡ Some m → Agree c arity m
  built_in_row c row arity m built_in_c is_row is =
      let from : 0 + c ≡ c = omega arith in
      let d = found_by (row_of (declared_of tree.classes) (0 + c)) (slice_get (declared_of tree.classes) c) row (sym (row_at (declared_of tree.classes) 0 (declared_of tree.classes) c) ∙ is_row) in
      let makers_is : row.makers ≡ d.0.makers = ap (λ r. r.makers) d.2 in
      ⊎_elim
      (λ e. built_in_agrees c arity m (classes.maker_of [] ∷ []) built_in_c (λ n y is_y. inl (object_params n y is_y)) (of_makers (classes.maker_of []) [] (makers_is ∙ e.0) is))
      (λ e. built_in_agrees c arity m exception_makers built_in_c (λ n y is_y. ⊎_elim (λ p. inl p) (λ p. inr (p, e.1)) (exception_params n y is_y)) (of_makers (classes.maker_of []) (classes.maker_of (string_type ∷ []) ∷ []) (makers_is ∙ e.0) is))
      (built_makers tree.classes c d.0 (ltb-true c 18 built_in_c) d.1)
    where
      of_makers : (y : MakerRow) (ys : List MakerRow) → row.makers ≡ y ∷ ys → look arity (makers_of all_names c (numbers c) row) ≡ Some m → look arity (written_makers all_names c None (y ∷ ys)) ≡ Some m
      of_makers y ys is_ms is =
          subst (λ b. look arity (written_makers all_names c (if b then None else Some (numbers c).maker) (y ∷ ys)) ≡ Some m) built_in_c
          (subst (λ ms. look arity (if needs_maker c ms then made_makers c (numbers c).made row.at else written_makers all_names c (in_file c (numbers c).maker) ms) ≡ Some m) is_ms is)

  -- every constructor that is looked up is one of the program
  pub makers_agree : (c arity : ℕ) (m : MakerSymbol) → maker_of (env_with table tree constants) c arity ≡ Some m → Agree c arity m
  makers_agree c arity m is =
      option_and_then_some (λ class. maker_in class arity) (class_at (symbols_of table) c) m is (λ class is_class is_m.
      let from : 0 + c ≡ c = omega arith in
      let row = found_by (class_symbol all_names (selectors_of table.classes) (0 + c) (numbers c)) (slice_get table.classes c) class (sym (class_symbol_at table tree constants c) ∙ is_class) in
      let looked : look arity (makers_of all_names c (numbers c) row.0) ≡ Some m = subst (λ n. look arity (makers_of all_names n (numbers c) row.0) ≡ Some m) from (ap (λ k. maker_in k arity) (sym row.2) ∙ is_m) in
      cases row.0 row.1 looked (is_built_in c) refl)
    where
      cases : (row : ClassRow) → slice_get table.classes c ≡ Some row → look arity (makers_of all_names c (numbers c) row) ≡ Some m → (b : Bool) → is_built_in c ≡ b → Agree c arity m
      cases row is_row is true built_in_c = built_in_row c row arity m built_in_c is_row is
      cases row is_row is false other = file_agrees c row arity m other is_row is
