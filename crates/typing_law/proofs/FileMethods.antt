-- The methods that a file's symbols name are those of its program.
use Rattle.std.proofs.Common.{◌≡◌, ◌∙◌, ⊎_elim, ◌⊎◌, inl, inr, ℕ, zero, suc, ◌+◌, ◌-◌, ◌<◌, ◌≤◌, Bool, true, false, not, ◌==◌, IsTrue, List, [], ◌∷◌, length, Option, Some, None, option_map, slice_get, refl, subst, sym, ap, arith, if◌then◌else◌}
use Rattle.std.specs.Prelude.{option_and_then, nat_eq, position, unwrap_or}
use Rattle.std.specs.List.{flat_map, list_any}
use Rattle.std.specs.Option.{option_or}
use Rattle.std.proofs.lemmas.Option.{none-some, same_Some, option_and_then_some, slice_get-map, get_or_from_slice_get}
use Rattle.std.proofs.lemmas.Bool.{eqb-true, eq-eqb, ltb-true, ltb-false, or_left, or_right}
use Rattle.std.proofs.lemmas.List.Quantifiers.{position-Some}
use Rattle.std.specs.Cmp.{second_so}
use Rattle.core_tree.specs.declared.ty.Ty.TheVariants as ty
use Rattle.core_tree.specs.declared.program.Method.{Method}
use Rattle.java_syntax.specs.declared.class.Member.{Member}
use Rattle.java_syntax.specs.declared.class.Member.TheVariants as member
use Rattle.java_syntax.specs.declared.class.ClassTree.{ClassTree}
use Rattle.java_syntax.specs.declared.class.FileTree.{FileTree}
use Rattle.class_table.specs.declared.declaration.Declaration.{Declaration}
use Rattle.class_table.specs.declared.row.ClassRow.{ClassRow}
use Rattle.class_table.specs.declared.row.ClassTable.{ClassTable}
use Rattle.class_table.specs.declared.row.MethodRow.{MethodRow}
use Rattle.class_table.specs.BuiltIn.{built_in, get_message, string_type}
use Rattle.class_table.specs.Declarations.{declared_of}
use Rattle.class_table.specs.Members.{methods_in, method_row, is_static}
use Rattle.class_table.specs.Names.{Name, same_name}
use Rattle.class_table.specs.Table.{row_of, table_of}
use Rattle.java_names.specs.declared.numbers.Numbers.{Numbers}
use Rattle.java_names.specs.declared.symbol.MethodSymbol.{MethodSymbol}
use Rattle.java_names.specs.declared.symbol.Selector.{Selector}
use Rattle.java_names.specs.declared.symbol.Symbols.{Symbols}
use Rattle.core_tree.specs.BuiltIn.{is_built_in}
use Rattle.java_names.specs.BuiltIn.{in_file}
use Rattle.java_names.specs.Lookups.{class_at, line_of, is_below, nearest, method_in, method_at}
use Rattle.java_names.specs.Numbers.{made_for, numbers_after, first_numbers}
use Rattle.java_names.specs.Selectors.{same_selector, selector_of, selectors_of}
use Rattle.java_names.specs.Symbols.{class_symbol, following, method_symbol, method_symbols, selectors_in, names_of, symbols_of}
use Rattle.java_names.specs.Types.{declared_types, answer_type}
use Rattle.java_exprs.specs.declared.environment.Environment.{Environment}
use Rattle.primitive_operators.specs.declared.scalar.Scalar.{Scalar}
use Rattle.java_exprs.specs.Lookups.{method_of}
use Rattle.java_members.specs.Bodies.{core_method}
use Rattle.java_members.specs.Declarations.{declaration_faults}
use Rattle.java_members.specs.Files.{own_method, of_members}
use Rattle.typing_law.specs.Agrees.{AgreesOnStatic}
use Rattle.typing_law.proofs.Tables.{row_at, numbers_at, env_with, program_with, class_symbol_at, class_within}
use Rattle.typing_law.proofs.Numbered.{stands_at}
use Rattle.typing_law.proofs.FileClasses.{tree_at, of_class, HasMethodValues, method_values}
use Rattle.typing_law.proofs.FileMakers.{shifted, found_by, first_shifted, next_shifted}
use Rattle.typing_law.proofs.Found.{too_great}

-- ---- the methods of a class

pub method_symbol_at : (names : List Name) (selectors : List Selector) (owner : ℕ) (number : Option ℕ) (rows : List MethodRow) (n : ℕ) →
    slice_get (method_symbols names selectors owner number rows) n ≡ option_map (method_symbol names selectors owner (shifted number n)) (slice_get rows n)
unfolding shifted
method_symbol_at names selectors owner number [] n = refl
method_symbol_at names selectors owner number (m ∷ more) zero = ap (λ k. Some (method_symbol names selectors owner k m)) (first_shifted number)
method_symbol_at names selectors owner number (m ∷ more) (suc n) = method_symbol_at names selectors owner (following number) more n ∙ ap (λ k. option_map (method_symbol names selectors owner k) (slice_get more n)) (next_shifted n number)

-- what is found by its name and number of parameters
pub record MethodFound (names : List Name) (selectors : List Selector) (d : ℕ) (number : Option ℕ) (ms : List MethodRow) (key : Selector) (m : MethodSymbol) : Type 0 where
  pub place : ℕ
  pub row : MethodRow
  pub first : position (same_selector key) (selectors_in ms) ≡ Some place
  pub is_row : slice_get ms place ≡ Some row
  pub is_symbol : m ≡ method_symbol names selectors d (shifted number place) row
  pub same : same_selector key (selector_of row) ≡ true

pub method_found : (names : List Name) (selectors : List Selector) (d : ℕ) (number : Option ℕ) (ms : List MethodRow) (key : Selector) (m : MethodSymbol) →
    option_and_then (λ n. slice_get (method_symbols names selectors d number ms) n) (position (same_selector key) (selectors_in ms)) ≡ Some m → MethodFound names selectors d number ms key m
method_found names selectors d number ms key m is =
    option_and_then_some (λ n. slice_get (method_symbols names selectors d number ms) n) (position (same_selector key) (selectors_in ms)) m is (λ n is_n is_m.
    let y = found_by (method_symbol names selectors d (shifted number n)) (slice_get ms n) m (sym (method_symbol_at names selectors d number ms n) ∙ is_m) in
    let there : slice_get (selectors_in ms) n ≡ Some (selector_of y.0) = slice_get-map selector_of ms n ∙ ap (option_map selector_of) y.1 in
    record {
      place = n;
      row = y.0;
      first = is_n;
      is_row = y.1;
      is_symbol = y.2;
      same = ap (same_selector key) (sym (get_or_from_slice_get (selectors_in ms) n (selector_of y.0) key there)) ∙ (position-Some (same_selector key) (selectors_in ms) n key is_n).1;
    })

-- ---- the methods of the file by their numbers

pub record IsMethodOf (env : Environment) (c : ℕ) (y : MethodRow) (x : Method) : Type 0 where
  pub owner : x.owner ≡ c
  pub on_object : x.on_object ≡ not (is_static y.mods)
  pub params : x.params ≡ declared_types env.symbols.names y.params
  pub answer : x.answer ≡ answer_type env.symbols.names y.answer

method_lengths : (env : Environment) (c : ℕ) (members : List Member) → length (flat_map (own_method env c) members) ≡ length (methods_in members)
method_lengths env c [] = refl
method_lengths env c (member.Method m ∷ more) = ap suc (method_lengths env c more)
method_lengths env c (_ ∷ more) = method_lengths env c more

own_found : (env : Environment) (c : ℕ) (members : List Member) (i : ℕ) (y : MethodRow) → slice_get (methods_in members) i ≡ Some y → (x : Method) × (slice_get (flat_map (own_method env c) members) i ≡ Some x) × IsMethodOf env c y x
own_found env c [] i y is = absurd (none-some y is)
own_found env c (member.Method m ∷ more) zero y is = (core_method env c m, refl, subst (λ r. IsMethodOf env c r (core_method env c m)) (same_Some (method_row m) y is) (record { owner = refl; on_object = refl; params = refl; answer = refl }))
own_found env c (member.Method m ∷ more) (suc i) y is = own_found env c more i y is
own_found env c (_ ∷ more) i y is = own_found env c more i y is

method_counts : (n : ℕ) (numbers : Numbers) (row : ClassRow) → is_built_in n ≡ false → (numbers_after n numbers row).method ≡ numbers.method + length row.methods
method_counts n numbers row other = ap (λ b. (if b then numbers else record { method = numbers.method + length row.methods; maker = numbers.maker + length row.makers; made = numbers.made + made_for n row }).method) other

-- ---- built-in classes: Throwable alone has a method

pub built_methods : (ks : List ClassTree) (c : ℕ) (d : Declaration) → c < 18 → slice_get (declared_of ks) c ≡ Some d → (d.methods ≡ []) ⊎ ((d.methods ≡ get_message ∷ []) × (c ≡ 1))
unfolding declared_of built_in
built_methods ks (suc zero) d below is = inr (ap (λ d. d.methods) (sym (same_Some _ d is)), refl)
built_methods ks (suc (suc (suc (suc (suc (suc (suc (suc (suc (suc (suc (suc (suc (suc (suc (suc (suc (suc c)))))))))))))))))) d below is = too_great c below
built_methods ks _ d below is = inl (ap (λ d. d.methods) (sym (same_Some _ d is)))

-- ---- the nearest class that has something

pub nearest_in : {X : Type 0} (at : ℕ → Option X) (line : List ℕ) (x : X) → nearest at line ≡ Some x → (d : ℕ) × (IsTrue (list_any (λ a. a == d) line)) × (at d ≡ Some x)
nearest_in at [] x is = absurd (none-some x is)
nearest_in at (c ∷ line) x is = cases (nearest_in at line x) (at c) refl is
  where
    cases : (nearest at line ≡ Some x → (d : ℕ) × (IsTrue (list_any (λ a. a == d) line)) × (at d ≡ Some x)) → (found : Option _) → at c ≡ found → option_or found (nearest at line) ≡ Some x → (d : ℕ) × (IsTrue (list_any (λ a. a == d) (c ∷ line))) × (at d ≡ Some x)
    cases more None is_c is = let d = more is in (d.0, or_right (c == d.0) (list_any (λ a. a == d.0) line) d.1, d.2)
    cases more (Some y) is_c is = (c, or_left (c == c) (list_any (λ a. a == c) line) (eq-eqb c c refl), is_c ∙ is)

-- a method of the file that class d declares
module _ (tree : FileTree) (constants : List (ℕ × Option Scalar)) (none : of_members (declaration_faults (env_with (table_of tree) tree [])) 18 tree.classes ≡ []) where
  abbrev table : ClassTable
  table = table_of tree

  abbrev pub all_names : List Name
  all_names = names_of table.classes

  abbrev pub all_selectors : List Selector
  all_selectors = selectors_of table.classes

  abbrev pub first_method : ℕ → ℕ
  first_method d = (numbers_at 0 (first_numbers table.classes) table.classes d).method

  -- it is in the program, and has types that values have
  pub record InProgram (d : ℕ) (y : MethodRow) (number : ℕ) : Type 0 where
    pub method : Method
    pub found : slice_get (program_with table tree constants).methods number ≡ Some method
    pub is : IsMethodOf (env_with table tree constants) d y method
    pub values : HasMethodValues (env_with table tree []) (program_with table tree constants) (class_within table tree constants) y

  pub in_program : (d : ℕ) (row : ClassRow) (i : ℕ) (y : MethodRow) → 18 ≤ d → slice_get table.classes d ≡ Some row → slice_get row.methods i ≡ Some y → InProgram d y (first_method d + i)
  in_program d row i y least is_row is_y =
      let env = env_with table tree constants in
      let at = tree_at tree.classes d row least is_row in
      let place : 18 + (d - 18) ≡ d = omega arith in
      let faults = of_class (declaration_faults (env_with table tree [])) 18 tree.classes (d - 18) at.tree none at.place in
      let here : slice_get (methods_in at.tree.members) i ≡ Some y = ap (λ r. slice_get r.methods i) (sym at.row_is) ∙ is_y in
      let stands = stands_at (own_method env) methods_in (λ r. r.methods) (λ n. n.method) (IsMethodOf env) (λ all known c k. refl) method_counts (method_lengths env) (own_found env) tree.classes (first_numbers table.classes) refl d i row y least is_row is_y in
      record {
        method = stands.0;
        found = stands.1;
        is = stands.2;
        values = method_values (env_with table tree []) (program_with table tree constants) (class_within table tree constants) d at.tree.members i y (ap (λ n. flat_map (declaration_faults (env_with table tree []) n) at.tree.members) (sym place) ∙ faults) here;
      }

  -- ---- what is looked up

  abbrev pub symbols : Symbols
  symbols = symbols_of table

  -- `getMessage` of Throwable
  pub record IsGetMessage (c arity : ℕ) (m : MethodSymbol) : Type 0 where
    pub below : IsTrue (is_below symbols c 1)
    pub no_arity : arity ≡ 0
    pub number : m.number ≡ None
    pub params : m.params ≡ []
    pub answer : m.answer ≡ ty.Text
    pub instance : m.is_static ≡ false
    pub selector : m.selector ≡ position (same_selector (selector_of get_message)) all_selectors

  -- a method of the file, in the nearest class that declares it
  pub record IsOfFile (c : ℕ) (key : Selector) (m : MethodSymbol) : Type 0 where
    pub class : ℕ
    pub least : 18 ≤ class
    pub below : IsTrue (is_below symbols c class)
    pub row : ClassRow
    pub is_row : slice_get table.classes class ≡ Some row
    pub found : MethodFound all_names all_selectors class (Some (first_method class)) row.methods key m
    pub program : InProgram class found.row (first_method class + found.place)

  from_zero : (c : ℕ) → 0 + c ≡ c
  from_zero c = omega arith

  -- the methods that class d declares, looked up by a name and a number of parameters
  abbrev look : ℕ → Option ℕ → List MethodRow → Selector → Option MethodSymbol
  look d number ms key = option_and_then (λ n. slice_get (method_symbols all_names all_selectors d number ms) n) (position (same_selector key) (selectors_in ms))

  same_arity : (x : List ℕ) (arity : ℕ) (y : MethodRow) → same_selector (record { name = x; arity = arity }) (selector_of y) ≡ true → length y.params ≡ arity
  same_arity x arity y same = sym (eqb-true arity (length y.params) (second_so (same_name x y.name) (nat_eq arity (length y.params)) same))

  message_answer : answer_type all_names (Some string_type) ≡ ty.Text
  message_answer = refl

  get_message_found : (c : ℕ) (x : List ℕ) (arity : ℕ) (m : MethodSymbol) → IsTrue (is_below symbols c 1) → look 1 None (get_message ∷ []) (record { name = x; arity = arity }) ≡ Some m → IsGetMessage c arity m
  unfolding shifted
  get_message_found c x arity m below is =
      let found = method_found all_names all_selectors 1 None (get_message ∷ []) (record { name = x; arity = arity }) m is in
      let row_is : found.row ≡ get_message = only found.place found.row found.is_row in
      let of = λ (r : MethodRow). method_symbol all_names all_selectors 1 (shifted None found.place) r in
      let m_is : m ≡ of get_message = found.is_symbol ∙ ap of row_is in
      record {
        below = below;
        no_arity = sym (same_arity x arity found.row found.same) ∙ ap (λ r. length r.params) row_is;
        number = ap (λ s. s.number) m_is;
        params = ap (λ s. s.params) m_is;
        answer = ap (λ s. s.answer) m_is ∙ message_answer;
        instance = ap (λ s. s.is_static) m_is;
        selector = ap (λ s. s.selector) m_is;
      }
    where
      only : (n : ℕ) (y : MethodRow) → slice_get (get_message ∷ []) n ≡ Some y → y ≡ get_message
      only zero y is = sym (same_Some _ y is)
      only (suc n) y is = absurd (none-some y is)

  -- a method is `getMessage` of Throwable or one of the file
  pub method_declared : (c : ℕ) (x : List ℕ) (arity : ℕ) (m : MethodSymbol) → method_of (env_with table tree constants) c x arity ≡ Some m → IsGetMessage c arity m ⊎ IsOfFile c (record { name = x; arity = arity }) m
  method_declared c x arity m is =
      let near = nearest_in (method_at symbols (record { name = x; arity = arity })) (line_of symbols c) m is in
      let d = near.0 in
      option_and_then_some (λ class. method_in class (record { name = x; arity = arity })) (class_at symbols d) m near.2 (λ class is_class is_m.
      let row = found_by (class_symbol all_names all_selectors (0 + d) (numbers_at 0 (first_numbers table.classes) table.classes d)) (slice_get table.classes d) class (sym (class_symbol_at table tree constants d) ∙ is_class) in
      let looked : look d (in_file d (first_method d)) row.0.methods (record { name = x; arity = arity }) ≡ Some m =
      subst (λ n. look n (in_file n (first_method d)) row.0.methods (record { name = x; arity = arity }) ≡ Some m) (from_zero d) (ap (λ k. method_in k (record { name = x; arity = arity })) (sym row.2) ∙ is_m) in
      cases d near.1 row.0 row.1 looked (is_built_in d) refl)
    where
      cases : (d : ℕ) → IsTrue (is_below symbols c d) → (row : ClassRow) → slice_get table.classes d ≡ Some row → look d (in_file d (first_method d)) row.methods (record { name = x; arity = arity }) ≡ Some m →
          (b : Bool) → is_built_in d ≡ b → IsGetMessage c arity m ⊎ IsOfFile c (record { name = x; arity = arity }) m
      cases d below row is_row looked false other =
          let least = ltb-false d 18 other in
          let found = method_found all_names all_selectors d (Some (first_method d)) row.methods (record { name = x; arity = arity }) m (subst (λ b. look d (if b then None else Some (first_method d)) row.methods (record { name = x; arity = arity }) ≡ Some m) other looked) in
          inr (record { class = d; least = least; below = below; row = row; is_row = is_row; found = found; program = in_program d row found.place found.row least is_row found.is_row })
      cases d below row is_row looked true built_in_d =
          let declared = found_by (row_of (declared_of tree.classes) (0 + d)) (slice_get (declared_of tree.classes) d) row (sym (row_at (declared_of tree.classes) 0 (declared_of tree.classes) d) ∙ is_row) in
          let methods_are : row.methods ≡ declared.0.methods = ap (λ r. r.methods) declared.2 in
          let none_looked = subst (λ b. look d (if b then None else Some (first_method d)) row.methods (record { name = x; arity = arity }) ≡ Some m) built_in_d looked in
          ⊎_elim
          (λ e. absurd (none-some m (subst (λ ms. look d None ms (record { name = x; arity = arity }) ≡ Some m) (methods_are ∙ e) none_looked)))
          (λ e. inl (get_message_found c x arity m (subst (λ n. IsTrue (is_below symbols c n)) e.1 below)
          (subst (λ n. look n None (get_message ∷ []) (record { name = x; arity = arity }) ≡ Some m) e.1 (subst (λ ms. look d None ms (record { name = x; arity = arity }) ≡ Some m) (methods_are ∙ e.0) none_looked))))
          (built_methods tree.classes d declared.0 (ltb-true d 18 built_in_d) declared.1)

  -- a static method is called by its number
  pub static_agrees : (c : ℕ) (key : Selector) (m : MethodSymbol) → IsOfFile c key m → m.is_static ≡ true → AgreesOnStatic (program_with table tree constants) m
  unfolding shifted
  static_agrees c key m of_file static =
      let number : m.number ≡ Some (first_method of_file.class + of_file.found.place) = ap (λ s. s.number) of_file.found.is_symbol in
      let is_static_row : is_static of_file.found.row.mods ≡ true = sym (ap (λ s. s.is_static) of_file.found.is_symbol) ∙ static in
      record {
        method = of_file.program.method;
        found = ap (λ k. slice_get (program_with table tree constants).methods (unwrap_or k 0)) number ∙ of_file.program.found;
        static = of_file.program.is.on_object ∙ ap not is_static_row;
        params = of_file.program.is.params ∙ sym (ap (λ s. s.params) of_file.found.is_symbol);
        answer = of_file.program.is.answer ∙ sym (ap (λ s. s.answer) of_file.found.is_symbol);
      }
