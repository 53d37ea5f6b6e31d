-- A well-typed program stays well typed with other contracts.
use Rattle.std.proofs.Common.{◌≡◌, ◌∙◌, ℕ, Bool, true, false, not, ◌&&◌, ◌||◌, ◌==◌, IsTrue, nat_le, List, [], ◌∷◌, length, map, Option, Some, None, option_map, is_some, is_none, slice_get, refl, subst, sym}
use Rattle.std.specs.Prelude.{option_and_then}
use Rattle.std.specs.Option.{option_map_or}
use Rattle.std.specs.List.{list_all}
use Rattle.std.proofs.lemmas.Bool.{and_parts}
use Rattle.core_tree.specs.declared.built_in.BuiltIn.TheVariants as built_in
use Rattle.core_tree.specs.declared.ty.Ty.TheVariants as ty
use Rattle.core_tree.specs.declared.contract.Contract.{Contract}
use Rattle.core_tree.specs.declared.program.Class.{Class}
use Rattle.core_tree.specs.declared.program.Field.{Field}
use Rattle.core_tree.specs.declared.program.Method.{Method}
use Rattle.core_tree.specs.declared.program.Maker.{Maker}
use Rattle.core_tree.specs.declared.program.Parent.{Parent}
use Rattle.core_tree.specs.declared.program.Parent.TheVariants as parent
use Rattle.core_tree.specs.declared.program.Program.{Program}
use Rattle.core_tree.specs.BuiltIn.{number_of, is_built_in}
use Rattle.core_tree.specs.Types.{line_of, is_subclass, is_same_type, is_void}
use Rattle.core_tree.specs.Typing.{Scope, fits, all_fit, is_throwable, chosen_number}
use Rattle.core_tree.specs.TypedContracts.{is_contract, has_contract}
use Rattle.core_tree.specs.WellTyped.{IsWellTyped, superclass, is_value, is_of_file, initialiser_scope, is_field, is_chosen, same_types, same_signature, overrides, chosen_above, is_message_method, is_class, each_numbered, is_numbered, method_scope, is_method, maker_scope, is_parent, is_maker, is_main}
use Rattle.core_tree.specs.OtherContracts.{methods_with, with_contracts, fit_methods, are_contracts}
use Rattle.core_tree.proofs.OtherTypes.{changed, same_test, found_at, types, body_typed}

module _ (p : Program) (contracts : List (Option Contract)) where
  abbrev q : Program
  q = with_contracts p contracts

  -- a test of a method at a place
  tested_at : (test : Method → Bool) (otherwise : Bool) (n : ℕ) → ((k : Option (Option Contract)) (m : Method) → test (changed k m) ≡ test m) → option_map_or test (slice_get q.methods n) otherwise ≡ option_map_or test (slice_get p.methods n) otherwise
  tested_at test otherwise n same = (λ i. option_map_or test (found_at p contracts n i) otherwise) ∙ same_test test otherwise (slice_get contracts n) (slice_get p.methods n) (same (slice_get contracts n))

  -- ---- classes

  field_same : (c : ℕ) (field : Field) → is_field q c field ≡ is_field p c field
  field_same c field = λ i.
      is_value p field.ty
      && (is_subclass p.classes c field.owner
      && option_map_or (λ e. fits p field.ty (types p contracts (initialiser_scope field.owner) i e)) field.start true)

  chosen_same : (c : ℕ) (m : Option ℕ) → is_chosen q c m ≡ is_chosen p c m
  chosen_same c m = λ i. option_map_or (λ k. tested_at (λ method. method.on_object && is_subclass p.classes c method.owner) false k (λ _ _. refl) i) m true

  signature_same : (m k : ℕ) → same_signature q m k ≡ same_signature p m k
  signature_same m k =
      (λ i. option_map_or (λ a. tested_at (λ b. same_types a.params b.params && is_same_type a.answer b.answer) false k (λ _ _. refl) i) (slice_get q.methods m) false)
      ∙ tested_at (λ a. option_map_or (λ b. same_types a.params b.params && is_same_type a.answer b.answer) (slice_get p.methods k) false) false m (λ _ _. refl)

  overrides_same : (above mine : List (Option ℕ)) → overrides q above mine ≡ overrides p above mine
  overrides_same [] mine = refl
  overrides_same (None ∷ above) [] = overrides_same above []
  overrides_same (None ∷ above) (k ∷ mine) = overrides_same above mine
  overrides_same (Some m ∷ above) (Some k ∷ mine) = λ i. signature_same m k i && overrides_same above mine i
  overrides_same (Some m ∷ above) [] = refl
  overrides_same (Some m ∷ above) (None ∷ mine) = refl

  message_same : (n : Option ℕ) → is_message_method (option_and_then (λ m. slice_get q.methods m) n) ≡ is_message_method (option_and_then (λ m. slice_get p.methods m) n)
  message_same None = refl
  message_same (Some n) = tested_at (λ method. is_message_method (Some method)) true n (λ _ _. refl)

  class_same : (c : ℕ) (class : Class) → is_class q c class ≡ is_class p c class
  class_same c class = λ i.
      is_some (line_of p.classes c)
      && ((is_some class.parent || c == number_of built_in.Object)
      && (nat_le (length class.fields) 255
      && (list_all (λ field. field_same c field i) class.fields
      && (list_all (λ m. chosen_same c m i) class.chosen
      && (overrides_same (chosen_above p class) class.chosen i
      && (not (is_throwable p c) || message_same (chosen_number p c 0) i))))))

  -- ---- methods and constructors

  method_same : (k : Option Contract) (m : Method) → is_method q (record m { contract = k }) ≡ is_method p m
  method_same k m = λ i.
      is_of_file p m.owner
      && (list_all (is_value p) m.params
      && (list_all (is_value p) m.locals
      && ((is_value p m.answer || is_void m.answer)
      && (is_numbered m.params m.locals m.body
      && body_typed p contracts (method_scope m) m.body i))))

  methods_same : (ms : List Method) (ks : List (Option Contract)) → list_all (is_method q) (methods_with ms ks) ≡ list_all (is_method p) ms
  methods_same [] ks = refl
  methods_same (m ∷ ms) [] = λ i. list_all (λ m. method_same m.contract m i) (m ∷ ms)
  methods_same (m ∷ ms) (k ∷ ks) = λ i. method_same k m i && methods_same ms ks i

  parent_same : (s : Scope) (b : ℕ) (above : Parent) → is_parent q s b above ≡ is_parent p s b above
  parent_same s b parent.Plain = refl
  parent_same s b (parent.Message text) = λ i.
      is_built_in b && (not (b == number_of built_in.Object) && option_map_or (λ e. fits p ty.Text (types p contracts s i e)) text true)
  parent_same s b (parent.Maker k arguments) = λ i.
      option_map_or (λ maker. maker.owner == b && all_fit p maker.params (map (types p contracts s i) arguments)) (slice_get p.makers k) false

  maker_same : (k : Maker) → is_maker q k ≡ is_maker p k
  maker_same k = λ i.
      is_of_file p k.owner
      && (list_all (is_value p) k.params
      && (list_all (is_value p) k.locals
      && (option_map_or (λ b. parent_same (maker_scope k) b k.parent i) (superclass p k.owner) false
      && (is_numbered k.params k.locals k.body
      && body_typed p contracts (maker_scope k) k.body i))))

  -- ---- contracts

  contracts_typed : (ms : List Method) (ks : List (Option Contract)) → IsTrue (list_all (has_contract p.classes) ms) → IsTrue (fit_methods p.classes ms ks) → IsTrue (list_all (has_contract p.classes) (methods_with ms ks))
  contracts_typed [] ks own new = refl
  contracts_typed (m ∷ ms) [] own new = own
  contracts_typed (m ∷ ms) (k ∷ ks) own new =
      let rest = and_parts (has_contract p.classes m) (list_all (has_contract p.classes) ms) own in
      let given = and_parts (option_map_or (is_contract p.classes m) k true) (fit_methods p.classes ms ks) new in
      rw (given.0, contracts_typed ms ks rest.1 given.1) refl

  -- the method that a run begins with has no contract
  abbrev FreeMain : Option Method → Type 0
  FreeMain found = IsTrue (option_map_or (λ main. is_none main.contract) found true)

  main_free : (k : Option (Option Contract)) (found : Option Method) → FreeMain found → IsTrue (option_map_or is_none k true) → FreeMain (option_map (changed k) found)
  main_free k None own new = refl
  main_free None (Some m) own new = own
  main_free (Some k) (Some m) own new = new

  pub stays_well_typed : IsWellTyped p → IsTrue (are_contracts p contracts) → IsWellTyped q
  stays_well_typed w new =
      let given = and_parts (fit_methods p.classes p.methods contracts) (option_map_or is_none (slice_get contracts p.main) true) new in
      let own = and_parts (list_all (has_contract p.classes) p.methods) (option_map_or (λ main. is_none main.contract) (slice_get p.methods p.main) true) w.contracts in
      record {
        few_classes = w.few_classes;
        built_in = w.built_in;
        classes = (λ i. each_numbered (λ c class. class_same c class i) 0 p.classes) ∙ w.classes;
        inherited = w.inherited;
        methods = methods_same p.methods contracts ∙ w.methods;
        makers = (λ i. list_all (λ k. maker_same k i) p.makers) ∙ w.makers;
        main = tested_at is_main false p.main (λ _ _. refl) ∙ w.main;
        contracts = rw (
          contracts_typed p.methods contracts own.0 given.0,
          subst FreeMain (sym (found_at p contracts p.main)) (main_free (slice_get contracts p.main) (slice_get p.methods p.main) own.1 given.1),
        ) refl;
      }
