-- The method that a selector picks in a class is the one that is looked up there.
use Rattle.std.proofs.Common.{◌≡◌, ◌∙◌, ℕ, zero, suc, ◌+◌, ◌<◌, Bool, true, false, ◌||◌, ◌==◌, List, [], ◌∷◌, ◌++◌, length, Option, Some, None, slice_get, get_or, refl, subst, sym, ap, arith, if◌then◌else◌}
use Rattle.std.specs.Prelude.{option_and_then, nat_eq, position, fold}
use Rattle.std.specs.List.{flat_map, list_any}
use Rattle.std.specs.Option.{option_or}
use Rattle.std.specs.Cmp.Lexicographic.{same_text}
use Rattle.std.proofs.lemmas.Option.{none-some, same_Some}
use Rattle.std.proofs.lemmas.Bool.{false≢true, eqb-true, eq-eqb, or_left, or_right, and_from}
use Rattle.std.proofs.lemmas.Cmp.{nat_list_eq_equiv}
use Rattle.std.proofs.lemmas.List.Folds.{list_any-append}
use Rattle.std.proofs.lemmas.List.Quantifiers.{position-Some}
use Rattle.std.specs.Cmp.{first_so, second_so}
use Rattle.class_table.specs.declared.row.ClassRow.{ClassRow}
use Rattle.class_table.specs.declared.row.MethodRow.{MethodRow}
use Rattle.class_table.specs.Members.{is_static}
use Rattle.class_table.specs.Names.{Name, same_name}
use Rattle.java_names.specs.declared.symbol.MethodSymbol.{MethodSymbol}
use Rattle.java_names.specs.declared.symbol.Selector.{Selector}
use Rattle.java_names.specs.Chosen.{picked, first_picked}
use Rattle.java_names.specs.Lookups.{nearest}
use Rattle.java_names.specs.Selectors.{same_selector, selector_of, message_selector, with_selector, selectors_of}
use Rattle.java_names.specs.Symbols.{following, method_symbol, method_symbols, selectors_in}
use Rattle.java_names.proofs.NumberingLemmas.{is_some-position}
use Rattle.typing_law.proofs.Operators.{no_or}
use Rattle.typing_law.proofs.Scopes.{get_before}
use Rattle.typing_law.proofs.Numbered.{get_behind}
use Rattle.typing_law.proofs.Found.{some_of}

-- ---- selectors that are the same

pub same_parts : (a b : Selector) → same_selector a b ≡ true → (a.name ≡ b.name) × (a.arity ≡ b.arity)
same_parts a b same =
    (same_text a.name b.name (sym (first_so (same_name a.name b.name) (nat_eq a.arity b.arity) same)), eqb-true a.arity b.arity (second_so (same_name a.name b.name) (nat_eq a.arity b.arity) same))

pub of_parts : (a b : Selector) → a.name ≡ b.name → a.arity ≡ b.arity → same_selector a b ≡ true
of_parts a b name arity = and_from (same_name a.name b.name) (nat_eq a.arity b.arity) (ap (same_name a.name) (sym name) ∙ nat_list_eq_equiv.refl a.name) (eq-eqb a.arity b.arity arity)

-- two selectors at one place are the same
pub one_place : (all : List Selector) (a b : Selector) (k : ℕ) → position (same_selector a) all ≡ Some k → position (same_selector b) all ≡ Some k → same_selector a b ≡ true
one_place all a b k is_a is_b =
    let e = get_or all k message_selector in
    let first = same_parts a e (position-Some (same_selector a) all k message_selector is_a).1 in
    let second = same_parts b e (position-Some (same_selector b) all k message_selector is_b).1 in
    of_parts a b (first.0 ∙ sym second.0) (first.1 ∙ sym second.1)

-- ---- what a selector picks among the methods of a class

module _ (names : List Name) (all : List Selector) (key : Selector) (k : ℕ) (is_key : position (same_selector key) all ≡ Some k) where
  picked_other : (owner : ℕ) (number : Option ℕ) (r : MethodRow) → same_selector key (selector_of r) ≡ false → picked k (method_symbol names all owner number r) ≡ None
  picked_other owner number r other = cases (is_static r.mods)
    where
      at : (place : Option ℕ) → position (same_selector (selector_of r)) all ≡ place → option_and_then (λ s. if s == k then number else None) place ≡ None
      at None is = refl
      at (Some s) is = here (s == k) refl
        where
          here : (b : Bool) → (s == k) ≡ b → (if b then number else None) ≡ None
          here false no_match = refl
          here true match = absurd (false≢true (sym other ∙ one_place all key (selector_of r) k is_key (is ∙ ap Some (eqb-true s k match))))

      cases : (b : Bool) → option_and_then (λ s. if s == k then number else None) (if b then None else position (same_selector (selector_of r)) all) ≡ None
      cases true = refl
      cases false = at (position (same_selector (selector_of r)) all) refl

  -- where no method has the selector, it picks none
  pub picks_none : (owner : ℕ) (number : Option ℕ) (ms : List MethodRow) → list_any (same_selector key) (selectors_in ms) ≡ false → first_picked k (method_symbols names all owner number ms) ≡ None
  picks_none owner number [] none = refl
  picks_none owner number (r ∷ more) none =
      let parts = no_or (same_selector key (selector_of r)) (list_any (same_selector key) (selectors_in more)) none in
      ap (λ o. option_or o (first_picked k (method_symbols names all owner (following number) more))) (picked_other owner number r parts.0) ∙ picks_none owner (following number) more parts.1

  -- the first method that has the selector is picked
  pub picks_first : (owner : ℕ) (number : Option ℕ) (ms : List MethodRow) (n : ℕ) (m : MethodSymbol) (it : ℕ) → slice_get (method_symbols names all owner number ms) n ≡ Some m → ((j : ℕ) → j < n → same_selector key (get_or (selectors_in ms) j key) ≡ false) → picked k m ≡ Some it →
      first_picked k (method_symbols names all owner number ms) ≡ Some it
  picks_first owner number [] n m it is before picks = absurd (none-some m is)
  picks_first owner number (r ∷ more) zero m it is before picks = ap (λ o. option_or o (first_picked k (method_symbols names all owner (following number) more))) (ap (picked k) (same_Some _ m is) ∙ picks)
  picks_first owner number (r ∷ more) (suc n) m it is before picks =
      ap (λ o. option_or o (first_picked k (method_symbols names all owner (following number) more))) (picked_other owner number r (before 0 (omega arith)))
      ∙ picks_first owner (following number) more n m it is (λ j below. before (suc j) (omega arith)) picks

-- ---- what is nearest

pub nearest_same : {X Y : Type 0} (f : ℕ → Option X) (g : ℕ → Option Y) (x : X) (y : Y) → ((d : ℕ) → f d ≡ None → g d ≡ None) → ((d : ℕ) → f d ≡ Some x → g d ≡ Some y) → (line : List ℕ) → nearest f line ≡ Some x → nearest g line ≡ Some y
nearest_same f g x y none some [] is = absurd (none-some x is)
nearest_same f g x y none some (c ∷ line) is = cases (nearest_same f g x y none some line) (f c) refl is
  where
    cases : (nearest f line ≡ Some x → nearest g line ≡ Some y) → (found : Option _) → f c ≡ found → option_or found (nearest f line) ≡ Some x → option_or (g c) (nearest g line) ≡ Some y
    cases more None is_c is = ap (λ o. option_or o (nearest g line)) (none c is_c) ∙ more is
    cases more (Some z) is_c is = ap (λ o. option_or o (nearest g line)) (some c (is_c ∙ is))

-- ---- the selectors of the file

kept : (p : Selector → Bool) (ms : List MethodRow) (ss : List Selector) → list_any p ss ≡ true → list_any p (fold with_selector ss ms) ≡ true
kept p [] ss is = is
kept p (m ∷ ms) ss is = kept p ms (with_selector ss m) (cases (is_static m.mods || list_any (same_selector (selector_of m)) ss))
  where
    cases : (b : Bool) → list_any p (if b then ss else ss ++ selector_of m ∷ []) ≡ true
    cases true = is
    cases false = list_any-append p ss (selector_of m ∷ []) ∙ or_left (list_any p ss) (list_any p (selector_of m ∷ [])) is

added : (ss : List Selector) (m : MethodRow) → is_static m.mods ≡ false → list_any (same_selector (selector_of m)) (with_selector ss m) ≡ true
added ss m instance = ap (λ b. list_any (same_selector (selector_of m)) (if b || list_any (same_selector (selector_of m)) ss then ss else ss ++ selector_of m ∷ [])) instance ∙ cases (list_any (same_selector (selector_of m)) ss) refl
  where
    cases : (b : Bool) → list_any (same_selector (selector_of m)) ss ≡ b → list_any (same_selector (selector_of m)) (if b then ss else ss ++ selector_of m ∷ []) ≡ true
    cases true is = is
    cases false is = list_any-append (same_selector (selector_of m)) ss (selector_of m ∷ []) ∙ or_right (list_any (same_selector (selector_of m)) ss) (list_any (same_selector (selector_of m)) (selector_of m ∷ []))
        (or_left (same_selector (selector_of m) (selector_of m)) false (of_parts (selector_of m) (selector_of m) refl refl))

there : (ms : List MethodRow) (ss : List Selector) (i : ℕ) (y : MethodRow) → slice_get ms i ≡ Some y → is_static y.mods ≡ false → list_any (same_selector (selector_of y)) (fold with_selector ss ms) ≡ true
there [] ss i y is instance = absurd (none-some y is)
there (m ∷ ms) ss zero y is instance = kept (same_selector (selector_of y)) ms (with_selector ss m) (subst (λ r. list_any (same_selector (selector_of y)) (with_selector ss r) ≡ true) (sym (same_Some m y is)) (added ss y instance))
there (m ∷ ms) ss (suc i) y is instance = there ms (with_selector ss m) i y is instance

in_some : (rows : List ClassRow) (d i : ℕ) (row : ClassRow) (y : MethodRow) → slice_get rows d ≡ Some row → slice_get row.methods i ≡ Some y → (j : ℕ) × (slice_get (flat_map (λ row. row.methods) rows) j ≡ Some y)
in_some [] d i row y is is_y = absurd (none-some row is)
in_some (r ∷ rows) zero i row y is is_y = (i, get_before r.methods (flat_map (λ row. row.methods) rows) i y (ap (λ k. slice_get k.methods i) (same_Some r row is) ∙ is_y))
in_some (r ∷ rows) (suc d) i row y is is_y = let more = in_some rows d i row y is is_y in (length r.methods + more.0, get_behind r.methods (flat_map (λ row. row.methods) rows) more.0 ∙ more.1)

-- an instance method has a selector
pub has_selector : (rows : List ClassRow) (d i : ℕ) (row : ClassRow) (y : MethodRow) → slice_get rows d ≡ Some row → slice_get row.methods i ≡ Some y → is_static y.mods ≡ false → (k : ℕ) × (position (same_selector (selector_of y)) (selectors_of rows) ≡ Some k)
has_selector rows d i row y is is_y instance =
    let at = in_some rows d i row y is is_y in
    some_of (position (same_selector (selector_of y)) (selectors_of rows)) (is_some-position (same_selector (selector_of y)) (selectors_of rows) ∙ there (flat_map (λ row. row.methods) rows) (message_selector ∷ []) at.0 y at.1 instance)

-- the first selector is `getMessage` without parameters
front : (ms : List MethodRow) (s : Selector) (ss : List Selector) → (rest : List Selector) × (fold with_selector (s ∷ ss) ms ≡ s ∷ rest)
front [] s ss = (ss, refl)
front (m ∷ ms) s ss = cases (is_static m.mods || list_any (same_selector (selector_of m)) (s ∷ ss)) (front ms s ss) (front ms s (ss ++ selector_of m ∷ []))
  where
    cases : (b : Bool) → ((rest : List Selector) × (fold with_selector (s ∷ ss) ms ≡ s ∷ rest)) → ((rest : List Selector) × (fold with_selector (s ∷ (ss ++ selector_of m ∷ [])) ms ≡ s ∷ rest)) → (rest : List Selector) × (fold with_selector (if b then s ∷ ss else (s ∷ ss) ++ selector_of m ∷ []) ms ≡ s ∷ rest)
    cases true same more = same
    cases false same more = more

pub first_selector : (rows : List ClassRow) → (rest : List Selector) × (selectors_of rows ≡ message_selector ∷ rest)
first_selector rows = front (flat_map (λ row. row.methods) rows) message_selector []
