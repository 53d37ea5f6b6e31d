-- Where each method may override the nearest method above, it may override all above: what is asked is transitive.
use Rattle.std.proofs.Common.{◌≡◌, ◌==◌, ◌+◌, ◌-◌, ◌<◌, ◌≤◌, ℕ, zero, suc, List, [], ◌∷◌, length, find, Option, Some, None, option_and_then, Bool, true, false, not, cond, nat_eq, ◌||◌, arith, sym, ◌∙◌, refl, ap, subst, inl, inr}
use Rattle.std.specs.Bool.{beq}
use Rattle.std.specs.Cmp.{booleans_Decides}
use Rattle.std.specs.List.{slice_get, list_any, list_all, position_or_len}
use Rattle.std.specs.Option.{option_map_or, option_or}
use Rattle.std.proofs.lemmas.Bool.{and_from, and_parts, or_left, or_right, or_from, or_parts, cases_lt, eq-eqb, eqb-true, true_from_ne_false}
use Rattle.std.proofs.lemmas.List.{length-map}
use Rattle.std.proofs.lemmas.List.Folds.{find_at}
use Rattle.std.proofs.lemmas.Option.{slice_get_within}
use Rattle.std.proofs.lemmas.Slice.Eq.{bytes_eq-Decides}
use Rattle.token_reading.specs.declared.fault.Fault.{Fault}
use Rattle.token_reading.specs.declared.fault.CheckError.{CheckError}
use Rattle.token_reading.specs.declared.name.TypeTree.{TypeTree}
use Rattle.token_reading.specs.declared.name.BaseType.{BaseType}
use Rattle.token_reading.specs.declared.name.BaseType.TheVariants.{Int, Boolean, Class}
use Rattle.class_table.specs.declared.declaration.Declaration.{Declaration}
use Rattle.class_table.specs.declared.row.MethodRow.{MethodRow}
use Rattle.class_table.specs.declared.row.Signature.{Signature}
use Rattle.class_table.specs.Names.{Name, same_name}
use Rattle.class_table.specs.Members.{is_static, is_private, same_base, same_type, same_types, same_answer}
use Rattle.class_table.specs.Ancestors.{AllEnd, climb, is_below, line_of, parent_in, parents_of, superclasses, up}
use Rattle.class_table.specs.Faults.{Blames, Clear, InSome, OfRule}
use Rattle.class_table.specs.Index.{signature_of, same_signature}
use Rattle.class_table.specs.Rules.{OverridesWrongly, checked_number, is_allowed, is_wrong_over, may_override, method_called}
use Rattle.class_table.specs.Nearest.{NearestWrong, first_called, fits_nearest}
use Rattle.class_table.proofs.AncestorLemmas.{up_add, up_past}
use Rattle.class_table.proofs.CheckLemmas.{weaker}
use Rattle.class_table.proofs.Faults.{differ, not_absent, not_false}
use Rattle.class_table.proofs.RowLemmas.{superclasses_are}

-- ---- names and types

name_is : (a b : Name) → same_name a b ≡ true → a ≡ b
name_is a b h = (bytes_eq-Decides a b).0 h

name_trans : (a b c : Name) → same_name a b ≡ true → same_name b c ≡ true → same_name a c ≡ true
name_trans a b c h k = let e : a ≡ b = name_is a b h in rw e k

base_trans : (a b c : BaseType) → same_base a b ≡ true → same_base b c ≡ true → same_base a c ≡ true
base_trans Int Int c h k = k
base_trans Int Boolean c h k = absurd (differ false refl h)
base_trans Int (Class q) c h k = absurd (differ false refl h)
base_trans Boolean Int c h k = absurd (differ false refl h)
base_trans Boolean Boolean c h k = k
base_trans Boolean (Class q) c h k = absurd (differ false refl h)
base_trans (Class p) Int c h k = absurd (differ false refl h)
base_trans (Class p) Boolean c h k = absurd (differ false refl h)
base_trans (Class p) (Class q) Int h k = k
base_trans (Class p) (Class q) Boolean h k = k
base_trans (Class p) (Class q) (Class r) h k = name_trans p.name q.name r.name h k

number_trans : (a b c : ℕ) → (a == b) ≡ true → (b == c) ≡ true → (a == c) ≡ true
number_trans a b c h k = let e : a ≡ b = eqb-true a b h in rw e k

type_trans : (a b c : TypeTree) → same_type a b ≡ true → same_type b c ≡ true → same_type a c ≡ true
type_trans a b c h k =
    let p = and_parts (same_base a.base b.base) (a.dimensions == b.dimensions) h in
    let q = and_parts (same_base b.base c.base) (b.dimensions == c.dimensions) k in
    and_from (same_base a.base c.base) (a.dimensions == c.dimensions) (base_trans a.base b.base c.base p.0 q.0) (number_trans a.dimensions b.dimensions c.dimensions p.1 q.1)

types_trans : (xs ys zs : List TypeTree) → same_types xs ys ≡ true → same_types ys zs ≡ true → same_types xs zs ≡ true
types_trans [] [] zs h k = k
types_trans [] (y ∷ ys) zs h k = absurd (differ false refl h)
types_trans (x ∷ xs) [] zs h k = absurd (differ false refl h)
types_trans (x ∷ xs) (y ∷ ys) [] h k = k
types_trans (x ∷ xs) (y ∷ ys) (z ∷ zs) h k =
    let p = and_parts (same_type x y) (same_types xs ys) h in
    let q = and_parts (same_type y z) (same_types ys zs) k in
    and_from (same_type x z) (same_types xs zs) (type_trans x y z p.0 q.0) (types_trans xs ys zs p.1 q.1)

answer_trans : (a b c : Option TypeTree) → same_answer a b ≡ true → same_answer b c ≡ true → same_answer a c ≡ true
answer_trans None None c h k = k
answer_trans None (Some y) c h k = absurd (differ false refl h)
answer_trans (Some x) None c h k = absurd (differ false refl h)
answer_trans (Some x) (Some y) None h k = k
answer_trans (Some x) (Some y) (Some z) h k = type_trans x y z h k

static_trans : (a b c : Bool) → beq a b ≡ true → beq b c ≡ true → beq a c ≡ true
static_trans a b c h k = let e : a ≡ b = (booleans_Decides a b).0 h in rw e k

-- ---- being below

none_some : {A : Type 0} (x : A) → None ≡ Some x → ⊥
none_some x e = cc

some_same : (a b : ℕ) → Some a ≡ Some b → a ≡ b
some_same a b e = cc

-- a class that stands on a way up is some steps up
climb_has : (ps : List (Option ℕ)) (n : ℕ) (o : Option ℕ) (d : ℕ) → list_any (λ a. a == d) (climb ps n o) ≡ true → (k : ℕ) × (k < n) × (option_and_then (up ps k) o ≡ Some d)
unfolding climb up
climb_has ps zero o d h = absurd (differ false refl h)
climb_has ps (suc n) None d h = absurd (differ false refl h)
climb_has ps (suc n) (Some c) d h =
    let cases : (b : Bool) → (c == d) ≡ b → (b || list_any (λ a. a == d) (climb ps n (parent_in ps c))) ≡ true → (k : ℕ) × (k < suc n) × (up ps k c ≡ Some d) =
    λ b. elim b as (λ v. (c == d) ≡ v → (v || list_any (λ a. a == d) (climb ps n (parent_in ps c))) ≡ true → (k : ℕ) × (k < suc n) × (up ps k c ≡ Some d)) [
      | true ↦ λ is more. (0, omega arith, ap Some (eqb-true c d is))
      | false ↦ λ is more. let rest = climb_has ps n (parent_in ps c) d more in (suc rest.0, omega (arith, rest.1), rest.2)
    ] in
    cases (c == d) refl h

has_climb : (ps : List (Option ℕ)) (k n : ℕ) (o : Option ℕ) (d : ℕ) → k < n → option_and_then (up ps k) o ≡ Some d → list_any (λ a. a == d) (climb ps n o) ≡ true
unfolding climb up
has_climb ps k zero o d below is = absurd (omega arith)
has_climb ps k (suc n) None d below is = absurd (none_some d is)
has_climb ps zero (suc n) (Some c) d below is = or_left (c == d) (list_any (λ a. a == d) (climb ps n (parent_in ps c))) (eq-eqb c d (some_same c d is))
has_climb ps (suc k) (suc n) (Some c) d below is = or_right (c == d) (list_any (λ a. a == d) (climb ps n (parent_in ps c))) (has_climb ps k n (parent_in ps c) d (omega arith) is)

below_line : (declared : List Declaration) (c d : ℕ) → is_below declared c d ≡ true → (c < length declared) × (list_any (λ a. a == d) (line_of (parents_of declared) c) ≡ true)
below_line declared c d h =
    let ps : List (Option ℕ) = parents_of declared in
    let cases : (o : Option Declaration) → slice_get declared c ≡ o → list_any (λ a. a == d) (option_map_or (λ x. line_of ps c) o []) ≡ true → (c < length declared) × (list_any (λ a. a == d) (line_of ps c) ≡ true) =
    λ o. elim o as (λ v. slice_get declared c ≡ v → list_any (λ a. a == d) (option_map_or (λ x. line_of ps c) v []) ≡ true → (c < length declared) × (list_any (λ a. a == d) (line_of ps c) ≡ true)) [
      | None ↦ λ is there. absurd (differ false refl there)
      | Some x ↦ λ is there. (slice_get_within declared c x is, there)
    ] in
    cases (slice_get declared c) refl h

line_below : (declared : List Declaration) (c d : ℕ) → c < length declared → list_any (λ a. a == d) (line_of (parents_of declared) c) ≡ true → is_below declared c d ≡ true
line_below declared c d within there =
    let ps : List (Option ℕ) = parents_of declared in
    let cases : (o : Option Declaration) → slice_get declared c ≡ o → list_any (λ a. a == d) (option_map_or (λ x. line_of ps c) o []) ≡ true =
    λ o. elim o as (λ v. slice_get declared c ≡ v → list_any (λ a. a == d) (option_map_or (λ x. line_of ps c) v []) ≡ true) [
      | None ↦ λ is. absurd (not_absent declared c within is)
      | Some x ↦ λ is. there
    ] in
    cases (slice_get declared c) refl

pub below_trans : (declared : List Declaration) (c d e : ℕ) → AllEnd (parents_of declared) → is_below declared c d ≡ true → is_below declared d e ≡ true → is_below declared c e ≡ true
below_trans declared c d e ends h k =
    let ps : List (Option ℕ) = parents_of declared in
    let n : ℕ = length ps in
    let size : n ≡ length declared = length-map declared (λ x. x.parent) in
    let first = below_line declared c d h in
    let second = below_line declared d e k in
    let one = climb_has ps n (Some c) d first.1 in
    let two = climb_has ps n (Some d) e second.1 in
    let up_one : up ps one.0 c ≡ Some d = one.2 in
    let up_two : up ps two.0 d ≡ Some e = two.2 in
    let both : up ps (one.0 + two.0) c ≡ Some e = up_add ps one.0 two.0 c ∙ rw up_one up_two in
    let top : up ps n c ≡ None = ends.ends c (rw size first.0) in
    let low : one.0 + two.0 < n = elim (cases_lt (one.0 + two.0) n) [
      | inl less ↦ less
      | inr past ↦ absurd (none_some e (sym (up_past ps n (one.0 + two.0) c past top) ∙ both))
    ] in
    line_below declared c e first.0 (has_climb ps (one.0 + two.0) n (Some c) e low both)

-- ---- what is declared thrown

any_more : {A : Type 0} (p q : A → Bool) (xs : List A) → ((x : A) → p x ≡ true → q x ≡ true) → list_any p xs ≡ true → list_any q xs ≡ true
any_more p q [] more h = absurd (differ false refl h)
any_more p q (x ∷ xs) more h =
    let cases : (b : Bool) → p x ≡ b → (b || list_any p xs) ≡ true → (q x || list_any q xs) ≡ true =
    λ b. elim b as (λ v. p x ≡ v → (v || list_any p xs) ≡ true → (q x || list_any q xs) ≡ true) [
      | true ↦ λ is rest. or_left (q x) (list_any q xs) (more x is)
      | false ↦ λ is rest. or_right (q x) (list_any q xs) (any_more p q xs more rest)
    ] in
    cases (p x) refl h

-- class c is below the checked class of that name
abbrev below_named : List Name → List Declaration → ℕ → Name → Bool
below_named names declared c name = option_map_or (is_below declared c) (checked_number names declared name) false

allowed_below : (names : List Name) (declared : List Declaration) (bs : List Name) (c : ℕ) (name : Name) → AllEnd (parents_of declared) → below_named names declared c name ≡ true → is_allowed names declared bs name ≡ true → list_any (below_named names declared c) bs ≡ true
allowed_below names declared bs c name ends =
    let more : (d : ℕ) → is_below declared c d ≡ true → (other : Name) → below_named names declared d other ≡ true → below_named names declared c other ≡ true =
    λ d below other.
    let cases : (o : Option ℕ) → option_map_or (is_below declared d) o false ≡ true → option_map_or (is_below declared c) o false ≡ true =
    λ o. elim o as (λ v. option_map_or (is_below declared d) v false ≡ true → option_map_or (is_below declared c) v false ≡ true) [
      | None ↦ λ no. no
      | Some e ↦ λ is. below_trans declared c d e ends below is
    ] in
    cases (checked_number names declared other) in
    let cases : (o : Option ℕ) → option_map_or (is_below declared c) o false ≡ true → option_map_or (λ d. list_any (below_named names declared d) bs) o true ≡ true → list_any (below_named names declared c) bs ≡ true =
    λ o. elim o as (λ v. option_map_or (is_below declared c) v false ≡ true → option_map_or (λ d. list_any (below_named names declared d) bs) v true ≡ true → list_any (below_named names declared c) bs ≡ true) [
      | None ↦ λ no is. absurd (differ false refl no)
      | Some d ↦ λ below is. any_more (below_named names declared d) (below_named names declared c) bs (more d below) is
    ] in
    cases (checked_number names declared name)

any_allowed : (names : List Name) (declared : List Declaration) (middle bs : List Name) (c : ℕ) → AllEnd (parents_of declared) → list_any (below_named names declared c) middle ≡ true → list_all (is_allowed names declared bs) middle ≡ true → list_any (below_named names declared c) bs ≡ true
any_allowed names declared [] bs c ends h k = absurd (differ false refl h)
any_allowed names declared (name ∷ middle) bs c ends h k =
    let all = and_parts (is_allowed names declared bs name) (list_all (is_allowed names declared bs) middle) k in
    let cases : (b : Bool) → below_named names declared c name ≡ b → (b || list_any (below_named names declared c) middle) ≡ true → list_any (below_named names declared c) bs ≡ true =
    λ b. elim b as (λ v. below_named names declared c name ≡ v → (v || list_any (below_named names declared c) middle) ≡ true → list_any (below_named names declared c) bs ≡ true) [
      | true ↦ λ is rest. allowed_below names declared bs c name ends is all.0
      | false ↦ λ is rest. any_allowed names declared middle bs c ends rest all.1
    ] in
    cases (below_named names declared c name) refl h

allowed_trans : (names : List Name) (declared : List Declaration) (thrown middle bs : List Name) → AllEnd (parents_of declared) → list_all (is_allowed names declared middle) thrown ≡ true → list_all (is_allowed names declared bs) middle ≡ true → list_all (is_allowed names declared bs) thrown ≡ true
allowed_trans names declared [] middle bs ends h k = refl
allowed_trans names declared (name ∷ thrown) middle bs ends h k =
    let all = and_parts (is_allowed names declared middle name) (list_all (is_allowed names declared middle) thrown) h in
    let cases : (o : Option ℕ) → option_map_or (λ c. list_any (below_named names declared c) middle) o true ≡ true → option_map_or (λ c. list_any (below_named names declared c) bs) o true ≡ true =
    λ o. elim o as (λ v. option_map_or (λ c. list_any (below_named names declared c) middle) v true ≡ true → option_map_or (λ c. list_any (below_named names declared c) bs) v true ≡ true) [
      | None ↦ λ is. refl
      | Some c ↦ λ is. any_allowed names declared middle bs c ends is k
    ] in
    and_from (is_allowed names declared bs name) (list_all (is_allowed names declared bs) thrown) (cases (checked_number names declared name) all.0) (allowed_trans names declared thrown middle bs ends all.1 k)

-- ---- overriding

override_trans : (names : List Name) (declared : List Declaration) (m a b : MethodRow) → AllEnd (parents_of declared) → may_override names declared m a ≡ true → may_override names declared a b ≡ true → may_override names declared m b ≡ true
override_trans names declared m a b ends h k =
    let throws : MethodRow → MethodRow → Bool = λ x y. list_all (is_allowed names declared y.throws) x.throws in
    let h5 = and_parts _ (throws m a) h in
    let h4 = and_parts _ (not (is_private m.mods)) h5.0 in
    let h3 = and_parts _ (beq (is_static m.mods) (is_static a.mods)) h4.0 in
    let h2 = and_parts _ (same_answer m.answer a.answer) h3.0 in
    let h1 = and_parts (not (is_private a.mods)) (same_types m.params a.params) h2.0 in
    let k5 = and_parts _ (throws a b) k in
    let k4 = and_parts _ (not (is_private a.mods)) k5.0 in
    let k3 = and_parts _ (beq (is_static a.mods) (is_static b.mods)) k4.0 in
    let k2 = and_parts _ (same_answer a.answer b.answer) k3.0 in
    let k1 = and_parts (not (is_private b.mods)) (same_types a.params b.params) k2.0 in
    and_from _ (throws m b) (
    and_from _ (not (is_private m.mods)) (
    and_from _ (beq (is_static m.mods) (is_static b.mods)) (
    and_from _ (same_answer m.answer b.answer) (
    and_from (not (is_private b.mods)) (same_types m.params b.params) k1.0 (types_trans m.params a.params b.params h1.1 k1.1))
    (answer_trans m.answer a.answer b.answer h2.1 k2.1))
    (static_trans (is_static m.mods) (is_static a.mods) (is_static b.mods) h3.1 k3.1))
    h4.1)
    (allowed_trans names declared m.throws a.throws b.throws ends h5.1 k5.1)

signature : Name → ℕ → Signature
signature name arity = record { name = name; arity = arity }

signature_is : (s t : Signature) → same_signature s t ≡ true → s ≡ t
unfolding signature
signature_is s t h =
    let parts = and_parts (same_name s.name t.name) (nat_eq s.arity t.arity) h in
    let name : s.name ≡ t.name = name_is s.name t.name parts.0 in
    let arity : s.arity ≡ t.arity = eqb-true s.arity t.arity parts.1 in
    ap (λ n. signature n s.arity) name ∙ ap (signature t.name) arity

-- where a may override what stands above, so may a method that may override a
wrong_less : (names : List Name) (declared : List Declaration) (m a : MethodRow) (xs : List ℕ) → AllEnd (parents_of declared) → signature_of m ≡ signature_of a → may_override names declared m a ≡ true → list_any (is_wrong_over names declared a) xs ≡ false → list_any (is_wrong_over names declared m) xs ≡ false
wrong_less names declared m a [] ends same over h = refl
wrong_less names declared m a (c ∷ xs) ends same over h =
    let parts = or_parts (is_wrong_over names declared a c) (list_any (is_wrong_over names declared a) xs) h in
    let found : method_called declared (signature_of m) c ≡ method_called declared (signature_of a) c = ap (λ s. method_called declared s c) same in
    let cases : (o : Option MethodRow) → option_map_or (λ b. not (may_override names declared a b)) o false ≡ false → option_map_or (λ b. not (may_override names declared m b)) o false ≡ false =
    λ o. elim o as (λ v. option_map_or (λ b. not (may_override names declared a b)) v false ≡ false → option_map_or (λ b. not (may_override names declared m b)) v false ≡ false) [
      | None ↦ λ is. refl
      | Some b ↦ λ is. ap not (override_trans names declared m a b ends over (not_false (may_override names declared a b) is))
    ] in
    let here : is_wrong_over names declared m c ≡ false = rw found (cases (method_called declared (signature_of a) c) parts.0) in
    or_from (is_wrong_over names declared m c) (list_any (is_wrong_over names declared m) xs) here (wrong_less names declared m a xs ends same over parts.1)

-- ---- the nearest

first_step : {A : Type 0} (W : A → Bool) (o rest : Option A) (b : Bool) → (option_map_or W rest true ≡ false → b ≡ true) → option_map_or W (option_or o rest) true ≡ false → (option_map_or (λ x. not (W x)) o false || b) ≡ true
first_step W None rest b more h = more h
first_step W (Some x) rest b more h = or_left (not (W x)) b (ap not h)

-- the nearest is one of those above
first_any : (names : List Name) (declared : List Declaration) (m : MethodRow) (xs : List ℕ) → option_map_or (may_override names declared m) (first_called declared (signature_of m) xs) true ≡ false → list_any (is_wrong_over names declared m) xs ≡ true
first_any names declared m [] h = absurd (differ true h refl)
first_any names declared m (c ∷ xs) h = first_step (may_override names declared m) (method_called declared (signature_of m) c) (first_called declared (signature_of m) xs) (list_any (is_wrong_over names declared m) xs) (first_any names declared m xs) h

longer_step : {A : Type 0} (o rest longer : Option A) (x : A) → (rest ≡ Some x → longer ≡ Some x) → option_or o rest ≡ Some x → option_or o longer ≡ Some x
longer_step None rest longer x more h = more h
longer_step (Some y) rest longer x more h = h

-- what is found on the beginning of a way up is found on the whole
first_longer : (declared : List Declaration) (key : Signature) (ps : List (Option ℕ)) (n k : ℕ) (o : Option ℕ) (a : MethodRow) → n ≤ k → first_called declared key (climb ps n o) ≡ Some a → first_called declared key (climb ps k o) ≡ Some a
unfolding climb
first_longer declared key ps zero k o a le h = absurd (none_some a h)
first_longer declared key ps (suc n) zero o a le h = absurd (omega arith)
first_longer declared key ps (suc n) (suc k) None a le h = absurd (none_some a h)
first_longer declared key ps (suc n) (suc k) (Some c) a le h = longer_step (method_called declared key c) (first_called declared key (climb ps n (parent_in ps c))) (first_called declared key (climb ps k (parent_in ps c))) a (first_longer declared key ps n k (parent_in ps c) a (omega arith)) h

-- each method may override the nearest method above
record AllFit (names : List Name) (declared : List Declaration) : Type 0 where
  pub fit : (c : ℕ) (d : Declaration) (place : ℕ) (m : MethodRow) → slice_get declared c ≡ Some d → slice_get d.methods place ≡ Some m → fits_nearest names declared c m ≡ true

-- the same of the beginning of the way up
fit_short : (names : List Name) (declared : List Declaration) (n c : ℕ) (d : Declaration) (place : ℕ) (m : MethodRow) → AllFit names declared → n ≤ length (parents_of declared) - 1 → slice_get declared c ≡ Some d → slice_get d.methods place ≡ Some m → option_map_or (may_override names declared m) (first_called declared (signature_of m) (climb (parents_of declared) n (parent_in (parents_of declared) c))) true ≡ true
fit_short names declared n c d place m fits le found own =
    let ps : List (Option ℕ) = parents_of declared in
    let key : Signature = signature_of m in
    let whole : superclasses declared c ≡ climb ps (length ps - 1) (parent_in ps c) = superclasses_are declared c d found in
    let all : option_map_or (may_override names declared m) (first_called declared key (climb ps (length ps - 1) (parent_in ps c))) true ≡ true = rw (← whole) (fits.fit c d place m found own) in
    let cases : (o : Option MethodRow) → first_called declared key (climb ps n (parent_in ps c)) ≡ o → option_map_or (may_override names declared m) o true ≡ true =
    λ o. elim o as (λ v. first_called declared key (climb ps n (parent_in ps c)) ≡ v → option_map_or (may_override names declared m) v true ≡ true) [
      | None ↦ λ is. refl
      | Some a ↦ λ is. let more : first_called declared key (climb ps (length ps - 1) (parent_in ps c)) ≡ Some a = first_longer declared key ps n (length ps - 1) (parent_in ps c) a le is in
          subst (λ v. option_map_or (may_override names declared m) v true ≡ true) more all
    ] in
    cases (first_called declared key (climb ps n (parent_in ps c))) refl

-- the method that a class declares under a signature
record IsCalled (declared : List Declaration) (key : Signature) (c : ℕ) (a : MethodRow) : Type 0 where
  pub class : Declaration
  pub place : ℕ
  pub found : slice_get declared c ≡ Some class
  pub own : slice_get class.methods place ≡ Some a
  pub same : same_signature key (signature_of a) ≡ true

find_holds : {A : Type 0} (p : A → Bool) (xs : List A) (x : A) → find p xs ≡ Some x → p x ≡ true
find_holds p [] x h = absurd (none_some x h)
find_holds {A} p (y ∷ ys) x h =
    let same : Some y ≡ Some x → y ≡ x = λ e. cc in
    let cases : (b : Bool) → p y ≡ b → cond b (Some y) (find p ys) ≡ Some x → p x ≡ true =
    λ b. elim b as (λ v. p y ≡ v → cond v (Some y) (find p ys) ≡ Some x → p x ≡ true) [
      | true ↦ λ is e. subst (λ z. p z ≡ true) (same e) is
      | false ↦ λ is e. find_holds p ys x e
    ] in
    cases (p y) refl h

called_is : (declared : List Declaration) (key : Signature) (c : ℕ) (a : MethodRow) → method_called declared key c ≡ Some a → IsCalled declared key c a
called_is declared key c a h =
    let p : MethodRow → Bool = λ x. same_signature key (signature_of x) in
    let cases : (o : Option Declaration) → slice_get declared c ≡ o → option_and_then (λ d. find p d.methods) o ≡ Some a → IsCalled declared key c a =
    λ o. elim o as (λ v. slice_get declared c ≡ v → option_and_then (λ d. find p d.methods) v ≡ Some a → IsCalled declared key c a) [
      | None ↦ λ is no. absurd (none_some a no)
      | Some d ↦ λ is there. record { class = d; place = position_or_len p d.methods; found = is; own = sym (find_at p d.methods) ∙ there; same = find_holds p d.methods a there }
    ] in
    cases (slice_get declared c) refl h

all_right : (names : List Name) (declared : List Declaration) (n : ℕ) (o : Option ℕ) (m : MethodRow) → AllEnd (parents_of declared) → AllFit names declared → n ≤ length (parents_of declared) - 1 → option_map_or (may_override names declared m) (first_called declared (signature_of m) (climb (parents_of declared) n o)) true ≡ true → list_any (is_wrong_over names declared m) (climb (parents_of declared) n o) ≡ false
unfolding climb
all_right names declared zero o m ends fits le h = refl
all_right names declared (suc n) None m ends fits le h = refl
all_right names declared (suc n) (Some c) m ends fits le h =
    let ps : List (Option ℕ) = parents_of declared in
    let key : Signature = signature_of m in
    let rest : List ℕ = climb ps n (parent_in ps c) in
    let cases : (v : Option MethodRow) → method_called declared key c ≡ v → option_map_or (may_override names declared m) (option_or v (first_called declared key rest)) true ≡ true → (option_map_or (λ a. not (may_override names declared m a)) v false || list_any (is_wrong_over names declared m) rest) ≡ false =
    λ v. elim v as (λ w. method_called declared key c ≡ w → option_map_or (may_override names declared m) (option_or w (first_called declared key rest)) true ≡ true → (option_map_or (λ a. not (may_override names declared m a)) w false || list_any (is_wrong_over names declared m) rest) ≡ false) [
      | None ↦ λ is more. all_right names declared n (parent_in ps c) m ends fits (omega arith) more
      | Some a ↦ λ is over.
          let called = called_is declared key c a is in
          let short = fit_short names declared n c called.class called.place a fits (omega arith) called.found called.own in
          let above : list_any (is_wrong_over names declared a) rest ≡ false = all_right names declared n (parent_in ps c) a ends fits (omega arith) short in
          or_from (not (may_override names declared m a)) (list_any (is_wrong_over names declared m) rest) (ap not over) (wrong_less names declared m a rest ends (signature_is key (signature_of a) called.same) over above)
    ] in
    cases (method_called declared key c) refl h

-- ---- the faults

abbrev OverridesIn : List Name → List Declaration → List Declaration → Fault → Type 0
OverridesIn names all some = InSome some (λ number d. InSome d.methods (λ place m. OfRule 6 (OverridesWrongly names all number m)))

abbrev NearestIn : List Name → List Declaration → List Declaration → Fault → Type 0
NearestIn names all some = InSome some (λ number d. InSome d.methods (λ place m. OfRule 6 (NearestWrong names all number m)))

pub nearest_fault : (names : List Name) (all some : List Declaration) (e : CheckError) → Blames (InSome some (λ number d. InSome d.methods (λ place m. OfRule 6 (NearestWrong names all number m)))) e → Blames (InSome some (λ number d. InSome d.methods (λ place m. OfRule 6 (OverridesWrongly names all number m)))) e
nearest_fault names all some e h = weaker (NearestIn names all some) (OverridesIn names all some) e (λ f is. record {
  number = is.number;
  element = is.element;
  found = is.found;
  holds = record {
    number = is.holds.number;
    element = is.holds.element;
    found = is.holds.found;
    holds = record { rule_is = is.holds.holds.rule_is; holds = (first_any names all is.holds.element (superclasses all is.number) is.holds.holds.holds.0, is.holds.holds.holds.1) };
  };
}) h

all_fit : (names : List Name) (all : List Declaration) → Clear (NearestIn names all all) → AllFit names all
all_fit names all clear = record {
  fit = λ c d place m found own. true_from_ne_false (fits_nearest names all c m) (λ no.
      clear.none (record { rule = 6; at = m.at }) (record { number = c; element = d; found = found; holds = record { number = place; element = m; found = own; holds = record { rule_is = refl; holds = (no, refl) } } }));
}

pub nearest_clear : (names : List Name) (all some : List Declaration) → some ≡ all → AllEnd (parents_of all) → Clear (InSome some (λ number d. InSome d.methods (λ place m. OfRule 6 (NearestWrong names all number m)))) → Clear (InSome some (λ number d. InSome d.methods (λ place m. OfRule 6 (OverridesWrongly names all number m))))
nearest_clear names all some same ends h =
    let clear : Clear (NearestIn names all all) = subst (λ ds. Clear (NearestIn names all ds)) same h in
    let fits : AllFit names all = all_fit names all clear in
    let ps : List (Option ℕ) = parents_of all in
    let right : (c : ℕ) (d : Declaration) (place : ℕ) (m : MethodRow) → slice_get all c ≡ Some d → slice_get d.methods place ≡ Some m → list_any (is_wrong_over names all m) (superclasses all c) ≡ false =
    λ c d place m found own. rw (superclasses_are all c d found) (all_right names all (length ps - 1) (parent_in ps c) m ends fits (omega arith) (fit_short names all (length ps - 1) c d place m fits (omega arith) found own)) in
    let whole : Clear (OverridesIn names all all) = record { none = λ f is. differ _ (right is.number is.element is.holds.number is.holds.element is.found is.holds.found) is.holds.holds.holds.0 } in
    subst (λ ds. Clear (OverridesIn names all ds)) (sym same) whole
