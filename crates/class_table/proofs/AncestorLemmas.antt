-- Lemmas on the way up from a class.
use Rattle.std.proofs.Common.{◌≡◌, ◌+◌, ◌-◌, ◌<◌, ◌≤◌, ◌⊎◌, ℕ, zero, suc, List, [], ◌∷◌, ◌++◌, map, length, get_or, Option, Some, None, option_and_then, unwrap_or, Bool, true, false, append_assoc, append-nil, arith, sym, ◌∙◌, refl, ap, subst, inl, inr}
use Rattle.std.specs.List.{slice_get, list_any, range_with_len}
use borrow.Author.Count.{below_more}
use Rattle.std.proofs.lemmas.List.{length-map}
use Rattle.std.proofs.lemmas.Option.{slice_get_within}
use Rattle.class_table.specs.declared.declaration.Declaration.{Declaration}
use Rattle.class_table.specs.Faults.{Clear, InSome, OfRule}
use Rattle.class_table.specs.Rules.{OwnAncestor}
use Rattle.class_table.proofs.Faults.{differ}
use Rattle.std.proofs.lemmas.List.FromFn.{get_or-map-range_with_len, length-map-range_with_len}
use Rattle.std.proofs.lemmas.Map.Steps.{length-le_from_distinct_below}
use Rattle.std.proofs.lemmas.Map.Keys.{IsDistinct-from_apart}
use Rattle.std.proofs.Math.Dec.{eqb}
use Rattle.std.proofs.lemmas.Bool.{eqb-true, eq-eqb}
use Rattle.class_table.specs.Ancestors.{parent_in, up, climb, line_of, parents_of, IsAncestor, IsKnown, AllEnd}

not_some : (d : ℕ) → None ≡ Some d → ⊥
not_some d e = cc

pub up_add : (ps : List (Option ℕ)) (m n c : ℕ) → up ps (m + n) c ≡ option_and_then (up ps n) (up ps m c)
unfolding up
up_add ps zero n c = let e : 0 + n ≡ n = omega arith in rw e refl
up_add ps (suc m) n c =
    let e : suc m + n ≡ suc (m + n) = omega arith in
    let step : (o : Option ℕ) → option_and_then (up ps (m + n)) o ≡ option_and_then (up ps n) (option_and_then (up ps m) o) =
    λ o. elim o as (λ v. option_and_then (up ps (m + n)) v ≡ option_and_then (up ps n) (option_and_then (up ps m) v)) [ None ↦ refl | Some d ↦ up_add ps m n d ] in
    rw e (step (parent_in ps c))

pub up_one : (ps : List (Option ℕ)) (c : ℕ) → up ps 1 c ≡ parent_in ps c
unfolding up
up_one ps c = elim (parent_in ps c) as (λ v. option_and_then (up ps 0) v ≡ v) [ None ↦ refl | Some d ↦ refl ]

-- one step more
pub up_more : (ps : List (Option ℕ)) (n c : ℕ) → up ps (n + 1) c ≡ option_and_then (parent_in ps) (up ps n c)
up_more ps n c =
    let step : (o : Option ℕ) → option_and_then (up ps 1) o ≡ option_and_then (parent_in ps) o =
    λ o. elim o as (λ v. option_and_then (up ps 1) v ≡ option_and_then (parent_in ps) v) [ None ↦ refl | Some d ↦ up_one ps d ] in
    up_add ps n 1 c ∙ step (up ps n c)

-- after the top there is nothing
pub up_past : (ps : List (Option ℕ)) (m n c : ℕ) → m ≤ n → up ps m c ≡ None → up ps n c ≡ None
up_past ps m n c le top =
    let e : n ≡ m + (n - m) = omega arith in
    rw e (up_add ps m (n - m) c ∙ rw top refl)

-- before a class there are classes
pub up_before : (ps : List (Option ℕ)) (m n c d : ℕ) → m ≤ n → up ps n c ≡ Some d → (e : ℕ) × (up ps m c ≡ Some e)
up_before ps m n c d le is =
    let top : up ps m c ≡ None → ⊥ = λ t. let no : up ps n c ≡ None = up_past ps m n c le t in cc in
    let cases : (o : Option ℕ) → up ps m c ≡ o → (e : ℕ) × (up ps m c ≡ Some e) =
    λ o. elim o as (λ v. up ps m c ≡ v → (e : ℕ) × (up ps m c ≡ Some e)) [ None ↦ λ t. absurd (top t) | Some e ↦ λ is_e. (e, is_e) ] in
    cases (up ps m c) refl

pub up_known : (ps : List (Option ℕ)) (n c d : ℕ) → IsKnown ps → c < length ps → up ps n c ≡ Some d → d < length ps
unfolding up
up_known ps zero c d known within is = let e : c ≡ d = cc in subst (λ x. x < length ps) e within
up_known ps (suc n) c d known within is =
    let cases : (o : Option ℕ) → parent_in ps c ≡ o → option_and_then (up ps n) o ≡ Some d → d < length ps =
    λ o. elim o as (λ v. parent_in ps c ≡ v → option_and_then (up ps n) v ≡ Some d → d < length ps) [
      | None ↦ λ p q. absurd (not_some d q)
      | Some p ↦ λ is_p q. up_known ps n p d known (known.known c p is_p) q
    ] in
    cases (parent_in ps c) refl is

-- ---- the walk

pub climb_top : (ps : List (Option ℕ)) (n : ℕ) → climb ps n None ≡ []
unfolding climb
climb_top ps zero = refl
climb_top ps (suc n) = refl

pub climb_step : (ps : List (Option ℕ)) (i c : ℕ) → i < length ps → climb ps (length ps - i) (Some c) ≡ c ∷ climb ps (length ps - (i + 1)) (parent_in ps c)
unfolding climb
climb_step ps i c within =
    let e : length ps - i ≡ suc (length ps - (i + 1)) = omega arith in
    rw e refl

pub climb_done : (ps : List (Option ℕ)) (i c : ℕ) → length ps ≤ i → climb ps (length ps - i) (Some c) ≡ []
unfolding climb
climb_done ps i c past =
    let e : length ps - i ≡ 0 = omega arith in
    rw e refl

-- at the top the classes met are the line
pub walk_top : (ps : List (Option ℕ)) (c : ℕ) (line : List ℕ) (i : ℕ) (next : Option ℕ) → i ≤ length ps → next ≡ None → line_of ps c ≡ line ++ climb ps (length ps - i) next → up ps i c ≡ next → (line ≡ line_of ps c) × (up ps (length ps) c ≡ None)
walk_top ps c line i next within top is at =
    let whole : line_of ps c ≡ line = is ∙ rw top (rw (climb_top ps (length ps - i)) (append-nil line)) in
    (sym whole, up_past ps i (length ps) c within (at ∙ top))

-- a walk of all its steps that is at the top
pub walk_end : (ps : List (Option ℕ)) (c : ℕ) (line : List ℕ) (i : ℕ) (next : Option ℕ) → i ≤ length ps → length ps ≤ i → next ≡ None → line_of ps c ≡ line ++ climb ps (length ps - i) next → up ps i c ≡ next → (line ≡ line_of ps c) × (up ps (length ps) c ≡ None)
walk_end ps c line i next within past top is at = walk_top ps c line i next within top is at

-- one step of a walk
pub walk_line : (ps : List (Option ℕ)) (c : ℕ) (line longer : List ℕ) (i here : ℕ) (next after : Option ℕ) → i < length ps → next ≡ Some here → line_of ps c ≡ line ++ climb ps (length ps - i) next → longer ≡ line ++ here ∷ [] → after ≡ parent_in ps here → line_of ps c ≡ longer ++ climb ps (length ps - (i + 1)) after
walk_line ps c line longer i here next after within at is long up_is =
    let opened : line ++ climb ps (length ps - i) next ≡ line ++ here ∷ climb ps (length ps - (i + 1)) (parent_in ps here) = rw at (ap (λ xs. line ++ xs) (climb_step ps i here within)) in
    is ∙ opened ∙ rw (long, up_is) (sym (append_assoc line (here ∷ []) (climb ps (length ps - (i + 1)) (parent_in ps here))))

pub walk_next : (ps : List (Option ℕ)) (c i here : ℕ) (next after : Option ℕ) → next ≡ Some here → up ps i c ≡ next → after ≡ parent_in ps here → up ps (i + 1) c ≡ after
walk_next ps c i here next after at is up_is = up_more ps i c ∙ rw (is, at) (sym up_is)

-- ---- cycles

-- the first number below n that passes a test, or none does
pub some_below : (p : ℕ → Bool) (n : ℕ) → ((k : ℕ) × (k < n) × (p k ≡ true)) ⊎ ((k : ℕ) → k < n → p k ≡ false)
some_below p zero = inr (λ k below. absurd (omega arith))
some_below p (suc n) =
    let here : (b : Bool) → p n ≡ b → ((k : ℕ) → k < n → p k ≡ false) → ((k : ℕ) × (k < suc n) × (p k ≡ true)) ⊎ ((k : ℕ) → k < suc n → p k ≡ false) =
    λ b. elim b as (λ v. p n ≡ v → ((k : ℕ) → k < n → p k ≡ false) → ((k : ℕ) × (k < suc n) × (p k ≡ true)) ⊎ ((k : ℕ) → k < suc n → p k ≡ false)) [
      | true ↦ λ is none. inl (n, omega arith, is)
      | false ↦ λ is none. inr (λ k below. below_more (λ i. p i ≡ false) n none is k (omega arith))
    ] in
    elim (some_below p n) [
      | inl found ↦ inl (found.0, omega arith, found.2)
      | inr none ↦ here (p n) refl none
    ]

is_at : Option ℕ → ℕ → Bool
is_at None d = false
is_at (Some x) d = eqb x d

is_at_true : (o : Option ℕ) (d : ℕ) → is_at o d ≡ true → o ≡ Some d
unfolding is_at
is_at_true None d h = absurd (differ false refl h)
is_at_true (Some x) d h = ap Some (eqb-true x d h)

is_at_some : (o : Option ℕ) (d : ℕ) → o ≡ Some d → is_at o d ≡ true
unfolding is_at
is_at_some o d h = rw h (eq-eqb d d refl)

any_range : (f : ℕ → ℕ) (a n q : ℕ) → list_any (eqb q) (map f (range_with_len a n)) ≡ true → (i : ℕ) × (i < a + n) × (f i ≡ q)
any_range f a zero q h = absurd (differ false refl h)
any_range f a (suc n) q h =
    let cases : (b : Bool) → eqb q (f a) ≡ b → (i : ℕ) × (i < a + suc n) × (f i ≡ q) =
    λ b. elim b as (λ v. eqb q (f a) ≡ v → (i : ℕ) × (i < a + suc n) × (f i ≡ q)) [
      | true ↦ λ is. (a, omega arith, sym (eqb-true q (f a) is))
      | false ↦ λ is. let rest : list_any (eqb q) (map f (range_with_len (a + 1) n)) ≡ true = rw is at h in
          let more = any_range f (a + 1) n q rest in
          (more.0, omega (arith, more.1), more.2)
    ] in
    cases (eqb q (f a)) refl

at_step : ℕ → List (Option ℕ) → ℕ → ℕ
at_step c ps i = unwrap_or (up ps i c) 0

at_step_is : (ps : List (Option ℕ)) (c d m n : ℕ) → m ≤ n → up ps n c ≡ Some d → up ps m c ≡ Some (at_step c ps m)
unfolding at_step
at_step_is ps c d m n le is =
    let before = up_before ps m n c d le is in
    rw before.1 refl

-- from a class that a way comes to twice, it comes to each later one again
round : (ps : List (Option ℕ)) (c x here i j n : ℕ) → i < j → j ≤ n → up ps i c ≡ Some x → up ps j c ≡ Some x → up ps n c ≡ Some here → up ps (j - i) here ≡ Some here
round ps c x here i j n less le first second last =
    let a : j ≡ i + (j - i) = omega arith in
    let b : n ≡ i + (n - i) = omega arith in
    let turn : up ps (j - i) x ≡ Some x = let e : up ps (i + (j - i)) c ≡ Some x = rw (← a) second in sym (up_add ps i (j - i) c ∙ rw first refl) ∙ e in
    let rest : up ps (n - i) x ≡ Some here = let e : up ps (i + (n - i)) c ≡ Some here = rw (← b) last in sym (up_add ps i (n - i) c ∙ rw first refl) ∙ e in
    let one : up ps ((n - i) + (j - i)) x ≡ up ps (j - i) here = up_add ps (n - i) (j - i) x ∙ rw rest refl in
    let other : up ps ((j - i) + (n - i)) x ≡ Some here = up_add ps (j - i) (n - i) x ∙ rw turn rest in
    let swap : (j - i) + (n - i) ≡ (n - i) + (j - i) = omega arith in
    sym one ∙ (rw (← swap) other)

-- where the way up is longer than the list, it comes back to where it is
pub comes_back : (ps : List (Option ℕ)) (c here : ℕ) → IsKnown ps → c < length ps → up ps (length ps) c ≡ Some here → IsAncestor ps here here
comes_back ps c here known within is =
    let n = length ps in
    let f : ℕ → ℕ = at_step c ps in
    let step : (i : ℕ) → i ≤ n → up ps i c ≡ Some (f i) = λ i le. at_step_is ps c here i n le is in
    let xs : List ℕ = map f (range_with_len 0 (n + 1)) in
    let no : ((k : ℕ) → k < n → is_at (up ps (suc k) here) here ≡ false) → ⊥ = λ none.
    let size : length xs ≡ n + 1 = length-map-range_with_len f 0 (n + 1) in
    let meet : (i j : ℕ) → i < j → j ≤ n → f i ≡ f j → ⊥ = λ i j less le same.
    let again : up ps j c ≡ Some (f i) = step j le ∙ ap Some (sym same) in
    let back : up ps (j - i) here ≡ Some here = round ps c (f i) here i j n less le (step i (omega arith)) again is in
    let e : suc (j - i - 1) ≡ j - i = omega arith in
    let hit : is_at (up ps (suc (j - i - 1)) here) here ≡ true = is_at_some _ here (rw e back) in
    differ _ (none (j - i - 1) (omega arith)) hit in
    let apart : (i j d : ℕ) → i < j → j < length xs → eqb (get_or xs i d) (get_or xs j d) ≡ false = λ i j d less lt.
    let below_i : i < n + 1 = omega arith in
    let below_j : j < n + 1 = omega arith in
    let read_i : get_or xs i d ≡ f i = get_or-map-range_with_len f 0 (n + 1) i i d below_i (omega arith) in
    let read_j : get_or xs j d ≡ f j = get_or-map-range_with_len f 0 (n + 1) j j d below_j (omega arith) in
    let cases : (b : Bool) → eqb (f i) (f j) ≡ b → eqb (f i) (f j) ≡ false =
    λ b. elim b as (λ v. eqb (f i) (f j) ≡ v → eqb (f i) (f j) ≡ false) [
      | true ↦ λ is_same. absurd (meet i j less (omega arith) (eqb-true (f i) (f j) is_same))
      | false ↦ λ is_other. is_other
    ] in
    rw (read_i, read_j) (cases (eqb (f i) (f j)) refl) in
    let low : (q : ℕ) → list_any (eqb q) xs ≡ true → q < n = λ q h.
    let at = any_range f 0 (n + 1) q h in
    let e : f at.0 ≡ q = at.2 in
    let small : f at.0 < n = up_known ps at.0 c (f at.0) known within (step at.0 (omega (arith, at.1))) in
    subst (λ x. x < n) e small in
    let many : length xs ≤ n = length-le_from_distinct_below xs n (IsDistinct-from_apart eqb xs apart) low in
    omega arith in
    elim (some_below (λ k. is_at (up ps (suc k) here) here) n) [
      | inl found ↦ (found.0, is_at_true (up ps (suc found.0) here) here found.2)
      | inr none ↦ absurd (no none)
    ]

-- ---- the other way

times : ℕ → ℕ → ℕ
times zero s = 0
times (suc k) s = times k s + s

times_large : (k s : ℕ) → k ≤ times k (suc s)
unfolding times
times_large zero s = omega arith
times_large (suc k) s = let more = times_large k s in omega arith

round_again : (ps : List (Option ℕ)) (c s k : ℕ) → up ps s c ≡ Some c → up ps (times k s) c ≡ Some c
unfolding times up
round_again ps c s zero turn = refl
round_again ps c s (suc k) turn = up_add ps (times k s) s c ∙ rw (round_again ps c s k turn) turn

-- where the way up ends, no class is its own ancestor
pub not_above_itself : (ps : List (Option ℕ)) (c : ℕ) → up ps (length ps) c ≡ None → ¬ IsAncestor ps c c
not_above_itself ps c ends above =
    let s : ℕ = suc above.0 in
    let there : up ps (times (length ps) s) c ≡ Some c = round_again ps c s (length ps) above.1 in
    let past : up ps (times (length ps) s) c ≡ None = up_past ps (length ps) (times (length ps) s) c (times_large (length ps) above.0) ends in
    not_some c (sym past ∙ there)

pub on_cycle : (declared : List Declaration) (ps : List (Option ℕ)) (c here : ℕ) (d : Declaration) → ps ≡ parents_of declared → IsKnown ps → c < length declared → up ps (length ps) c ≡ Some here → slice_get declared here ≡ Some d → InSome declared (λ number e. OfRule 3 (OwnAncestor declared number e)) (record { rule = 3; at = d.at })
on_cycle declared ps c here d is known within at found =
    let size : length ps ≡ length declared = rw is (length-map declared (λ e. e.parent)) in
    let back : IsAncestor ps here here = comes_back ps c here known (rw size within) at in
    record { number = here; element = d; found = found; holds = record { rule_is = refl; holds = (subst (λ qs. IsAncestor qs here here) is back, refl) } }

pub cycle_within : (declared : List Declaration) (ps : List (Option ℕ)) (c here : ℕ) → ps ≡ parents_of declared → IsKnown ps → c < length declared → up ps (length ps) c ≡ Some here → here < length declared
cycle_within declared ps c here is known within at =
    let size : length ps ≡ length declared = rw is (length-map declared (λ e. e.parent)) in
    let low : here < length ps = up_known ps (length ps) c here known (rw size within) at in
    rw (← size) low

pub ends_clear : (declared : List Declaration) → AllEnd (parents_of declared) → Clear (InSome declared (λ number d. OfRule 3 (OwnAncestor declared number d)))
ends_clear declared ends = record {
  none = λ f some.
      let size : length (parents_of declared) ≡ length declared = length-map declared (λ e. e.parent) in
      let within : some.number < length declared = slice_get_within declared some.number some.element some.found in
      not_above_itself (parents_of declared) some.number (ends.ends some.number (rw size within)) some.holds.holds.0;
}

pub all_end : (declared : List Declaration) (ps : List (Option ℕ)) (n : ℕ) → ps ≡ parents_of declared → length declared ≤ n → ((c : ℕ) → c < n → up ps (length ps) c ≡ None) → AllEnd (parents_of declared)
all_end declared ps n is past ends =
    let size : length (parents_of declared) ≡ length declared = length-map declared (λ e. e.parent) in
    rw (← is) (record { ends = λ c within. ends c (let low : c < length (parents_of declared) = rw (← is) within in omega arith) })
