-- Scopes of a body, one after another.
use Rattle.std.proofs.Common.{◌≡◌, ◌∙◌, ℕ, zero, suc, ◌+◌, Bool, true, false, IsTrue, List, [], ◌∷◌, ◌++◌, length, take, Some, None, slice_get, refl, subst, sym, ap, arith, cond}
use Rattle.std.specs.Map.{lookup}
use Rattle.std.specs.List.{list_all}
use Rattle.std.proofs.lemmas.Option.{none-some, same_Some}
use Rattle.std.proofs.lemmas.Bool.{and_from}
use Rattle.std.proofs.lemmas.List.{append-nil, append_assoc, length-append}
use Rattle.std.proofs.lemmas.List.Folds.{list_all-append}
use Rattle.core_tree.specs.declared.ty.Ty.{Ty}
use Rattle.core_tree.specs.declared.program.Program.{Program}
use Rattle.core_tree.specs.Typing.{Scope as CoreScope}
use Rattle.core_tree.specs.WellTyped.{is_value, numbers_from}
use Rattle.class_table.specs.Names.{Name, same_name}
use Rattle.java_names.specs.declared.scope.Scope.{Scope}
use Rattle.java_names.specs.Scope.{declared, left, back_at}
use Rattle.java_exprs.specs.declared.environment.Environment.{Environment}
use Rattle.typing_law.specs.Agrees.{AgreesOnScope}
use Rattle.typing_law.specs.Scopes.{HasSlot, IsKnown, GoesTo, FitsBody}

-- ---- lists

pub get_before : {X : Type 0} (xs ys : List X) (k : ℕ) (x : X) → slice_get xs k ≡ Some x → slice_get (xs ++ ys) k ≡ Some x
get_before [] ys k x is = absurd (none-some x is)
get_before (y ∷ xs) ys zero x is = is
get_before (y ∷ xs) ys (suc k) x is = get_before xs ys k x is

pub get_end : {X : Type 0} (xs : List X) (y : X) → slice_get (xs ++ y ∷ []) (length xs) ≡ Some y
get_end [] y = refl
get_end (x ∷ xs) y = get_end xs y

-- what is found in the front of a list is found in the list
pub lookup_front : (test : Name → Bool) (es : List (Name × ℕ)) (n k : ℕ) → lookup test (take n es) ≡ Some k → lookup test es ≡ Some k
lookup_front test es zero k is = absurd (none-some k is)
lookup_front test [] (suc n) k is = absurd (none-some k is)
lookup_front test (e ∷ es) (suc n) k is = cases (lookup_front test es n k) (test e.0) is
  where
    cases : (lookup test (take n es) ≡ Some k → lookup test es ≡ Some k) → (b : Bool) → cond b (Some e.1) (lookup test (take n es)) ≡ Some k → cond b (Some e.1) (lookup test es) ≡ Some k
    cases more true is = is
    cases more false is = more is

-- what is found in a list with one entry more is found in the list, or is the entry
pub lookup_more : (test : Name → Bool) (es : List (Name × ℕ)) (e : Name × ℕ) (k : ℕ) {Q : Type 0} → lookup test (es ++ e ∷ []) ≡ Some k → (lookup test es ≡ Some k → Q) → (e.1 ≡ k → Q) → Q
lookup_more test [] e k {Q = Q} is before last = cases (test e.0) is
  where
    cases : (b : Bool) → cond b (Some e.1) None ≡ Some k → Q
    cases true is = last (same_Some _ _ is)
    cases false is = absurd (none-some k is)
lookup_more test (d ∷ es) e k {Q = Q} is before last = cases (λ is before. lookup_more test es e k {Q = Q} is before last) (test d.0) is before
  where
    cases : (lookup test (es ++ e ∷ []) ≡ Some k → (lookup test es ≡ Some k → Q) → Q) → (b : Bool) → cond b (Some d.1) (lookup test (es ++ e ∷ [])) ≡ Some k → (cond b (Some d.1) (lookup test es) ≡ Some k → Q) → Q
    cases more true is before = before is
    cases more false is before = more is before

-- numbers go on after others
pub numbers_append : {X : Type 0} (n : ℕ) (xs ys : List X) → numbers_from n (xs ++ ys) ≡ numbers_from n xs ++ numbers_from (n + length xs) ys
numbers_append n [] ys = let e : n ≡ n + 0 = omega arith in ap (λ m. numbers_from m ys) e
numbers_append n (x ∷ xs) ys = let e : suc n + length xs ≡ n + suc (length xs) = omega arith in ap (λ ks. n ∷ ks) (numbers_append (suc n) xs ys ∙ ap (λ m. numbers_from (suc n) xs ++ numbers_from m ys) e)

-- ---- scopes

module _ (env : Environment) (p : Program) where
  unfoldable pub goes_nowhere : (s : Scope) → IsKnown env p s → GoesTo env p s s
  goes_nowhere s known = record { class = refl; is_static = refl; answer = refl; in_loop = refl; more = []; slots = sym (append-nil s.slots); values = refl; known = known }

  unfoldable pub goes_on : (s after last : Scope) → GoesTo env p s after → GoesTo env p after last → GoesTo env p s last
  goes_on s after last first second = record {
    class = second.class ∙ first.class;
    is_static = second.is_static ∙ first.is_static;
    answer = second.answer ∙ first.answer;
    in_loop = second.in_loop ∙ first.in_loop;
    more = first.more ++ second.more;
    slots = second.slots ∙ ap (λ xs. xs ++ second.more) first.slots ∙ append_assoc s.slots first.more second.more;
    values = list_all-append (is_value p) first.more second.more ∙ and_from (list_all (is_value p) first.more) (list_all (is_value p) second.more) first.values second.values;
    known = second.known;
  }

  -- the numbers of the slots that two parts add
  pub numbers_on : (s after last : Scope) (first : GoesTo env p s after) (second : GoesTo env p after last) → numbers_from (length s.slots) (first.more ++ second.more) ≡ numbers_from (length s.slots) first.more ++ numbers_from (length after.slots) second.more
  numbers_on s after last first second =
      let e : length s.slots + length first.more ≡ length after.slots = sym (ap length first.slots ∙ length-append s.slots first.more) in
      numbers_append (length s.slots) first.more second.more ∙ ap (λ m. numbers_from (length s.slots) first.more ++ numbers_from m second.more) e

  -- a scope whose locals are left
  pub left_known : (outer s : Scope) → IsKnown env p s → IsKnown env p (left outer s)
  unfolding back_at
  left_known outer s known = record {
    class = known.class;
    superclass = known.superclass;
    local = λ x n is. let has = known.local x n (lookup_front (same_name x) s.locals (length outer.locals) n is) in record { type = has.type; slot = has.slot; value = has.value };
  }

  -- the scope after a part whose locals end with it
  unfoldable pub goes_left : (s after : Scope) → GoesTo env p s after → GoesTo env p s (left s after)
  unfolding back_at
  goes_left s after goes = record {
    class = goes.class;
    is_static = goes.is_static;
    answer = goes.answer;
    in_loop = refl;
    more = goes.more;
    slots = goes.slots;
    values = goes.values;
    known = left_known s after goes.known;
  }

  -- the scope after a declaration
  unfoldable pub goes_declared : (s : Scope) (x : Name) (t : Ty) → IsKnown env p s → IsTrue (is_value p t) → GoesTo env p s (declared s x t)
  unfolding declared
  goes_declared s x t known value = record {
    class = refl;
    is_static = refl;
    answer = refl;
    in_loop = refl;
    more = t ∷ [];
    slots = refl;
    values = and_from (is_value p t) true value refl;
    known = record {
      class = known.class;
      superclass = known.superclass;
      local = λ y n is. lookup_more (same_name y) s.locals (x, length s.slots) n {Q = HasSlot p (declared s x t) n} is
          (λ before. let has = known.local y n before in record { type = has.type; slot = get_before s.slots (t ∷ []) n has.type has.slot; value = has.value })
          (λ last. record { type = t; slot = subst (λ k. slice_get (s.slots ++ t ∷ []) k ≡ Some t) last (get_end s.slots t); value = value });
    };
  }

  -- what can be named in a body at an earlier place of it
  pub fits_before : (s after last : Scope) (cs : CoreScope) → GoesTo env p after last → FitsBody s last.slots cs → FitsBody s after.slots cs
  fits_before s after last cs goes fits = record { this = fits.this; answer = fits.answer; slots = λ n t is. fits.slots n t (subst (λ xs. slice_get xs n ≡ Some t) (sym goes.slots) (get_before after.slots goes.more n t is)) }

  -- at a later place
  pub fits_after : (s after : Scope) (slots : List Ty) (cs : CoreScope) → GoesTo env p s after → FitsBody s slots cs → FitsBody after slots cs
  fits_after s after slots cs goes fits = record {
    this = λ on_object. fits.this (sym goes.is_static ∙ on_object) ∙ ap Some (sym goes.class);
    answer = fits.answer ∙ sym goes.answer;
    slots = fits.slots;
  }

  pub scope_agrees : (s : Scope) (cs : CoreScope) → IsKnown env p s → FitsBody s s.slots cs → AgreesOnScope env p s cs
  scope_agrees s cs known fits = record {
    class = known.class;
    superclass = known.superclass;
    this = fits.this;
    local = λ x n is. let has = known.local x n is in record { type = has.type; slot = has.slot; found = fits.slots n has.type has.slot; value = has.value };
  }
