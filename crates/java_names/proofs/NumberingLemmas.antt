-- The numbers of keys after one more key.
use Rattle.std.proofs.Common.{◌≡◌, ℕ, Bool, true, false, not, cond, length-append, List, [], ◌∷◌, ◌++◌, length, position, Option, None, Some, is_some, refl, sym, ap, ◌∙◌, true≢false, if◌then◌else◌, arith}
use Rattle.std.specs.List.{list_any}
use Rattle.std.specs.Option.{option_or}
use Rattle.std.specs.Cmp.{IsEquivalence}
use Rattle.std.proofs.lemmas.List.Folds.{position_or_len_push}
use Rattle.std.proofs.lemmas.List.Sums.{prefix_len-le-length}
use Rattle.indexmap.specs.IndexMap.{IndexMap, get}
use Rattle.java_names.specs.Numbering.{IsFirst}

pub option_or-None : {X : Type 0} (o : Option X) → option_or o None ≡ o
option_or-None None = refl
option_or-None (Some x) = refl

pub is_none_of : {X : Type 0} (o : Option X) → is_some o ≡ false → o ≡ None
is_none_of None h = refl
is_none_of (Some x) h = absurd (true≢false h)

-- the first place among one key more: that among the others, and else the last
pub position-push : {X : Type 0} (p : X → Bool) (xs : List X) (y : X)
    → position p (xs ++ y ∷ []) ≡ option_or (position p xs) (if p y then Some (length xs) else None)
position-push p xs y = grind (arith, position_or_len_push p xs y, prefix_len-le-length (λ x. not (p x)) xs, length-append xs (y ∷ []))

module _ {K S : Type 0} {eq : K → K → Bool} {m : IndexMap K ℕ S} {keys : List K} (key : K) (laws : IsEquivalence eq) (old : IsFirst eq m keys) where
  -- equal keys are found at the same place
  same_place : (q : K) → eq key q ≡ true → position (eq key) keys ≡ position (eq q) keys
  same_place q e = λ j. position (λ z. laws.congr key q z e j) keys

  -- a key that isn't there yet is found at its place
  pub first-new : {n : IndexMap K ℕ S} (number : ℕ) → number ≡ length keys → is_some (get eq m key) ≡ false
      → ((q : K) → get eq n q ≡ cond (eq key q) (Some number) (get eq m q)) → IsFirst eq n (keys ++ key ∷ [])
  first-new {n} number counted unseen updated = record { found = λ q. by q (eq key q) refl }
    where
      absent : get eq m key ≡ None
      absent = is_none_of (get eq m key) unseen

      new : (q : K) → get eq n q ≡ cond (eq key q) (Some (length keys)) (get eq m q)
      new q = updated q ∙ ap (λ k. cond (eq key q) (Some k) (get eq m q)) counted

      by : (q : K) (b : Bool) → eq key q ≡ b → get eq n q ≡ position (eq q) (keys ++ key ∷ [])
      by q true e =
          let none : position (eq q) keys ≡ None = sym (same_place q e) ∙ sym (old.found key) ∙ absent in
          new q ∙ ap (λ b. cond b (Some (length keys)) (get eq m q)) e
          ∙ sym (position-push (eq q) keys key ∙ ap (λ o. option_or o (if eq q key then Some (length keys) else None)) none ∙ ap (λ b. if b then Some (length keys) else None) (laws.symm q key ∙ e))
      by q false e =
          new q ∙ ap (λ b. cond b (Some (length keys)) (get eq m q)) e ∙ old.found q
          ∙ sym (position-push (eq q) keys key ∙ ap (λ b. option_or (position (eq q) keys) (if b then Some (length keys) else None)) (laws.symm q key ∙ e) ∙ option_or-None (position (eq q) keys))

  -- a key that is there is found where it was
  pub first-again : is_some (get eq m key) ≡ true → IsFirst eq m (keys ++ key ∷ [])
  first-again there = record { found = λ q. by q (eq key q) refl }
    where
      kept : (o : Option ℕ) (d : Option ℕ) → is_some o ≡ true → option_or o d ≡ o
      kept None d h = absurd (true≢false (sym h))
      kept (Some n) d h = refl

      by : (q : K) (b : Bool) → eq key q ≡ b → get eq m q ≡ position (eq q) (keys ++ key ∷ [])
      by q true e =
          let here : is_some (position (eq q) keys) ≡ true = sym (ap is_some (old.found key ∙ same_place q e)) ∙ there in
          old.found q ∙ sym (position-push (eq q) keys key ∙ kept (position (eq q) keys) _ here)
      by q false e =
          old.found q ∙ sym (position-push (eq q) keys key ∙ ap (λ b. option_or (position (eq q) keys) (if b then Some (length keys) else None)) (laws.symm q key ∙ e) ∙ option_or-None (position (eq q) keys))

-- a key that has a place is there
pub is_some-position : {X : Type 0} (p : X → Bool) (xs : List X) → is_some (position p xs) ≡ list_any p xs
is_some-position p [] = refl
is_some-position p (x ∷ xs) = grind (arith, is_some-position p xs)

pub ruleset places = (is_some-position)
