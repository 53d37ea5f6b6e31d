-- Lemmas on what holds of the elements of a list.
use Rattle.std.proofs.Common.{◌≡◌, ◌+◌, ◌<◌, ◌≤◌, ◌⊎◌, ℕ, List, length, Some, None, arith, sym, ◌∙◌, subst, refl, ap, inl, inr, Bool, true, false, not, ◌||◌, [], ◌∷◌, map, take, ◌++◌, get_or, Result, Ok, Err, OnOk, IfErr}
use Rattle.std.specs.List.{slice_get, list_any}
use Rattle.std.proofs.lemmas.List.{take_more}
use borrow.Author.Count.{below_more}
use Rattle.std.proofs.lemmas.Option.{slice_get_cases, slice_get_within, slice_get_read, get_or_from_slice_get}
use Rattle.token_reading.specs.declared.fault.Fault.{Fault}
use Rattle.token_reading.specs.declared.fault.CheckError.{CheckError}
use Rattle.token_reading.specs.declared.fault.CheckError.TheVariants as error
use Rattle.class_table.specs.Faults.{Blames, Clear, InSome}

-- P holds of none of the first n elements
pub record ClearBelow {A B : Type 0} (xs : List A) (P : ℕ → A → B → Type 0) (n : ℕ) : Type 0 where
  pub none : (k : ℕ) (x : A) → k < n → slice_get xs k ≡ Some x → (b : B) → ¬ P k x b

pub clear_none : {A B : Type 0} (xs : List A) (P : ℕ → A → B → Type 0) → ClearBelow xs P 0
clear_none xs P = record { none = λ k x below found b holds. absurd (omega arith) }

pub clear_more : {A B : Type 0} (xs : List A) (P : ℕ → A → B → Type 0) (n : ℕ) (x : A) → ClearBelow xs P n → slice_get xs n ≡ Some x → ((b : B) → ¬ P n x b) → ClearBelow xs P (n + 1)
clear_more {A} {B} xs P n x before found here =
    let same : (v w : A) → slice_get xs n ≡ Some v → slice_get xs n ≡ Some w → v ≡ w = λ v w p q. cc in
    let Bad : ℕ → Type 0 = λ k. (y : A) → slice_get xs k ≡ Some y → (b : B) → ¬ P k y b in
    let below : (k : ℕ) → k < n → Bad k = λ k lt y is. before.none k y lt is in
    let now : Bad n = λ y is. subst (λ (z : A). (b : B) → ¬ P n z b) (same x y found is) here in
    record { none = λ k y lt is. below_more Bad n below now k lt y is }

pub clear_all : {A B : Type 0} (xs : List A) (P : ℕ → A → B → Type 0) → ClearBelow xs P (length xs) → (b : B) → ¬ InSome xs P b
clear_all xs P below b some = below.none some.number some.element (slice_get_within xs some.number some.element some.found) some.found b some.holds

-- ---- the same at the places of a loop

-- what a loop is at stands in the list
pub item : {A : Type 0} (xs : List A) (n : ℕ) (x : A) → n < length xs → x ≡ get_or xs n x → slice_get xs n ≡ Some x
item xs n x within is = slice_get_read xs (length xs) n x refl within is

pub clear_step : {A : Type 0} (xs : List A) (P : ℕ → A → Fault → Type 0) (n : ℕ) (x : A) → ClearBelow xs P n → n < length xs → x ≡ get_or xs n x → Clear (P n x) → ClearBelow xs P (n + 1)
clear_step xs P n x before within is here = clear_more xs P n x before (item xs n x within is) here.none

pub clear_end : {A : Type 0} (xs : List A) (P : ℕ → A → Fault → Type 0) (n : ℕ) → length xs ≤ n → ClearBelow xs P n → Clear (InSome xs P)
clear_end xs P n past below = record { none = λ f some. let within : some.number < length xs = slice_get_within xs some.number some.element some.found in below.none some.number some.element (omega arith) some.found f some.holds }

pub blames_at : {A : Type 0} (xs : List A) (P : ℕ → A → Fault → Type 0) (n : ℕ) (x : A) (e : CheckError) → n < length xs → x ≡ get_or xs n x → Blames (P n x) e → Blames (InSome xs P) e
blames_at xs P n x error.OutOfMemory within is h = tt
blames_at xs P n x (error.Fault f) within is h = record { number = n; element = x; found = item xs n x within is; holds = h }

pub clear_either : (P Q : Fault → Type 0) → Clear P → Clear Q → Clear (λ f. P f ⊎ Q f)
clear_either P Q p q = record { none = λ f h. elim h [ inl left ↦ p.none f left | inr right ↦ q.none f right ] }

pub ruleset loops = (clear_none, clear_step, clear_end, blames_at)

-- ---- lists and tests

pub any_map : {A B : Type 0} (p : B → Bool) (f : A → B) (xs : List A) → list_any p (map f xs) ≡ list_any (λ x. p (f x)) xs
any_map p f [] = refl
any_map p f (x ∷ xs) = ap (λ b. p (f x) || b) (any_map p f xs)

none_some : {A : Type 0} (x : A) → None ≡ Some x → ⊥
none_some x e = cc

pub not_absent : {A : Type 0} (xs : List A) (i : ℕ) → i < length xs → slice_get xs i ≡ None → ⊥
not_absent xs i within none =
    let cases = slice_get_cases xs i in
    elim cases.1 [ inl some ↦ (let found : slice_get xs i ≡ Some some.0 = some.2 in let e : None ≡ Some some.0 = sym none ∙ found in none_some some.0 e) | inr past ↦ absurd (let low : length xs ≤ i = past.0 in omega arith) ]

-- the first n + 1 elements end in element n
pub take_found : {A : Type 0} (xs : List A) (n : ℕ) (x : A) → slice_get xs n ≡ Some x → take (n + 1) xs ≡ take n xs ++ x ∷ []
take_found xs n x found =
    let within : n < length xs = slice_get_within xs n x found in
    let read : get_or xs n x ≡ x = get_or_from_slice_get xs n x x found in
    take_more xs n x within ∙ ap (λ y. take n xs ++ y ∷ []) read

pub differ : (b : Bool) → b ≡ false → b ≡ true → ⊥
differ b is_false is_true = cc

pub not_false : (b : Bool) → not b ≡ false → b ≡ true
not_false true e = refl
not_false false e = sym e

pub or_left : (a b : Bool) → (a || b) ≡ false → a ≡ false
or_left true b e = e
or_left false b e = refl

pub or_right : (a b : Bool) → (a || b) ≡ false → b ≡ false
or_right true b e = absurd (let no : true ≡ false → ⊥ = λ e. cc in no e)
or_right false b e = e

-- what follows from what is said of an Ok
pub on_ok : {A E : Type 0} (r : Result A E) (P Q : Type 0) → OnOk r P → (P → Q) → OnOk r Q
on_ok (Ok v) P Q h more = more h
on_ok (Err e) P Q h more = h

-- what follows from what is said of an Err
pub if_err : {A E : Type 0} (r : Result A E) (P Q : E → Type 0) → IfErr r P → ((e : E) → P e → Q e) → IfErr r Q
if_err (Ok v) P Q h more = h
if_err (Err e) P Q h more = more e h
