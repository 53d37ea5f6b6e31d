-- What selectors pick, completed by more.
use Rattle.std.proofs.Common.{◌≡◌, ◌<◌, ◌≤◌, ◌==◌, ℕ, ◌+◌, zero, suc, Bool, true, false, true≢false, drop, drop-cons, add-one, is_some, nat_eq, List, [], ◌∷◌, map, replicate, length, slice_set, get_or, Option, None, Some, refl, sym, ap, subst, ◌∙◌, if◌then◌else◌, option_and_then, arith}
use Rattle.std.specs.List.{range_with_len}
use Rattle.std.specs.Option.{option_or}
use Rattle.std.proofs.lemmas.List.{drop_all, ext_get_or, get_or-set_other, length-set}
use Rattle.std.proofs.lemmas.Grind.{get_or-set_at}
use Rattle.java_names.specs.Chosen.{completed, is_free, only, picked, first_picked, methods_at, chosen_method, chosen_of}
use Rattle.java_names.specs.Lookups.{nearest, line_of}
use Rattle.java_names.specs.declared.symbol.Symbols.{Symbols}
use Rattle.java_names.specs.declared.symbol.MethodSymbol.{MethodSymbol}

pub option_or-assoc : {X : Type 0} (a b c : Option X) → option_or (option_or a b) c ≡ option_or a (option_or b c)
option_or-assoc None b c = refl
option_or-assoc (Some x) b c = refl

pub option_or-none : {X : Type 0} (a : Option X) → option_or a None ≡ a
option_or-none None = refl
option_or-none (Some x) = refl

pub length-completed : (n : ℕ) (xs : List (Option ℕ)) (more : ℕ → Option ℕ) → length (completed n xs more) ≡ length xs
length-completed n [] more = refl
length-completed n (x ∷ xs) more = ap suc (length-completed (n + 1) xs more)

-- completing twice
pub completed-completed : (n : ℕ) (xs : List (Option ℕ)) (f g : ℕ → Option ℕ)
    → completed n (completed n xs f) g ≡ completed n xs (λ k. option_or (f k) (g k))
completed-completed n [] f g = refl
completed-completed n (x ∷ xs) f g = λ j. option_or-assoc x (f n) (g n) j ∷ completed-completed (n + 1) xs f g j

-- completing by nothing
pub completed-nothing : (n : ℕ) (xs : List (Option ℕ)) (f : ℕ → Option ℕ) → ((k : ℕ) → f k ≡ None) → completed n xs f ≡ xs
completed-nothing n [] f nothing = refl
completed-nothing n (x ∷ xs) f nothing = λ j. (ap (option_or x) (nothing n) ∙ option_or-none x) j ∷ completed-nothing (n + 1) xs f nothing j

-- completing what picks nothing
pub completed-replicate : (n count : ℕ) (f : ℕ → Option ℕ) → completed n (replicate count None) f ≡ map f (range_with_len n count)
completed-replicate n zero f = refl
completed-replicate n (suc count) f = ap (λ rest. f n ∷ rest) (completed-replicate (n + 1) count f)

-- the k-th of what is completed
pub get_or-completed : (n : ℕ) (xs : List (Option ℕ)) (f : ℕ → Option ℕ) (i : ℕ) → i < length xs
    → get_or (completed n xs f) i None ≡ option_or (get_or xs i None) (f (n + i))
get_or-completed n [] f i within = absurd (omega (arith, within))
get_or-completed n (x ∷ xs) f zero within = ap (λ k. option_or x (f k)) (omega arith)
get_or-completed n (x ∷ xs) f (suc i) within = get_or-completed (n + 1) xs f i (omega (arith, within)) ∙ ap (λ k. option_or (get_or xs i None) (f k)) (omega arith)

-- a selector that picks nothing yet is one of them
free_at : (xs : List (Option ℕ)) (s : ℕ) → is_free xs s ≡ true → (s < length xs) × (get_or xs s None ≡ None)
free_at [] s h = absurd (true≢false (sym h))
free_at (None ∷ xs) zero h = (omega arith, refl)
free_at (Some x ∷ xs) zero h = absurd (true≢false (sym h))
free_at (x ∷ xs) (suc s) h = let rest = free_at xs s h in (omega (arith, rest.0), rest.1)

taken_at : (xs : List (Option ℕ)) (s : ℕ) → is_free xs s ≡ false → s < length xs → is_some (get_or xs s None) ≡ true
taken_at [] s h within = absurd (omega (arith, within))
taken_at (None ∷ xs) zero h within = absurd (true≢false h)
taken_at (Some x ∷ xs) zero h within = refl
taken_at (x ∷ xs) (suc s) h within = taken_at xs s h (omega (arith, within))

-- a selector that picks nothing yet picks the method
pub set_free : (xs : List (Option ℕ)) (s m : ℕ) → is_free xs s ≡ true → slice_set xs s (Some m) ≡ completed 0 xs (only s m)
set_free xs s m free =
    ext_get_or None _ _ (length-set xs s (Some m) ∙ sym (length-completed 0 xs (only s m))) (λ i within. by i (subst (λ n. i < n) (length-set xs s (Some m)) within))
  where
    by : (i : ℕ) → i < length xs → get_or (slice_set xs s (Some m)) i None ≡ get_or (completed 0 xs (only s m)) i None
    by i within = let here = free_at xs s free in
        grind (arith, here.0, here.1, get_or-completed 0 xs (only s m) i within, get_or-set_at xs s i (Some m) None, get_or-set_other xs s i (Some m) None)

-- one that picks another stays
pub kept_taken : (xs : List (Option ℕ)) (s m : ℕ) → is_free xs s ≡ false → completed 0 xs (only s m) ≡ xs
kept_taken xs s m taken =
    ext_get_or None _ _ (length-completed 0 xs (only s m)) (λ i within. by i (subst (λ n. i < n) (length-completed 0 xs (only s m)) within))
  where
    kept : (o : Option ℕ) (more : Option ℕ) → is_some o ≡ true → option_or o more ≡ o
    kept None more h = absurd (true≢false (sym h))
    kept (Some x) more h = refl

    by : (i : ℕ) → i < length xs → get_or (completed 0 xs (only s m)) i None ≡ get_or xs i None
    by i within = get_or-completed 0 xs (only s m) i within ∙ ap (λ k. option_or (get_or xs i None) (only s m k)) (omega arith) ∙ choose (nat_eq s i) refl
      where
        choose : (b : Bool) → nat_eq s i ≡ b → option_or (get_or xs i None) (only s m i) ≡ get_or xs i None
        choose true e = let same : s ≡ i = grind (arith, e) in
            kept (get_or xs i None) (only s m i) (ap (λ k. is_some (get_or xs k None)) (sym same) ∙ taken_at xs s taken (omega (arith, within, same)))
        choose false e = ap (λ b. option_or (get_or xs i None) (if b then Some m else None)) e ∙ option_or-none (get_or xs i None)

pub ruleset picks = (set_free, kept_taken)

-- a method without a selector or a number is picked by none
picked_without_number : (m : MethodSymbol) (k : ℕ) → m.number ≡ None → picked k m ≡ None
picked_without_number m k none = ap (λ number. option_and_then (λ s. if s == k then number else None) m.selector) none ∙ both m.selector
  where
    nothing : Option ℕ
    nothing = None

    neither : (b : Bool) → (if b then nothing else None) ≡ None
    neither true = refl
    neither false = refl

    both : (o : Option ℕ) → option_and_then (λ s. if s == k then nothing else None) o ≡ None
    both None = refl
    both (Some s) = neither (s == k)

pub none_without_number : (m : MethodSymbol) (xs : List (Option ℕ)) → m.number ≡ None → completed 0 xs (λ k. picked k m) ≡ xs
none_without_number m xs none = completed-nothing 0 xs (λ k. picked k m) (λ k. picked_without_number m k none)

pub none_without_selector : (m : MethodSymbol) (xs : List (Option ℕ)) → m.selector ≡ None → completed 0 xs (λ k. picked k m) ≡ xs
none_without_selector m xs none =
    completed-nothing 0 xs (λ k. picked k m) (λ k. ap (λ selector. option_and_then (λ s. if s == k then m.number else None) selector) none)

pub only_selected : (m : MethodSymbol) (xs : List (Option ℕ)) (s n : ℕ) → m.selector ≡ Some s → m.number ≡ Some n → completed 0 xs (only s n) ≡ completed 0 xs (λ k. picked k m)
only_selected m xs s n selector number = λ j. completed 0 xs (λ k. option_and_then (λ t. if t == k then sym number j else None) (sym selector j))

pub ruleset nothing_picked = (none_without_number, none_without_selector, only_selected)

drop_item : {X : Type 0} (xs : List X) (i : ℕ) (x : X) → i < length xs → x ≡ get_or xs i x → drop i xs ≡ x ∷ drop (i + 1) xs
drop_item xs i x within is = drop-cons xs i x within ∙ ap (λ y. y ∷ drop (suc i) xs) (sym is) ∙ ap (λ n. x ∷ drop n xs) (sym (add-one i))

-- methods, one after another
pub method_more : (ms : List MethodSymbol) (i : ℕ) (m : MethodSymbol) (xs all : List (Option ℕ)) → i < length ms → m ≡ get_or ms i m
    → completed 0 xs (λ k. first_picked k (drop i ms)) ≡ all → completed 0 (completed 0 xs (λ k. picked k m)) (λ k. first_picked k (drop (i + 1) ms)) ≡ all
method_more ms i m xs all within is so_far =
    completed-completed 0 xs (λ k. picked k m) (λ k. first_picked k (drop (i + 1) ms))
    ∙ sym (ap (λ rest. completed 0 xs (λ k. first_picked k rest)) (drop_item ms i m within is)) ∙ so_far

pub methods_done : (ms : List MethodSymbol) (i : ℕ) (xs all : List (Option ℕ)) → length ms ≤ i
    → completed 0 xs (λ k. first_picked k (drop i ms)) ≡ all → xs ≡ all
methods_done ms i xs all end so_far =
    sym (completed-nothing 0 xs (λ k. first_picked k (drop i ms)) (λ k. ap (first_picked k) (drop_all i ms end))) ∙ so_far

-- classes, one after another
pub class_more : (s : Symbols) (line : List ℕ) (i : ℕ) (xs all : List (Option ℕ)) → i < length line
    → completed 0 xs (λ k. nearest (λ c. first_picked k (methods_at s c)) (drop i line)) ≡ all
    → completed 0 (completed 0 xs (λ k. first_picked k (methods_at s (get_or line i 0)))) (λ k. nearest (λ c. first_picked k (methods_at s c)) (drop (i + 1) line)) ≡ all
class_more s line i xs all within so_far =
    completed-completed 0 xs (λ k. first_picked k (methods_at s (get_or line i 0))) (λ k. nearest (λ c. first_picked k (methods_at s c)) (drop (i + 1) line))
    ∙ sym (ap (λ rest. completed 0 xs (λ k. nearest (λ c. first_picked k (methods_at s c)) rest)) dropped) ∙ so_far
  where
    dropped : drop i line ≡ get_or line i 0 ∷ drop (i + 1) line
    dropped = drop-cons line i 0 within ∙ ap (λ n. get_or line i 0 ∷ drop n line) (sym (add-one i))

pub classes_done : (s : Symbols) (line : List ℕ) (i : ℕ) (xs all : List (Option ℕ)) → length line ≤ i
    → completed 0 xs (λ k. nearest (λ c. first_picked k (methods_at s c)) (drop i line)) ≡ all → xs ≡ all
classes_done s line i xs all end so_far =
    sym (completed-nothing 0 xs (λ k. nearest (λ c. first_picked k (methods_at s c)) (drop i line)) (λ k. ap (nearest (λ c. first_picked k (methods_at s c))) (drop_all i line end))) ∙ so_far

-- where nothing is picked yet
pub chosen_at_first : (s : Symbols) (c : ℕ) → completed 0 (replicate (length s.selectors) None) (λ k. nearest (λ d. first_picked k (methods_at s d)) (line_of s c)) ≡ chosen_of s c
chosen_at_first s c = completed-replicate 0 (length s.selectors) (chosen_method s c)
