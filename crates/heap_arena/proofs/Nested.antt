-- Each mark begins the next newer one, and the newest begins the heap of now: each call keeps this.
use Rattle.std.proofs.Common.{◌≡◌, ◌∙◌, ℕ, zero, suc, ◌≤◌, List, [], ◌∷◌, ◌++◌, length, map, take, Option, Some, None, slice_get, arith, refl, ap, sym, subst}
use Rattle.std.specs.Prelude.{slice_set}
use Rattle.std.specs.Option.{option_map_or}
use Rattle.std.proofs.Math.Seq.{take-length, map-set_same}
use Rattle.std.proofs.lemmas.List.{length-set, length-map, length-take, map-append, take-append-le}
use Rattle.std.proofs.lemmas.Option.{get_or_from_slice_get}
use Rattle.heap_arena.specs.declared.object.Object.{Object}
use Rattle.heap_arena.specs.Heap.{Heap, Value, with_cell, written}
use Rattle.heap_arena.specs.Marks.{shape_of, Begins, AreNested}

take_take : {X : Type 0} (i j : ℕ) (xs : List X) → i ≤ j → take i (take j xs) ≡ take i xs
take_take zero j xs le = refl
take_take (suc i) zero xs le = absurd (omega arith)
take_take (suc i) (suc j) [] le = refl
take_take (suc i) (suc j) (x ∷ xs) le = ap (λ rest. x ∷ rest) (take_take i j xs (omega arith))

-- a heap begins itself
pub begins_itself : (h : Heap) → Begins h h
begins_itself h = sym (ap (λ n. take n (map shape_of h)) (sym (length-map h shape_of)) ∙ take-length (map shape_of h))

-- a heap that begins another has no more objects
begins_le : (m h : Heap) → Begins m h → length m ≤ length h
begins_le m h begins = omega (arith, length-map m shape_of, length-map h shape_of, ap length begins, length-take (length m) (map shape_of h))

pub begins_on : (a b c : Heap) → Begins a b → Begins b c → Begins a c
begins_on a b c ab bc = ab ∙ (ap (take (length a)) bc ∙ take_take (length a) (length b) (map shape_of c) (begins_le a b ab))

-- writing leaves the kinds and the numbers of cells
pub shapes_of_written : (h : Heap) (p at : ℕ) (v : Value) → map shape_of (written h p at v) ≡ map shape_of h
shapes_of_written h p at v = cases (slice_get h p) refl
  where
    cases : (found : Option (Object ℕ)) → slice_get h p ≡ found → map shape_of (option_map_or (λ object. slice_set h p (with_cell object at v)) found h) ≡ map shape_of h
    cases None is = refl
    cases (Some o) is = map-set_same shape_of h p (with_cell o at v) o
        (ap (λ n. record { kind = o.kind; cells = n }) (length-set o.cells at v) ∙ sym (ap shape_of (get_or_from_slice_get h p o o is)))

pub begins_written : (h : Heap) (p at : ℕ) (v : Value) → Begins h (written h p at v)
begins_written h p at v = begins_itself h ∙ ap (take (length h)) (sym (shapes_of_written h p at v))

-- a heap begins the one with a new object after the others
pub begins_made : (h : Heap) (o : Object ℕ) → Begins h (h ++ o ∷ [])
begins_made h o =
    begins_itself h ∙ (sym (take-append-le (length h) (map shape_of h) (map shape_of (o ∷ [])) (omega (arith, length-map h shape_of)))
    ∙ ap (take (length h)) (sym (map-append shape_of h (o ∷ []))))

-- the heap of now gives way to one that it begins
pub nested_step : (h next : Heap) (marks : List Heap) → Begins h next → AreNested h marks → AreNested next marks
nested_step h next marks begins nested zero m now is_mark is_now =
    let same : next ≡ now = cc in subst (λ x. Begins m x) same (begins_on m h next (nested zero m h is_mark refl) begins)
nested_step h next marks begins nested (suc k) m now is_mark is_now = nested (suc k) m now is_mark is_now

-- the heap of now is marked
pub nested_marked : (h : Heap) (marks : List Heap) → AreNested h marks → AreNested h (h ∷ marks)
nested_marked h marks nested zero m now is_mark is_now =
    let same : h ≡ m = cc in let same_now : h ≡ now = cc in
    subst (λ x. Begins m x) same_now (subst (λ x. Begins x h) same (begins_itself h))
nested_marked h marks nested (suc k) m now is_mark is_now = nested k m now is_mark is_now

-- the newest mark takes the place of the heap of now
pub nested_undone : (h m : Heap) (marks : List Heap) → AreNested h (m ∷ marks) → AreNested m marks
nested_undone h m marks nested k older newer is_older is_newer = nested (suc k) older newer is_older is_newer
