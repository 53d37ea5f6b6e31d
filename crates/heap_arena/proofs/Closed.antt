-- Each reference is to an object that is there: each call keeps this.
use Rattle.std.proofs.Common.{◌≡◌, ℕ, ◌≤◌, ◌<◌, List, [], ◌∷◌, length, map, All, Option, Some, None, slice_get, pos, false, arith, refl, subst, sym}
use Rattle.std.specs.Prelude.{slice_set}
use Rattle.std.specs.Option.{option_map_or}
use Rattle.std.proofs.lemmas.List.{length-set, length-append}
use Rattle.std.proofs.lemmas.List.Elements.{All-set, All-append, All-cons, All-map, All-replicate, All-get_or, All-nil}
use Rattle.std.proofs.lemmas.Option.{slice_get_within, get_or_from_slice_get}
use Rattle.core_tree.specs.declared.ty.Ty.{Ty, out-Ty}
use Rattle.core_tree.specs.declared.ty.Ty.TheOpen.{Ty-F}
use Rattle.heap_arena.specs.declared.kind.Kind.{Kind}
use Rattle.heap_arena.specs.declared.kind.Kind.TheVariants.{Instance, Array}
use Rattle.heap_arena.specs.declared.object.Object.{Object}
use Rattle.heap_arena.specs.declared.cell.Cell.TheVariants as value
use Rattle.heap_arena.specs.Heap.{Heap, Value, with_cell, written, default_of, defaults, made, RefersWithin}
use Rattle.heap_arena.specs.Marks.{IsClosed}

-- a default is no reference
default_refers : (n : ℕ) (t : Ty) → RefersWithin n (default_of t)
default_refers n t p is = cases (out-Ty t) is
  where
    cases : (level : Ty-F Ty) → elim level [ Ty-F.Int ↦ value.Int (pos 0) | Ty-F.Bool ↦ value.Bool false | _ ↦ value.Null ] ≡ value.Ref p → p < n
    cases Ty-F.Int is = cc
    cases Ty-F.Bool is = cc
    cases Ty-F.Text is = cc
    cases (Ty-F.Class c) is = cc
    cases (Ty-F.Array e) is = cc
    cases Ty-F.Null is = cc
    cases Ty-F.Void is = cc

pub defaults_refer : (n : ℕ) (types : List (List Ty)) (kind : Kind) (count : ℕ) → All (RefersWithin n) (defaults types kind count)
defaults_refer n types (Instance c) count = cases (slice_get types c)
  where
    cases : (found : Option (List Ty)) → All (RefersWithin n) (option_map_or (map default_of) found [])
    cases None = All-nil (RefersWithin n)
    cases (Some ts) = All-map (RefersWithin n) default_of ts (λ k d lt. default_refers n _)
defaults_refer n types (Array t) count = All-replicate (RefersWithin n) count (default_of t) (default_refers n t)

-- a reference within the first n is within the first k, where k is no less
refers_further : (n k : ℕ) (v : Value) → n ≤ k → RefersWithin n v → RefersWithin k v
refers_further n k v le within p is = let lt : p < n = within p is in omega arith

pub closed_made : (h : Heap) (types : List (List Ty)) (kind : Kind) (count : ℕ) → IsClosed h → IsClosed (made types h kind count)
closed_made h types kind count closed =
    let n = length (made types h kind count) in
    let le : length h ≤ n = omega (arith, length-append h (record { kind = kind; cells = defaults types kind count } ∷ [])) in
    All-append (λ object. All (RefersWithin n) object.cells) h (record { kind = kind; cells = defaults types kind count } ∷ [])
    (λ k o lt i v within. refers_further (length h) n _ le (closed k o lt i v within))
    (All-cons (λ object. All (RefersWithin n) object.cells) (record { kind = kind; cells = defaults types kind count }) []
    (defaults_refer n types kind count) (All-nil (λ object. All (RefersWithin n) object.cells)))

pub closed_written : (h : Heap) (p at : ℕ) (v : Value) → RefersWithin (length h) v → IsClosed h → IsClosed (written h p at v)
closed_written h p at v within closed = cases (slice_get h p) refl
  where
    cases : (found : Option (Object ℕ)) → slice_get h p ≡ found → IsClosed (option_map_or (λ object. slice_set h p (with_cell object at v)) found h)
    cases None is = closed
    cases (Some o) is =
        let same : length (slice_set h p (with_cell o at v)) ≡ length h = length-set h p (with_cell o at v) in
        subst (λ n. All (λ object. All (RefersWithin n) object.cells) (slice_set h p (with_cell o at v))) (sym same)
        (All-set (λ object. All (RefersWithin (length h)) object.cells) h p (with_cell o at v)
        (All-set (RefersWithin (length h)) o.cells at v within
        (subst (λ object. All (RefersWithin (length h)) object.cells) (get_or_from_slice_get h p o o is)
        (All-get_or (λ object. All (RefersWithin (length h)) object.cells) h p o (slice_get_within h p o is) closed)))
        closed)
