-- The array of the arguments while they are put into it.
use Rattle.std.proofs.Common.{◌≡◌, ◌<◌, ◌≤◌, nat_le, IsTrue, subst, ℕ, zero, suc, true, List, [], ◌∷◌, length, map, replicate, Some, refl, sym, ap, ◌∙◌, arith, slice_get, slice_set}
use Rattle.std.proofs.lemmas.Bool.{leb-true}
use Rattle.std.specs.Cmp.{first_so, second_so}
use Rattle.core_tree.specs.Text.{code_units}
use Rattle.core_tree.specs.declared.ty.Ty.{Ty}
use Rattle.core_tree.specs.declared.ty.Ty as shape
use Rattle.core_tree.specs.declared.ty.Ty.TheVariants as ty
use Rattle.heap_arena.specs.declared.cell.Cell.TheVariants as value
use Rattle.heap_arena.specs.declared.kind.Kind.TheVariants as kind
use Rattle.heap_arena.specs.Heap.{Heap, Value, default_of, made, written}
use Rattle.evaluation.specs.Values.{most_units}
use Rattle.evaluation.specs.Objects.{has_cell}
use Rattle.evaluation.specs.Run.{arguments_heap, has_short_arguments}
use Rattle.interpreter.proofs.Leaves.{inj}

-- the first k cells have their texts, and the others have null
pub cells : List (List ℕ) → ℕ → List Value
cells [] k = []
cells (t ∷ ts) zero = value.Null ∷ cells ts zero
cells (t ∷ ts) (suc k) = value.Text t ∷ cells ts k

abbrev pub filled : List (List ℕ) → ℕ → Heap
filled texts k = record { kind = kind.Array ty.Text; cells = cells texts k } ∷ []

none_yet : (texts : List (List ℕ)) → replicate (length texts) value.Null ≡ cells texts 0
unfolding cells
none_yet [] = refl
none_yet (t ∷ ts) = ap (λ vs. value.Null ∷ vs) (none_yet ts)

text_null : default_of ty.Text ≡ value.Null
unfolding shape.out-Ty denote.Hole.Carrier.out
text_null = refl

pub begins : (fields : List (List Ty)) (texts : List (List ℕ))
    → made fields [] (kind.Array ty.Text) (length texts) ≡ filled texts 0
begins fields texts = ap (λ (vs : List Value). record { kind = kind.Array ty.Text; cells = vs } ∷ []) (ap (replicate (length texts)) text_null ∙ none_yet texts)

all_there : (texts : List (List ℕ)) → cells texts (length texts) ≡ map value.Text texts
unfolding cells
all_there [] = refl
all_there (t ∷ ts) = ap (λ vs. value.Text t ∷ vs) (all_there ts)

pub ends : (texts : List (List ℕ)) → filled texts (length texts) ≡ arguments_heap texts
ends texts = ap (λ (vs : List Value). record { kind = kind.Array ty.Text; cells = vs } ∷ []) (all_there texts)

next_null : (texts : List (List ℕ)) (k : ℕ) → k < length texts → slice_get (cells texts k) k ≡ Some value.Null
unfolding cells
next_null [] k lt = absurd (omega arith)
next_null (t ∷ ts) zero lt = refl
next_null (t ∷ ts) (suc k) lt = next_null ts k (omega arith)

pub has_next : (texts : List (List ℕ)) (k : ℕ) → k < length texts → has_cell (filled texts k) 0 k ≡ true
has_next texts k lt = rw (next_null texts k lt) refl

put : (texts : List (List ℕ)) (k : ℕ) (t : List ℕ) → slice_get texts k ≡ Some t
    → slice_set (cells texts k) k (value.Text t) ≡ cells texts (suc k)
unfolding cells
put [] k t is = cc
put (x ∷ xs) zero t is = ap (λ text. value.Text text ∷ cells xs zero) (sym (inj x t is))
put (x ∷ xs) (suc k) t is = ap (λ vs. value.Text x ∷ vs) (put xs k t is)

pub further : (texts : List (List ℕ)) (k : ℕ) (t : List ℕ) → slice_get texts k ≡ Some t
    → written (filled texts k) 0 k (value.Text t) ≡ filled texts (suc k)
further texts k t is = ap (λ (vs : List Value). record { kind = kind.Array ty.Text; cells = vs } ∷ []) (put texts k t is)

-- each of the arguments is short
pub short_at : (texts : List (List ℕ)) (k : ℕ) (t : List ℕ) → IsTrue (has_short_arguments texts)
    → slice_get texts k ≡ Some t → code_units t ≤ most_units
short_at [] k t short is = cc
short_at (x ∷ xs) zero t short is = subst (λ text. code_units text ≤ most_units) (inj x t is) (leb-true (code_units x) most_units (first_so (nat_le (code_units x) most_units) (has_short_arguments xs) short))
short_at (x ∷ xs) (suc k) t short is = short_at xs k t (second_so (nat_le (code_units x) most_units) (has_short_arguments xs) short) is
