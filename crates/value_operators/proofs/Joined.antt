-- Two texts that are short enough together make one text.
use Rattle.std.proofs.Common.{◌≡◌, ◌≤◌, ℕ, List, ◌++◌, Some, subst, rules}
use Rattle.core_tree.specs.Text.{code_units}
use Rattle.heap_arena.specs.declared.cell.Cell.TheVariants as value
use Rattle.heap_arena.specs.Heap.{Value}
use Rattle.evaluation.specs.declared.computed.Computed.{Computed}
use Rattle.evaluation.specs.declared.computed.Computed.TheVariants as computed
use Rattle.evaluation.specs.Values.{concatenated, joined, most_units, shown, text}

-- a text
abbrev pub IsText : Computed → Type 0
IsText it = (t : List ℕ) × (it ≡ computed.Gives (value.Text t))

short : (t : List ℕ) → code_units t ≤ most_units → text t ≡ computed.Gives (value.Text t)
short t few = search rules

pub joined_text : (a b : Value) (s t : List ℕ) → Some s ≡ shown a → Some t ≡ shown b → code_units (s ++ t) ≤ most_units → IsText (concatenated a b)
joined_text a b s t first second few =
    subst (λ x. IsText (joined x (shown b))) first (subst (λ y. IsText (joined (Some s) y)) second (s ++ t, short (s ++ t) few))
