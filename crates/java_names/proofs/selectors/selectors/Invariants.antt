use Rattle.std.proofs.Common.{◌≡◌, [], ◌∷◌, drop, fold, flat_map}
use Rattle.java_names.specs.Selectors.{with_selector, message_selector}
use Rattle.java_names.proofs.selectors.selectors.Given as goal

abbrev pub invariant-loop-row : goal.invariant-loop-row
invariant-loop-row l = fold with_selector (message_selector ∷ []) (flat_map (λ row. row.methods) l.rows) ≡ fold with_selector l.selectors (flat_map (λ row. row.methods) (drop l.row-index l.rows))
