use Rattle.std.proofs.Common.{◌≡◌, [], ◌++◌, drop, flat_map, unwrap_or, slice_get}
use Rattle.java_members.specs.Files.{fields_along}
use Rattle.java_members.proofs.classes.fields_of.Given as goal

abbrev pub invariant-loop-above : goal.invariant-loop-above
invariant-loop-above l =
    fields_along l.declared l.symbols l.class ≡ l.fields ++ flat_map (λ d. unwrap_or (slice_get l.declared d) []) (drop l.above-index l.above-items)
