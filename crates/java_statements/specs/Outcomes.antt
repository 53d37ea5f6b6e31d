-- What a check of a statement answers.
use Rattle.std.specs.Prelude.{◌≡◌, Result, Ok, Err, []}
use Rattle.core_tree.specs.declared.stmt.Stmt.{Stmt as Step}
use Rattle.token_reading.specs.declared.fault.CheckError.{CheckError}
use Rattle.java_names.specs.declared.scope.Scope.{Scope}
use Rattle.java_names.specs.Refusals.{Refuses}
use Rattle.java_statements.specs.Effects.{Effect}

-- without an error the statement breaks no rule, and this is the scope after it and what it resolves to
abbrev pub Gives : Effect → Scope → Result Step CheckError → Type 0
Gives effect after (Ok step) = effect ≡ record { after = after; step = step; faults = [] }
Gives effect after (Err e) = Refuses effect.faults e
