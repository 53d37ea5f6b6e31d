-- Lemmas on new objects.
use Rattle.std.proofs.Common.{◌≡◌, ℕ, List, length, ap}
use Rattle.java_exprs.specs.declared.environment.Environment.{Environment}
use Rattle.java_exprs.specs.declared.value.Value.{Value}
use Rattle.java_exprs.specs.Checks.{of_values}
use Rattle.java_exprs.specs.Lookups.{maker_of}
use Rattle.java_exprs.proofs.RulesLemmas.{length_values}

pub made_with : (env : Environment) (class : ℕ) (vs : List Value) → maker_of env class (length (of_values vs)) ≡ maker_of env class (length vs)
made_with env class vs = ap (maker_of env class) (length_values vs)
