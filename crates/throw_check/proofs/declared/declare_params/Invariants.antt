use Rattle.std.proofs.Common.{◌≡◌, drop}
use Rattle.throw_check.specs.Files.{with_params}
use Rattle.throw_check.proofs.declared.declare_params.Given as goal

abbrev pub invariant-loop-param : goal.invariant-loop-param
invariant-loop-param l = with_params l.symbols l.params l.fn.scope ≡ with_params l.symbols (drop l.param-index l.params) l.scope
