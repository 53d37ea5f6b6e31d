use Rattle.std.proofs.Common.{◌≡◌, drop}
use Rattle.java_members.specs.Declarations.{with_params, params_10}
use Rattle.java_members.proofs.parameters.declare_params.Given as goal

abbrev pub invariant-loop-param : goal.invariant-loop-param
invariant-loop-param l = record {
  scope : with_params l.env l.params l.initial.scope ≡ with_params l.env (drop l.param-index l.params) l.scope;
  places : params_10 l.env l.params l.initial.scope ≡ params_10 l.env (drop l.param-index l.params) l.scope;
}
