use Rattle.std.proofs.Common.{rules}
use Rattle.core_tree.specs.declared.expr.Expr.TheVariants as core
use Rattle.java_exprs.specs.Calls.{calling_of}
use Rattle.java_exprs.proofs.CallLemmas.{refuses_11, refuses_13, refuses_14}
use Rattle.java_exprs.proofs.callee.callee.Goals as goal

pub returns-in_err-check_types-clause-fault : goal.returns-in_err-check_types-clause-fault
returns-in_err-check_types-clause-fault c =
    let h = refuses_11 c.args.env.now c.args.scope.now (calling_of c.args.receiver core.This c.args.m.now c.args.arguments.now) _ _ c.in_ok-found.ensures.found c.in_err-check_types.ensures in
    search rules

pub returns-in_err-check_access-clause-fault : goal.returns-in_err-check_access-clause-fault
returns-in_err-check_access-clause-fault c =
    let h = refuses_13 c.args.env.now c.args.scope.now (calling_of c.args.receiver core.This c.args.m.now c.args.arguments.now) _ _ c.in_ok-found.ensures.found c.in_err-check_access.ensures in
    search rules

pub returns-in_err-check_this-clause-fault : goal.returns-in_err-check_this-clause-fault
returns-in_err-check_this-clause-fault c =
    let h = refuses_14 c.args.env.now c.args.scope.now (calling_of c.args.receiver core.This c.args.m.now c.args.arguments.now) _ _ c.in_ok-found.ensures.found c.in_err-check_this.ensures in
    search rules
