use Rattle.std.proofs.Common.{◌∙◌, Some, ap, rules}
use Rattle.java_exprs.proofs.CallLemmas.{class_checks, print_checks}
use Rattle.java_exprs.proofs.calls.method.Goals as goal

pub returns-in-Class : goal.returns-in-Class
returns-in-Class c =
    class_checks c.args.env.now c.args.scope.now c.args.o c.in-Class.class c.args.m.now c.args.arguments c.behind_class.result
    (c.in_ok-class.ensures.qualifier ∙ ap Some c.in-Class.is) c.in_ok-class.ensures.minus c.behind_class.ensures

pub returns-in-Output : goal.returns-in-Output
returns-in-Output c =
    print_checks c.args.env.now c.args.scope.now c.args.o c.args.m.now c.args.arguments c.print.result
    (c.in_ok-class.ensures.qualifier ∙ ap Some c.in-Output.is) c.in_ok-class.ensures.minus c.print.ensures

pub returns-in-Value : goal.returns-in-Value
returns-in-Value c = c.behind_part.ensures

pub returns-in_err-class : goal.returns-in_err-class
returns-in_err-class c =
    let h = rw c.as_slice.ensures at c.in_err-class.ensures.fault in
    search rules
