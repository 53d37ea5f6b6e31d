use Rattle.std.proofs.Common.{inl, inr, rules}
use Rattle.java_exprs.proofs.FieldLemmas.{class_checks, output_checks, value_checks, value_refused, minus_refused, nothing_refused, print_refused, output_refused}
use Rattle.java_exprs.proofs.fields.field.Goals as goal

pub returns-then-o : goal.returns-then-o
returns-then-o c = minus_refused c.args.env.now c.args.scope.now c.args.o c.args.f.now c.fault.result c.if-o.true c.fault.ensures

pub returns-in-Class : goal.returns-in-Class
returns-in-Class c =
    class_checks c.args.env.now c.args.scope.now c.args.o c.in-Class.class c.args.f.now c.member_behind.result c.in-Class.is c.if-o.false c.member_behind.ensures

pub returns-in-System : goal.returns-in-System
returns-in-System c = output_checks c.args.env.now c.args.scope.now c.args.o c.args.f.now c.output.result c.in-System.is c.if-o.false c.output.ensures

pub returns-in-Output : goal.returns-in-Output
returns-in-Output c = output_refused c.args.env.now c.args.scope.now c.args.o c.args.f.now c.fault-in-Output.result c.in-Output.is c.fault-in-Output.ensures

pub returns-in-Nothing : goal.returns-in-Nothing
returns-in-Nothing c =
    elim c.in-Nothing.is [
      | inl nothing ↦ nothing_refused c.args.env.now c.args.scope.now c.args.o c.args.f.now c.fault-in-Nothing.result nothing c.fault-in-Nothing.ensures
      | inr print ↦ print_refused c.args.env.now c.args.scope.now c.args.o print.0 c.args.f.now c.fault-in-Nothing.result print.1 c.fault-in-Nothing.ensures
    ]

pub returns-in_ok-value-in-Value : goal.returns-in_ok-value-in-Value
returns-in_ok-value-in-Value c =
    value_checks c.args.env.now c.args.scope.now c.args.o c.in_ok-value-in-Value.field-0 c.args.f.now c.behind_value.result
    c.in_ok-value-in-Value.ensures.value c.behind_value.ensures

pub returns-in_err-value-in-Value : goal.returns-in_err-value-in-Value
returns-in_err-value-in-Value c =
    let h = value_refused c.args.env.now c.args.scope.now c.args.o c.in-Value.field-0 c.args.f.now c.in_err-value-in-Value.field-0.0 c.in-Value.is c.in_err-value-in-Value.ensures.fault in
    search rules
