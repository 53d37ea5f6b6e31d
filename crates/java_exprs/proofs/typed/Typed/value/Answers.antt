use Rattle.java_exprs.proofs.ValueLemmas.{name_refused, nothing_refused, number_refused, value_is}
use Rattle.java_exprs.proofs.typed.Typed.value.Goals as goal

pub returns-in-Class : goal.returns-in-Class
returns-in-Class c = record { value = tt; fault = name_refused c.args.self c.fault-in-Class.result c.in-Class.is c.fault-in-Class.ensures }

pub returns-in-Nothing : goal.returns-in-Nothing
returns-in-Nothing c = record { value = tt; fault = nothing_refused c.args.self c.fault-in-Nothing.result c.in-Nothing.is c.fault-in-Nothing.ensures }

pub returns-then-needs_minus : goal.returns-then-needs_minus
returns-then-needs_minus c =
    record { value = tt; fault = number_refused c.args.self c.in-Value.ty c.fault.result c.in-Value.is c.if-needs_minus.true c.fault.ensures }

pub returns-else-needs_minus : goal.returns-else-needs_minus
returns-else-needs_minus c = record { value = value_is c.args.self c.in-Value.ty c.in-Value.is c.if-needs_minus.false; fault = tt }
