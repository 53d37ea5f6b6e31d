use Rattle.java_names.specs.Scope.{maker_scope}
use Rattle.throw_check.specs.Statements.{optional_points}
use Rattle.throw_check.proofs.FieldLemmas.{field_refused}
use Rattle.throw_check.proofs.bodies.field.Goals as goal

pub returns-in-Err-Fault : goal.returns-in-Err-Fault
returns-in-Err-Fault c =
    let symbols = c.args.symbols.now in
    let tree = c.args.tree.now in
    field_refused symbols c.args.handlers.now tree.name.at (optional_points symbols (maker_scope c.args.class) tree.value) c.in-Err-Fault.field-0-0 c.requires
    (rw (c.in-Err-Fault.field-0-is, c.in_ok-scope.ensures) at c.in-Err-Fault.ensures)
