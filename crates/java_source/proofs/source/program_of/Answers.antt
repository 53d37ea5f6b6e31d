use Rattle.std.proofs.Common.{◌≤◌, length, arith}
use Rattle.java_source.specs.Accepted.{most_bytes}
use Rattle.java_source.proofs.OnlyProgram.{only_program}
use Rattle.java_source.proofs.RefusalLemmas.{refuses_broken, refuses_unparsed}
use Rattle.java_source.proofs.source.program_of.Goals as goal

pub returns-in-Err-clause-refused : goal.returns-in-Err-clause-refused
returns-in-Err-clause-refused c =
    let few : length c.args.bytes.now ≤ most_bytes = omega (arith, c.if-bytes-gt-MOST_BYTES.false) in
    refuses_unparsed _ few _ c.in_ok-tokens.ensures.ok _ _ (rw c.deref.ensures.value at c.in-Err.ensures.cause) (rw c.deref-in-Err.ensures.value at c.unparsed.ensures)

pub returns-in-Err-Fault-clause-refused : goal.returns-in-Err-Fault-clause-refused
returns-in-Err-Fault-clause-refused c =
    let few : length c.args.bytes.now ≤ most_bytes = omega (arith, c.if-bytes-gt-MOST_BYTES.false) in
    rw (c.broken.ensures, c.deref-in-Err-Fault.ensures.value)
    (refuses_broken _ few _ c.in_ok-tokens.ensures.ok _ _ (rw c.deref.ensures.value at c.in-Ok.ensures.spells) c.in-Ok.ensures.low (rw c.deref.ensures.value at c.in-Ok.ensures.only) (rw c.in-Err-Fault.field-0-is at c.in-Err-Fault.ensures.fault))

pub returns-in-Ok-checked-clause-only : goal.returns-in-Ok-checked-clause-only
returns-in-Ok-checked-clause-only c =
    only_program _ _ _ _ c.in_ok-tokens.ensures.ok (rw c.deref.ensures.value at c.in-Ok.ensures.only) c.in-Ok-checked.ensures.program

pub returns-in-Ok-checked-clause-typed : goal.returns-in-Ok-checked-clause-typed
returns-in-Ok-checked-clause-typed c = c.in-Ok-checked.ensures.typed _ (rw c.deref.ensures.value at c.in-Ok.ensures.spells)
