use Rattle.std.proofs.Common.{◌∙◌}
use Rattle.planb_run.proofs.Parts.{fault-text-parts, place-text}
use Rattle.planb_run.proofs.report.write_refusal.Goals as goal

pub returns-in-TooLong : goal.returns-in-TooLong
returns-in-TooLong g c = rw c.in-TooLong.is c.put_all.ensures

pub returns-in-Lexical : goal.returns-in-Lexical
returns-in-Lexical g c =
    let at = c.as_bytes-at.ensures.value ∙ c.format.ensures.text in
    rw (c.in-Lexical.is, ← c.fault_text.ensures, ← at, fault-text-parts c.fault_text.result.now c.as_bytes-at.result.now) c.put_parts.ensures

pub returns-in-Syntax : goal.returns-in-Syntax
returns-in-Syntax g c =
    let line = c.as_bytes-line.ensures.value ∙ c.format-in-Syntax.ensures.text in
    let column = c.as_bytes-column.ensures.value ∙ c.format-in-Syntax-2.ensures.text in
    rw (c.in-Syntax.is, ← line, ← column, place-text c.as_bytes-line.result.now c.as_bytes-column.result.now) c.put_parts-in-Syntax.ensures

pub returns-in-TooDeep : goal.returns-in-TooDeep
returns-in-TooDeep g c = rw c.in-TooDeep.is c.put_all-in-TooDeep.ensures

pub returns-in-Fault : goal.returns-in-Fault
returns-in-Fault g c = rw c.in-Fault.is c.write_fault.ensures
