use Rattle.std.proofs.Common.{◌∙◌}
use Rattle.planb_run.proofs.Parts.{rule-text}
use Rattle.planb_run.proofs.report.write_fault.Goals as goal

pub returns : goal.returns
returns g c =
    let rule = c.as_bytes-rule.ensures.value ∙ c.format.ensures.text in
    let line = c.as_bytes-line.ensures.value ∙ c.format-2.ensures.text in
    let column = c.as_bytes-column.ensures.value ∙ c.format-3.ensures.text in
    rw (← rule, ← line, ← column, rule-text c.as_bytes-rule.result.now c.as_bytes-line.result.now c.as_bytes-column.result.now) c.put_parts.ensures
