use Rattle.std.proofs.Common.{◌∙◌}
use Rattle.clause_form.proofs.Putting.{header-text}
use Rattle.clause_form.proofs.dimacs.put_header.Goals as goal

pub returns : goal.returns
returns g c =
    let variables = c.as_bytes-variables.ensures.value ∙ c.format.ensures.text in
    let count = c.as_bytes-count.ensures.value ∙ c.format-2.ensures.text in
    rw (← variables, ← count, header-text c.as_bytes-variables.result.now c.as_bytes-count.result.now) c.put_parts.ensures
