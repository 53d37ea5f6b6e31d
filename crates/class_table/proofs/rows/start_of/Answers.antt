use Rattle.std.proofs.Common.{◌≡◌, ◌∙◌}
use Rattle.class_table.specs.Ancestors.{superclasses}
use Rattle.class_table.proofs.IndexLemmas.{superclasses_at}
use Rattle.class_table.proofs.rows.start_of.Goals as goal

pub returns : goal.returns
returns c =
    let e : c.above.result.now ≡ superclasses c.args.index.now.declared c.args.number = c.above.ensures ∙ rw c.as_slice.ensures (superclasses_at c.args.index.now c.args.number c.requires) in
    rw (← e) c.total.ensures
