use Rattle.std.proofs.Common.{ap, ◌∙◌}
use Rattle.class_table.specs.Lines.{lines_of}
use Rattle.class_table.specs.Index.{counts_of, field_names_of, signatures_of}
use Rattle.class_table.proofs.check.make_index.Goals as goal

pub lookups-requires-clause-known : goal.lookups-requires-clause-known
lookups-requires-clause-known c = rw c.as_slice.ensures c.requires.known

pub returns-clause-index : goal.returns-clause-index
returns-clause-index c =
    let e = c.as_slice.ensures in
    let h = c.in_ok-lookups.ensures in
    record { lines_are = h.lines ∙ ap lines_of e; fields_are = h.fields ∙ ap field_names_of e; methods_are = h.methods ∙ ap signatures_of e; counts_are = h.counts ∙ ap counts_of e }

pub returns-clause-clear : goal.returns-clause-clear
returns-clause-clear c = rw (← c.as_slice.ensures) c.in_ok-lookups.ensures.clear
