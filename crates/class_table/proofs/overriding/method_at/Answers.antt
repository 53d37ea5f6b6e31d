use Rattle.std.proofs.Common.{sym, ◌∙◌}
use Rattle.class_table.proofs.IndexLemmas.{called_at}
use Rattle.class_table.proofs.overriding.method_at.Goals as goal

pub returns-in-Some : goal.returns-in-Some
returns-in-Some c = called_at c.args.index.now c.args.class c.args.key.now c.in-Some.place _ c.requires (sym c.place_of.ensures ∙ c.in-Some.is) c.method_in.ensures
