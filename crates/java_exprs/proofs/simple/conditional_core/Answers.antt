use Rattle.std.proofs.Common.{◌∙◌}
use Rattle.java_exprs.proofs.CleanLemmas.{cond_is}
use Rattle.java_exprs.proofs.simple.conditional_core.Goals as goal

pub returns : goal.returns
returns c = cond_is _ _ _ c.args.c c.args.a c.args.b (c.c.view_is ∙ c.in_ok-c.ensures) c.in_ok-a.ensures c.in_ok-new.ensures
