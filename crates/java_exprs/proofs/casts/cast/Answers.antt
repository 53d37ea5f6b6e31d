use Rattle.java_exprs.proofs.CleanLemmas.{cast_clean}
use Rattle.java_exprs.proofs.casts.cast.Goals as goal

pub returns : goal.returns
returns c =
    cast_clean c.args.env.now c.args.scope.now c.args.at c.args.tree.now c.args.e c.in_ok-ty.ty c.in-Ok.again c.in_ok-new.field-0
    c.in_ok-ty.ensures.found c.in_ok-ty.ensures.known c.in_ok-check_cast.ensures c.in-Ok.ensures c.in_ok-new.ensures
