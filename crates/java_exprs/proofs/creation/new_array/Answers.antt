use Rattle.std.proofs.Common.{◌∙◌}
use Rattle.java_exprs.proofs.CleanLemmas.{array_clean}
use Rattle.java_exprs.proofs.creation.new_array.Goals as goal

pub returns : goal.returns
returns c =
    array_clean c.args.env.now c.args.scope.now c.args.at c.args.base.now c.args.e c.args.dimensions c.in_ok-elements.elements c.in_ok-new-2.field-0 c.in_ok-new.field-0
    c.in_ok-elements.ensures.found c.in_ok-elements.ensures.known c.in_ok-wants_int.ensures (c.in_ok-new-2.ensures ∙ c.in-Ok.ensures) c.in_ok-new.ensures
