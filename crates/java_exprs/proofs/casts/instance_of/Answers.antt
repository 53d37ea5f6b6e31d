use Rattle.std.proofs.Common.{◌≡◌, ◌||◌, true, rules}
use Rattle.core_tree.specs.Types.{is_object, is_string}
use Rattle.java_exprs.proofs.CleanLemmas.{instance_clean}
use Rattle.java_exprs.proofs.casts.instance_of.Goals as goal
use Rattle.java_exprs.proofs.casts.instance_of.Goals.{then-is_object, else-is_object}

pub returns : goal.returns
returns c =
    let suits : (is_object c.in_ok-ty.ty || is_string c.in_ok-ty.ty) ≡ true
    = elim c.if-is_object.branch [ then-is_object w ↦ search rules | else-is_object w ↦ search rules ] in
    instance_clean c.args.env.now c.args.scope.now c.args.e c.args.tree.now c.in_ok-ty.ty c.in_ok-new.field-0
    c.in_ok-ty.ensures.found c.in_ok-ty.ensures.known suits c.in_ok-check_cast.ensures c.in_ok-new.ensures
