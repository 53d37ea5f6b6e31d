use Rattle.std.proofs.Common.{◌≡◌, ◌||◌, rules}
use Rattle.core_tree.specs.Types.{is_string}
use Rattle.java_exprs.proofs.CleanLemmas.{binary_clean}
use Rattle.java_exprs.proofs.operators.binary.Goals as goal
use Rattle.java_exprs.proofs.operators.binary.Goals.{then-is_string, else-is_string}

pub returns : goal.returns
returns c =
    let joins : c.if-is_string.joins ≡ (is_string c.args.l.ty || is_string c.args.r.ty)
    = elim c.if-is_string.branch [ then-is_string w ↦ search rules | else-is_string w ↦ search rules ] in
    binary_clean c.args.env.now c.args.scope.now c.args.op c.args.l c.args.r c.binary_type-ty.result c.if-is_string.joins c.in_ok-core.core
    c.in_ok-check_operands.ensures c.binary_type-ty.ensures joins c.in_ok-core.ensures
