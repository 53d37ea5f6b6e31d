use Rattle.std.proofs.Common.{◌≡◌, ◌∙◌, ◌+◌, List, [], ◌∷◌, ◌++◌, ap, append_assoc, arith, drop, suc, sym}
use Rattle.std.proofs.lemmas.Grind.{common_steps}
use Rattle.java_members.specs.Files.{all_own_fields, class_with, core_class, core_classes}
use Rattle.java_members.proofs.classes.classes.Goals as goal

pub loop-row-preserved : goal.loop-row-preserved
unfolding core_classes
loop-row-preserved c =
    let env = c.args.env.now in
    let tree = c.args.tree.now in
    let n = c.loop-row.number in
    let row = c.row-item.result in
    let rest = drop (c.loop-row.row-index + 1) c.args.rows.now in
    let is : drop c.loop-row.row-index c.args.rows.now ≡ row ∷ rest = grind (arith, common_steps) in
    let later = core_classes env tree (suc n) rest in
    let own : c.as_slice.result.now ≡ all_own_fields env tree = c.as_slice.ensures ∙ c.in_ok-declared.ensures.fields in
    let class : c.in_ok-class.class ≡ core_class env tree n row
    = c.in_ok-class.ensures.class ∙ ap (λ declared. class_with declared env.symbols n row) own in
    c.loop-row.invariant ∙ ap (λ rows. c.loop-row.classes ++ core_classes env tree n rows) is
    ∙ rw (c.in_ok-push.ensures.ok, class, c.in_ok-number.ensures) (sym (append_assoc c.loop-row.classes (core_class env tree n row ∷ []) later))
