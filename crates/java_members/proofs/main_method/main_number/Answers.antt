use Rattle.std.proofs.Common.{◌∙◌, sym}
use Rattle.java_members.proofs.MainLemmas.{found_in_class, not_in_class}
use Rattle.java_members.proofs.main_method.main_number.Goals as goal

pub returns-in-Some : goal.returns-in-Some
returns-in-Some c =
    found_in_class _ c.loop-class.first c.loop-class.class-index c.as_slice-class-items.result.now c.class-item.result c.loop-class.invariant (search c) (search c)
    c.as_slice-members.result.now c.in-Some.number c.as_slice-members.ensures (sym c.in-Some.is ∙ c.in_ok-number.ensures)

pub loop-class-preserved : goal.loop-class-preserved
loop-class-preserved c =
    not_in_class _ c.loop-class.first c.loop-class.class-index c.as_slice-class-items.result.now c.class-item.result c.loop-class.invariant (search c) (search c)
    c.as_slice-members.result.now c.in_ok-first.first c.as_slice-members.ensures (sym c.in_default.is ∙ c.in_ok-number.ensures) c.in_ok-first.ensures
