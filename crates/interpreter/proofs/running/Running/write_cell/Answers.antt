use Rattle.std.proofs.Common.{false, refl, sym, ap}
use Rattle.heap_arena.specs.State.{StoreState}
use Rattle.interpreter.proofs.Moves.{stays}
use Rattle.interpreter.proofs.running.Running.write_cell.Goals as goal

pub returns-then-branch-clause-ok : goal.returns-then-branch-clause-ok
returns-then-branch-clause-ok g c =
    let w = c.in_ok-write.ensures in
    let is = w.written c.if-branch.true in
    stays false _ _ _ _ tt (rw is refl) refl (ap (λ (s : StoreState). s.marks) is) refl
    (λ k f J. rw (sym w.done, c.if-branch.true, ap (λ (s : StoreState). s.now) is) refl)

pub returns-else-branch-clause-ok : goal.returns-else-branch-clause-ok
returns-else-branch-clause-ok g c =
    let w = c.in_ok-write.ensures in
    let is = w.refused c.if-branch.false in
    stays false _ _ _ _ tt (rw is refl) refl (ap (λ (s : StoreState). s.marks) is) refl
    (λ k f J. rw (sym w.done, c.if-branch.false, ap (λ (s : StoreState). s.now) is) refl)
