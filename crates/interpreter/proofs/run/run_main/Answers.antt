use Rattle.std.proofs.Common.{map, sym, ap, ◌∙◌}
use Rattle.heap_arena.specs.State.{StoreState}
use Rattle.interpreter.specs.Machine.{text_of}
use Rattle.interpreter.proofs.run.run_main.Goals as goal

pub returns-in-Ok : goal.returns-in-Ok
returns-in-Ok g c =
    c.run_body.ensures (map text_of c.args.args.now) c.in-Some.main.now (sym c.in-Some.ensures.value)
    (rw c.in-Ok.is at c.begin.ensures.begun) (ap (λ (s : StoreState). s.marks) c.begin.ensures.others ∙ ap (λ (s : StoreState). s.marks) c.requires.fresh)
