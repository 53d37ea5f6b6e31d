use Rattle.std.proofs.Common.{take, flat_map, Ok}
use Rattle.pb_io.specs.Sink.{Puts}
use Rattle.clause_form.specs.Dimacs.{literal_text}
use Rattle.clause_form.proofs.dimacs.put_literals.Given as goal

-- the literals so far are put
abbrev pub invariant-loop-literal : goal.invariant-loop-literal
invariant-loop-literal g l = Puts (g.O.Sink.state l.fn.sink) (g.O.Sink.state l.sink) (flat_map literal_text (take l.literal-index l.literals)) {T = Unit {0}} (Ok (tt {0}))
