use Rattle.std.proofs.Common.{List, ℕ, take, flat_map, Ok, Bor}
use Rattle.pb_io.specs.Sink.{Puts}
use Rattle.clause_form.proofs.dimacs.put_parts.Given as goal

-- the parts so far are put
abbrev pub invariant-loop-part : goal.invariant-loop-part
invariant-loop-part g l = Puts (g.O.Sink.state l.fn.sink) (g.O.Sink.state l.sink) (flat_map (λ (part : Bor (List ℕ)). part.now) (take l.part-index l.parts)) {T = Unit {0}} (Ok (tt {0}))
