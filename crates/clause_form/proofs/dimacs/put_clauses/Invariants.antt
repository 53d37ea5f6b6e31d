use Rattle.std.proofs.Common.{take, flat_map, Ok}
use Rattle.pb_io.specs.Sink.{Puts}
use Rattle.clause_form.specs.Dimacs.{clause_line}
use Rattle.clause_form.proofs.dimacs.put_clauses.Given as goal

-- the clauses so far are put
abbrev pub invariant-loop-clause : goal.invariant-loop-clause
invariant-loop-clause g l = Puts (g.O.Sink.state l.fn.sink) (g.O.Sink.state l.sink) (flat_map clause_line (take l.clause-index l.clauses)) {T = Unit {0}} (Ok (tt {0}))
