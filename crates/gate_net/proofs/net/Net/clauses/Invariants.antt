use Rattle.std.proofs.Common.{◌≡◌, take}
use Rattle.gate_net.specs.Encoding.{clauses_from}
use Rattle.gate_net.proofs.net.Net.clauses.Given as goal

abbrev pub invariant-loop-place : goal.invariant-loop-place
invariant-loop-place l = l.clauses.items ≡ clauses_from 0 (take l.place l.self)
