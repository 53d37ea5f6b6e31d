use Rattle.std.proofs.Common.{take, Ok}
use Rattle.std.specs.Prelude.{encode_utf8_all}
use Rattle.pb_io.specs.Sink.{Puts}
use Rattle.planb_run.proofs.uncaught.put_characters.Given as goal

-- the characters so far are put
abbrev pub invariant-loop-character : goal.invariant-loop-character
invariant-loop-character g l = Puts (g.O.Sink.state l.fn.sink) (g.O.Sink.state l.sink) (encode_utf8_all (take l.character-index l.characters)) {T = Unit {0}} (Ok (tt {0}))
