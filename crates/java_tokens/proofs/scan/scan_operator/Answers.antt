use Rattle.std.proofs.Common.{ap, length}
use Rattle.java_tokens.proofs.Scans.{scanned-operator, scanned-bad}
use Rattle.java_tokens.proofs.scan.scan_operator.Goals as goal

pub returns-in-Some : goal.returns-in-Some
returns-in-Some c = scanned-operator c.args.characters.now c.in-Some.operator (length c.text.result.now) c.requires (ap length c.text.ensures) c.in-Some.ensures.some

pub returns-in-None : goal.returns-in-None
returns-in-None c = scanned-bad c.args.characters.now c.requires c.in-None.ensures.none
