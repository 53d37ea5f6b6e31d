use Rattle.java_tokens.proofs.ScanComments.{Passed}
use Rattle.java_tokens.proofs.scan.scan_block_comment.Given as goal

abbrev pub invariant-loop-at : goal.invariant-loop-at
invariant-loop-at l = Passed l.characters l.at
