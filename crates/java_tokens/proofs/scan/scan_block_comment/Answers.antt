use Rattle.std.proofs.Common.{sym, ap, ◌∙◌, subst, arith, length}
use Rattle.std.proofs.lemmas.Slice.{between_to_end}
use Rattle.java_tokens.specs.Reading.{begins_pair}
use Rattle.java_tokens.proofs.Scans.{pair-length}
use Rattle.java_tokens.proofs.ScanComments.{Passed, scanned-closed, scanned-unclosed}
use Rattle.java_tokens.proofs.scan.scan_block_comment.Goals as goal

pub returns-then-begins_pair : goal.returns-then-begins_pair
returns-then-begins_pair c =
    let xs = c.args.characters.now in
    let rest = between_to_end xs c.loop-at.at (length xs) (omega arith) in
    scanned-closed xs c.loop-at.at c.requires (omega arith) (ap (begins_pair 42 47) (sym rest) ∙ sym c.begins_pair.ensures ∙ c.if-begins_pair.true) c.loop-at.invariant

pub returns : goal.returns
returns c =
    let long = pair-length 47 42 c.args.characters.now c.requires in
    scanned-unclosed c.args.characters.now c.requires (subst (Passed c.args.characters.now) (omega arith) c.loop-at.invariant)
