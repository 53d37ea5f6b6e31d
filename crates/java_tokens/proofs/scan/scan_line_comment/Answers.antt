use Rattle.java_tokens.proofs.Scans.{scanned-line}
use Rattle.java_tokens.proofs.scan.scan_line_comment.Goals as goal

pub returns : goal.returns
returns c = scanned-line c.args.characters.now c.line_len.result c.requires c.line_len.ensures.count
