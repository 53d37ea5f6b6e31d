use Rattle.java_tokens.proofs.Scans.{scanned-number, front-parts, digit-starts}
use Rattle.java_tokens.proofs.scan.scan_number.Goals as goal

pub number_lexeme-requires-clause-start : goal.number_lexeme-requires-clause-start
number_lexeme-requires-clause-start c = digit-starts c.args.characters.now c.part_len-len.result c.part_len-len.ensures.count c.requires

pub number_lexeme-requires-clause-parts : goal.number_lexeme-requires-clause-parts
number_lexeme-requires-clause-parts c = front-parts c.args.characters.now c.part_len-len.result c.part_len-len.ensures.count

pub returns : goal.returns
returns c = scanned-number c.args.characters.now c.number_lexeme.result c.part_len-len.result c.part_len-len.ensures.count c.requires c.number_lexeme.ensures
