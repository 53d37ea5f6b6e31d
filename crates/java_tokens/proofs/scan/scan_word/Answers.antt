use Rattle.java_tokens.proofs.Scans.{scanned-word, front-parts, word-starts}
use Rattle.java_tokens.proofs.scan.scan_word.Goals as goal

pub word_lexeme-requires-clause-start : goal.word_lexeme-requires-clause-start
word_lexeme-requires-clause-start c = word-starts c.args.characters.now c.part_len-len.result c.part_len-len.ensures.count c.requires

pub word_lexeme-requires-clause-parts : goal.word_lexeme-requires-clause-parts
word_lexeme-requires-clause-parts c = front-parts c.args.characters.now c.part_len-len.result c.part_len-len.ensures.count

pub returns : goal.returns
returns c = scanned-word c.args.characters.now c.in_ok-lexeme.lexeme c.part_len-len.result c.part_len-len.ensures.count c.requires c.in_ok-lexeme.ensures
