use Rattle.std.proofs.Common.{◌∙◌, sym}
use Rattle.spec_trees.specs.Words.{all_words, is_word}
use Rattle.spec_trees.proofs.WordLemmas.{find_on}
use Rattle.spec_trees.proofs.word.word_of.Goals as goal

pub loop-word-preserved : goal.loop-word-preserved
loop-word-preserved c =
    c.loop-word.invariant ∙ find_on (is_word c.args.name.now) all_words c.loop-word.word-index _ c.loop-word-test.true
    (sym c.is_word.ensures ∙ c.if-is_word.false)
