use Rattle.std.proofs.Common.{◌≡◌, find, drop}
use Rattle.spec_trees.specs.Words.{all_words, is_word}
use Rattle.spec_trees.proofs.word.word_of.Given as goal

abbrev pub invariant-loop-word : goal.invariant-loop-word
invariant-loop-word l = find (is_word l.name) all_words ≡ find (is_word l.name) (drop l.word-index l.word-items)
