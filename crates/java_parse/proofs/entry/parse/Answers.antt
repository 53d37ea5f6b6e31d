use Rattle.std.proofs.Common.{arith}
use Rattle.java_syntax.specs.declared.class.FileTree.{FileTree}
use Rattle.java_parse.proofs.Top.{spelled, low, only, nothing, high_ones, long_enough}
use Rattle.java_parse.proofs.entry.parse.Goals as goal

-- the classes that are read, and the places of the tokens
abbrev tree : goal.In_ok-places-in-Ok → FileTree
tree c = record { classes = c.in-Ok.classes; places = c.in_ok-places-in-Ok.field-0 }

pub returns-in_ok-places-in-Ok-clause-spells : goal.returns-in_ok-places-in-Ok-clause-spells
returns-in_ok-places-in-Ok-clause-spells c =
    spelled c.args.tokens.now (tree c) c.file.new.tokens (rw c.new-rest.ensures at c.in-Ok.ensures) c.in_ok-places-in-Ok.ensures

pub returns-in_ok-places-in-Ok-clause-low : goal.returns-in_ok-places-in-Ok-clause-low
returns-in_ok-places-in-Ok-clause-low c =
    low c.args.tokens.now (tree c) c.file.new.tokens (rw c.new-rest.ensures at c.in-Ok.ensures) c.in_ok-places-in-Ok.ensures

pub returns-in_ok-places-in-Ok-clause-only : goal.returns-in_ok-places-in-Ok-clause-only
returns-in_ok-places-in-Ok-clause-only c =
    only c.args.tokens.now (tree c) c.file.new.tokens (rw c.new-rest.ensures at c.in-Ok.ensures) c.in_ok-places-in-Ok.ensures

pub returns-in-Err-NoTree-clause-cause : goal.returns-in-Err-NoTree-clause-cause
returns-in-Err-NoTree-clause-cause c =
    (nothing c.args.tokens.now (rw (c.in-Err-NoTree.field-0-is, c.new-rest.ensures) at c.in-Err-NoTree.ensures), omega arith)

pub returns-in-Err-TooHigh-clause-cause : goal.returns-in-Err-TooHigh-clause-cause
returns-in-Err-TooHigh-clause-cause c =
    let high = rw (c.in-Err-TooHigh.field-0-is, c.new-rest.ensures) at c.in-Err-TooHigh.ensures in
    (high_ones c.args.tokens.now high, long_enough c.args.tokens.now high)
