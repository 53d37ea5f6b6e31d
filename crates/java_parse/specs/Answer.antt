-- What the parser's answer says of the tokens.
use Rattle.std.specs.Prelude.{◌≡◌, ◌≤◌, ◌<◌, List, length}
use Rattle.java_tokens.specs.declared.token.Token.{Token}
use Rattle.java_syntax.specs.declared.class.FileTree.{FileTree}
use Rattle.java_syntax.specs.Height.{file_height}
use Rattle.java_syntax.specs.Spells.{Spells}
use Rattle.token_reading.specs.declared.error.ParseError.{ParseError}
use Rattle.token_reading.specs.declared.error.ParseError.TheVariants as errors

-- Each tree that spells the tokens, of whatever height, is this one.
abbrev pub IsOnlyTree : FileTree → List Token → Type 0
IsOnlyTree tree tokens = (t : FileTree) → Spells t tokens → t ≡ tree

-- no tree spells the tokens
abbrev pub SpellsNothing : List Token → Type 0
SpellsNothing tokens = (t : FileTree) → Spells t tokens → ⊥

-- each tree that spells the tokens is higher than 200 nodes
abbrev pub SpellsHighOnes : List Token → Type 0
SpellsHighOnes tokens = (t : FileTree) → Spells t tokens → 200 < file_height t

-- why there is no tree: none is spelled, or only such as are too high, by as many tokens as the limit at least, or
-- memory ran out, which may always be
abbrev pub HasCause : ParseError → List Token → Type 0
HasCause (errors.Syntax at) tokens = SpellsNothing tokens × (at ≤ length tokens)
HasCause errors.TooDeep tokens = SpellsHighOnes tokens × (200 ≤ length tokens)
HasCause errors.OutOfMemory tokens = Unit {0}
