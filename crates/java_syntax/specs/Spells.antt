-- Which tokens a file is (JLS 7.3).
use Rattle.std.specs.Prelude.{◌≡◌, ℕ, List, [], ◌∷◌}
use Rattle.java_tokens.specs.declared.token.Token.{Token}
use Rattle.java_tokens.specs.declared.token.TokenKind.TheVariants as k
use Rattle.java_syntax.specs.declared.class.ClassTree.{ClassTree}
use Rattle.java_syntax.specs.declared.class.FileTree.{FileTree}
use Rattle.token_reading.specs.Lexeme.{Lexeme, numbered, Then}
use Rattle.token_reading.specs.Places.{places_of}
use Rattle.java_syntax.specs.Classes.{ClassWithin}

-- classes of at most this height, and the end
abbrev pub ClassesWithin : ℕ → List ClassTree → List Lexeme → List Lexeme → Type 0
ClassesWithin n [] xs rest = Then k.End xs rest
ClassesWithin n (t ∷ more) xs rest = (ys : List Lexeme) × ClassWithin n t xs ys × ClassesWithin n more ys rest

-- The classes of a file, of at most this height, are written on the whole list.
abbrev pub FileWithin : ℕ → List ClassTree → List Lexeme → Type 0
FileWithin n all xs = ClassesWithin n all xs []

-- The tree, of at most this height, spells the tokens.
abbrev pub SpellsWithin : ℕ → FileTree → List Token → Type 0
SpellsWithin n t tokens = FileWithin n t.classes (numbered 0 tokens) × (t.places ≡ places_of tokens)

-- The tree spells the tokens: they are what the grammar writes for its classes, from the first to the end, and they
-- begin at its places.
abbrev pub Spells : FileTree → List Token → Type 0
Spells t tokens = (n : ℕ) × SpellsWithin n t tokens
