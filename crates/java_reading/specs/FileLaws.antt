-- What is claimed of files.
use Rattle.std.specs.Prelude.{◌≡◌, ℕ, ◌≤◌, List, [], length, Ok, Err}
use Rattle.java_tokens.specs.declared.token.Token.{Token}
use Rattle.java_syntax.specs.declared.class.FileTree.{FileTree}
use Rattle.token_reading.specs.Lexeme.{Lexeme, numbered}
use Rattle.java_syntax.specs.Spells.{SpellsWithin, Spells}
use Rattle.java_syntax.specs.Height.{file_height}
use Rattle.token_reading.specs.Outcome.{no_tree, too_high}
use Rattle.java_reading.specs.ReadClass.{file}
use Rattle.token_reading.specs.Places.{places_of}

-- no tokens are two files
abbrev pub OneFile : Type 0
OneFile = (s t : FileTree) (tokens : List Token) → Spells s tokens → Spells t tokens → s ≡ t

-- The classes of a file that spells the tokens and has at most this height are read.
abbrev pub FindsFiles : Type 0
FindsFiles = (n : ℕ) (t : FileTree) (tokens : List Token) → SpellsWithin n t tokens → file n (numbered 0 tokens) ≡ Ok (t.classes, [])

-- What is read spells the tokens, all of them, with their places, and has at most this height.
abbrev pub GivesFiles : Type 0
GivesFiles = (n : ℕ) (t : FileTree) (tokens : List Token) (rest : List Lexeme) → file n (numbered 0 tokens) ≡ Ok (t.classes, rest)
    → t.places ≡ places_of tokens → SpellsWithin n t tokens × (rest ≡ [])

-- Where no tree is read none spells the tokens, of whatever height.
abbrev pub RefusesFiles : Type 0
RefusesFiles = (n : ℕ) (t : FileTree) (tokens : List Token) → file n (numbered 0 tokens) ≡ Err no_tree → Spells t tokens → ⊥

-- Where trees are too high none of at most this height spells the tokens, and there are as many tokens at least.
abbrev pub RefusesHighFiles : Type 0
RefusesHighFiles = (n : ℕ) (tokens : List Token) → file n (numbered 0 tokens) ≡ Err too_high
    → ((t : FileTree) → SpellsWithin n t tokens → ⊥) × (n ≤ length tokens)

-- The height of a file is the least number with which it spells its tokens, and it spells them with each greater one.
abbrev pub FileHeightIsLeast : Type 0
FileHeightIsLeast = (n : ℕ) (t : FileTree) (tokens : List Token) → SpellsWithin n t tokens
    → (file_height t ≤ n) × ((m : ℕ) → file_height t ≤ m → SpellsWithin m t tokens)
