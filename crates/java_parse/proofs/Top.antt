-- What reading a whole list says of its trees.
use Rattle.std.proofs.Common.{◌≡◌, ℕ, ◌≤◌, ◌<◌, nat_lt, List, length, Bool, true, false, Ok, Err, refl}
use Rattle.java_tokens.specs.declared.token.Token.{Token}
use Rattle.java_syntax.specs.declared.class.FileTree.{FileTree}
use Rattle.token_reading.specs.Lexeme.{Lexeme, numbered}
use Rattle.java_syntax.specs.Height.{file_height}
use Rattle.java_syntax.specs.Spells.{Spells}
use Rattle.token_reading.specs.Places.{places_of}
use Rattle.token_reading.specs.Outcome.{no_tree, too_high}
use Rattle.java_reading.specs.ReadClass.{file}
use Rattle.java_reading.proofs.FileWhole.{one_file, gives_files, refuses_files, refuses_high_files, file_height_is_least}
use Rattle.token_reading.proofs.Tests.{from_below, from_not_below}
use Rattle.java_parse.specs.Answer.{IsOnlyTree, SpellsNothing, SpellsHighOnes}

pub spelled : (tokens : List Token) (t : FileTree) (rest : List Lexeme) → file 200 (numbered 0 tokens) ≡ Ok (t.classes, rest)
    → t.places ≡ places_of tokens → Spells t tokens
spelled tokens t rest is places = (200, (gives_files 200 t tokens rest is places).0)

pub low : (tokens : List Token) (t : FileTree) (rest : List Lexeme) → file 200 (numbered 0 tokens) ≡ Ok (t.classes, rest)
    → t.places ≡ places_of tokens → file_height t ≤ 200
low tokens t rest is places = (file_height_is_least 200 t tokens (gives_files 200 t tokens rest is places).0).0

pub only : (tokens : List Token) (t : FileTree) (rest : List Lexeme) → file 200 (numbered 0 tokens) ≡ Ok (t.classes, rest)
    → t.places ≡ places_of tokens → IsOnlyTree t tokens
only tokens t rest is places = λ d s. one_file d t tokens s (spelled tokens t rest is places)

pub nothing : (tokens : List Token) → file 200 (numbered 0 tokens) ≡ Err no_tree → SpellsNothing tokens
nothing tokens is = λ t s. refuses_files 200 t tokens is s

above : (h : ℕ) (b : Bool) → nat_lt 200 h ≡ b → (h ≤ 200 → ⊥) → 200 < h
above h true is over = from_below 200 h is
above h false is over = absurd (over (from_not_below 200 h is))

pub high_ones : (tokens : List Token) → file 200 (numbered 0 tokens) ≡ Err too_high → SpellsHighOnes tokens
high_ones tokens is = λ t s.
    above (file_height t) _ refl (λ h. (refuses_high_files 200 tokens is).0 t ((file_height_is_least s.0 t tokens s.1).1 200 h))

pub long_enough : (tokens : List Token) → file 200 (numbered 0 tokens) ≡ Err too_high → 200 ≤ length tokens
long_enough tokens is = (refuses_high_files 200 tokens is).1
