-- What a function that reads ensures.
use Rattle.std.specs.Prelude.{◌≡◌, List, [], ◌∷◌, Option, Some, None, Result, Ok, Err}
use Rattle.java_tokens.specs.declared.token.TokenKind.{TokenKind}
use Rattle.token_reading.specs.Lexeme.{Lexeme}
use Rattle.token_reading.specs.Outcome.{no_tree, too_high, Outcome}
use Rattle.token_reading.specs.declared.refusal.Refusal.{Refusal}
use Rattle.token_reading.specs.declared.refusal.Refusal.TheVariants as refusal

-- The reading function gives no tree for this reason; memory may run out anywhere.
abbrev pub Fails : {A : Type 0} → Outcome A → Refusal → Type 0
Fails o refusal.NoTree = o ≡ Err no_tree
Fails o refusal.TooHigh = o ≡ Err too_high
Fails o refusal.OutOfMemory = Unit {0}

-- The reading function gives this value and these tokens after it, or none for this reason.
abbrev pub Reads : {A : Type 0} → Outcome A → Result A Refusal → List Lexeme → Type 0
Reads o (Ok a) after = o ≡ Ok (a, after)
Reads o (Err e) after = Fails o e

-- the kind of the first token
abbrev pub head : List Lexeme → Option TokenKind
head [] = None
head (x ∷ xs) = Some x.kind

-- why nothing of height 0 is read here: there is nothing at all, or it is too high
abbrev pub refusal_at : List Lexeme → Refusal
refusal_at [] = refusal.NoTree
refusal_at (x ∷ xs) = refusal.TooHigh
