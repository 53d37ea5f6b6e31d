-- Pairs of brackets.
use Rattle.std.proofs.Common.{◌≡◌, ◌<◌, List, [], ◌∷◌, length, ◌&&◌, Bool, true, false, refl, arith}
use Rattle.java_tokens.specs.declared.token.Operator.TheVariants as o
use Rattle.token_reading.specs.Lexeme.{Lexeme, is_operator}
use Rattle.token_reading.specs.Types.{past_brackets}
use Rattle.token_reading.specs.ReadType.{next, sees_pair}

not_both : (b : Bool) → b && false ≡ true → ⊥
not_both true h = cc
not_both false h = cc

pub past_pair : (xs : List Lexeme) → sees_pair xs ≡ true → past_brackets xs ≡ past_brackets (next (next xs))
past_pair [] h = refl
past_pair (x ∷ []) h = absurd (not_both (is_operator o.LeftBracket x.kind) h)
past_pair (x ∷ y ∷ xs) h = rw h refl

pub past_none : (xs : List Lexeme) → sees_pair xs ≡ false → past_brackets xs ≡ xs
past_none [] h = refl
past_none (x ∷ []) h = refl
past_none (x ∷ y ∷ xs) h = rw h refl

pub pair_shorter : (xs : List Lexeme) → sees_pair xs ≡ true → length (next (next xs)) < length xs
pair_shorter [] h = absurd (cc)
pair_shorter (x ∷ []) h = absurd (not_both (is_operator o.LeftBracket x.kind) h)
pair_shorter (x ∷ y ∷ xs) h = omega arith

pub ruleset pairs = (past_pair, past_none, pair_shorter)
