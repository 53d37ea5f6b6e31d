-- Places among the tokens of a source.
use Rattle.std.proofs.Common.{◌≡◌, ℕ, suc, ◌<◌, List, ◌∷◌, ◌++◌, length, take, drop, get_or, refl, sym, ◌∙◌, ap, arith, length-append}
use Rattle.std.proofs.Math.Seq.{split_at}
use Rattle.java_tokens.specs.declared.token.Token.{Token}
use Rattle.java_tokens.specs.Tokens.{AreTokens}
use Rattle.java_source.specs.Refused.{IsPlaceAmong, place_at}

-- the token with an index stands among the tokens
pub place_among : (tokens : List Token) (i : ℕ) (token : Token) → token ≡ get_or tokens i token → i < length tokens → IsPlaceAmong tokens (place_at token)
place_among tokens i token is lt = record {
  front = take i tokens;
  token = token;
  behind = drop (suc i) tokens;
  is = split_at tokens i token lt ∙ ap (λ found. take i tokens ++ found ∷ drop (suc i) tokens) (sym is);
  place_is = refl;
}

-- a source has a token, that of its end
pub some_token : (bytes : List ℕ) (tokens : List Token) → AreTokens bytes tokens → 0 < length tokens
some_token bytes tokens read = rw (read.all, length-append) (omega arith)
