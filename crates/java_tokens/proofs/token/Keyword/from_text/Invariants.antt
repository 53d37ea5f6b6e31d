use Rattle.std.proofs.Common.{◌≡◌, ℕ, ◌<◌, false, get_or, bytes_eq}
use Rattle.java_tokens.specs.declared.keyword.TheConstants.{KEYWORDS}
use Rattle.java_tokens.specs.declared.token.Keyword.TheVariants.{Abstract}
use Rattle.java_tokens.specs.Spelling.{keyword_text}
use Rattle.java_tokens.proofs.token.Keyword.from_text.Given as goal

abbrev pub invariant-loop-keyword : goal.invariant-loop-keyword
invariant-loop-keyword l = (i : ℕ) → i < l.keyword-index → bytes_eq l.text (keyword_text (get_or KEYWORDS i Abstract)) ≡ false
