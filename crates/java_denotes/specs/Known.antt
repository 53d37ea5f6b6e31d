-- What is known of a whole expression.
use Rattle.std.specs.Prelude.{ℕ}
use Rattle.java_syntax.specs.declared.expression.Expr.{Expr}
use Rattle.java_syntax.specs.declared.expression.Expr.TheOpen.{Expr-F}
use Rattle.java_syntax.specs.declared.expression.Expr.TheFolds.{fold-Expr}
use Rattle.java_names.specs.declared.symbol.Symbols.{Symbols}
use Rattle.java_names.specs.declared.scope.Scope.{Scope}
use Rattle.java_denotes.specs.declared.known.Known.{Known}
use Rattle.java_denotes.specs.Denotes.{denotes_at, first_token}
use Rattle.java_denotes.specs.Members.{Seen}

-- a part of which only its first token and what it denotes are known
abbrev pub of_known : Seen Known (Unit {0})
of_known = record { denotes = λ k. k.denotes; object = λ k. tt; this = tt }

abbrev pub known_at : Symbols → Scope → Expr-F Known → Known
known_at s scope n = record { at = first_token (λ k. k.at) n; denotes = denotes_at of_known s scope n }

-- the number of the first token of an expression in a scope, and what it denotes
unfoldable pub known_of : Symbols → Scope → Expr → Known
known_of s scope = fold-Expr Known (known_at s scope)
