-- What is known of an expression, from its nodes upward, and what a check of it answers.
use Rattle.std.specs.Prelude.{◌≡◌, Bool, map, List, [], ◌++◌, Some, Result, Ok, Err}
use Rattle.token_reading.specs.declared.fault.CheckError.{CheckError}
use Rattle.java_syntax.specs.declared.expression.Expr.{Expr}
use Rattle.java_syntax.specs.declared.expression.Expr.TheFolds.{fold-Expr}
use Rattle.java_names.specs.declared.scope.Scope.{Scope}
use Rattle.java_exprs.specs.declared.environment.Environment.{Environment}
use Rattle.java_exprs.specs.declared.typed.Typed.{Typed}
use Rattle.java_denotes.specs.declared.denotation.Denotation.TheVariants as denotes
use Rattle.java_exprs.specs.declared.value.Value.{Value}
use Rattle.java_exprs.specs.Attr.{Attr, Node}
use Rattle.java_denotes.specs.Denotes.{first_token}
use Rattle.java_names.specs.Refusals.{Refuses}
use Rattle.java_exprs.specs.Denotes.{denotes_of, form_of, needs_minus}
use Rattle.java_exprs.specs.Resolved.{core_of}
use Rattle.java_exprs.specs.Rules.{broken_below, broken_here}

abbrev pub attr_at : Environment → Scope → Node → Attr
attr_at env s n = record {
  at = first_token (λ e. e.at) n;
  denotes = denotes_of env s n;
  form = form_of env s n;
  needs_minus = needs_minus n;
  core = core_of env s n;
  faults = broken_below n ++ broken_here env s n;
}

-- what is known of an expression in a scope
unfoldable pub attr : Environment → Scope → Expr → Attr
attr env s = fold-Expr Attr (attr_at env s)

-- ---- what a check answers

-- what is known of an expression that breaks no rule
abbrev pub clean : Typed → Attr
clean v = record { at = v.at; denotes = Some v.denotes; form = v.form; needs_minus = v.needs_minus; core = v.core; faults = [] }

abbrev pub Checks : Attr → Result Typed CheckError → Type 0
Checks a (Ok v) = a ≡ clean v
Checks a (Err e) = Refuses a.faults e

-- what is known of an expression that breaks no rule and has a value
abbrev pub of_value : Value → Attr
of_value v = record { at = v.at; denotes = Some (denotes.Value v.ty); form = v.form; needs_minus = Bool.false; core = v.core; faults = [] }

abbrev pub of_values : List Value → List Attr
of_values vs = map of_value vs
