-- What is known of an expression, and what is asked of a part by where it stands.
use Rattle.std.specs.Prelude.{ℕ, Bool, true, false, List, [], ◌∷◌, ◌++◌, Option, Some, None}
use Rattle.core_tree.specs.declared.expr.Expr.{Expr as Core}
use Rattle.token_reading.specs.declared.fault.Fault.{Fault}
use Rattle.java_syntax.specs.declared.expression.Expr.TheOpen.{Expr-F}
use Rattle.java_denotes.specs.declared.denotation.Denotation.{Denotation}
use Rattle.java_denotes.specs.declared.denotation.Denotation.TheVariants as denotes
use Rattle.java_exprs.specs.declared.typed.Form.{Form}

-- what is known of an expression: the number of its first token, what it denotes where its names are known, its form,
-- whether it is the number 2147483648, what it resolves to, and the rules that are broken in it, wherever it stands
pub record Attr : Type 0 where
  pub at : ℕ
  pub denotes : Option Denotation
  pub form : Form
  pub needs_minus : Bool
  pub core : Core
  pub faults : List Fault

-- one node, with what is known of its parts
abbrev pub Node : Type 0
Node = Expr-F Attr

-- ---- places of broken rules

-- a rule is broken at a place where the test fails
abbrev pub unless : Bool → ℕ → List ℕ
unless true at = []
unless false at = at ∷ []

-- the places as faults of a rule, before other faults
abbrev pub of_rule : ℕ → List ℕ → List Fault → List Fault
of_rule rule [] more = more
of_rule rule (at ∷ ats) more = record { rule = rule; at = at } ∷ of_rule rule ats more

-- ---- where a part stands

-- a class or the library, which is no value
abbrev pub is_no_value : Option Denotation → Bool
is_no_value (Some (denotes.Class c)) = true
is_no_value (Some denotes.System) = true
is_no_value (Some denotes.Output) = true
is_no_value _ = false

-- a call without a result
abbrev pub is_nothing : Option Denotation → Bool
is_nothing (Some denotes.Nothing) = true
is_nothing (Some (denotes.Print p)) = true
is_nothing _ = false

abbrev pub only_if : Bool → ℕ → List ℕ
only_if true at = at ∷ []
only_if false at = []

-- 10: a class name, which is unknown as the name of a variable
abbrev pub named_10 : Attr → List ℕ
named_10 e = only_if (is_no_value e.denotes) e.at

-- 11: a call without a result where a value is needed
abbrev pub nothing_11 : Attr → List ℕ
nothing_11 e = only_if (is_nothing e.denotes) e.at

-- 19: 2147483648 without a minus before it
abbrev pub bare_19 : Attr → List ℕ
bare_19 e = only_if e.needs_minus e.at

-- what is broken in a part that stands where a value is needed
abbrev pub value_faults : Attr → List Fault
value_faults e = e.faults ++ of_rule 10 (named_10 e) (of_rule 11 (nothing_11 e) (of_rule 19 (bare_19 e) []))

-- in the operand of a minus
abbrev pub negated_faults : Attr → List Fault
negated_faults e = e.faults ++ of_rule 10 (named_10 e) (of_rule 11 (nothing_11 e) [])

-- before a dot, where a class may stand too
abbrev pub prefix_faults : Attr → List Fault
prefix_faults e = e.faults ++ of_rule 11 (nothing_11 e) (of_rule 19 (bare_19 e) [])

-- in an expression that is a statement, whose result is dropped
abbrev pub statement_faults : Attr → List Fault
statement_faults e = e.faults ++ of_rule 10 (named_10 e) (of_rule 19 (bare_19 e) [])

-- in each of some parts that stand where values are needed
abbrev pub values_faults : List Attr → List Fault
values_faults [] = []
values_faults (e ∷ es) = value_faults e ++ values_faults es
