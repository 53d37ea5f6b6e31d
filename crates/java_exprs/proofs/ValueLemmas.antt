-- Lemmas on expressions that stand where a value is needed.
use Rattle.std.proofs.Common.{◌≡◌, ℕ, true, false, None, [], ◌++◌, ◌⊎◌, refl, inl, inr}
use Rattle.core_tree.specs.declared.ty.Ty.{Ty}
use Rattle.core_tree.specs.Types.{elements_of, is_int, is_array}
use Rattle.token_reading.specs.declared.fault.CheckError.{CheckError}
use Rattle.token_reading.specs.declared.fault.CheckError.TheVariants as error
use Rattle.java_syntax.specs.declared.operator.UnaryOp.TheVariants as unary
use Rattle.java_syntax.specs.declared.expression.Expr.TheOpen.{Expr-F}
use Rattle.java_names.specs.declared.scope.Scope.{Scope}
use Rattle.java_exprs.specs.declared.environment.Environment.{Environment}
use Rattle.java_denotes.specs.declared.denotation.Denotation.{Denotation}
use Rattle.java_denotes.specs.declared.denotation.Denotation.TheVariants as denotes
use Rattle.java_denotes.specs.declared.denotation.Printing.{Printing}
use Rattle.java_exprs.specs.declared.typed.Typed.{Typed}
use Rattle.java_exprs.specs.declared.value.Value.{Value}
use Rattle.java_exprs.specs.Attr.{of_rule, value_faults}
use Rattle.java_names.specs.Refusals.{Refuses}
use Rattle.java_exprs.specs.Checks.{attr_at, clean, of_value}
use Rattle.java_exprs.specs.Rules.{wants}

-- a class or the library
abbrev pub IsName : Denotation → Type 0
IsName d = ((c : ℕ) × (d ≡ denotes.Class c)) ⊎ ((d ≡ denotes.System) ⊎ (d ≡ denotes.Output))

-- a call without a result
abbrev pub IsNothing : Denotation → Type 0
IsNothing d = (d ≡ denotes.Nothing) ⊎ ((p : Printing) × (d ≡ denotes.Print p))

pub name_refused : (o : Typed) (e : CheckError) → IsName o.denotes → e ≡ error.Fault (record { rule = 10; at = o.at }) → Refuses (value_faults (clean o)) e
name_refused o e name is = elim name [
  | inl w ↦ rw (is, w.1) (inl refl)
  | inr w ↦ elim w [ inl system ↦ rw (is, system) (inl refl) | inr output ↦ rw (is, output) (inl refl) ]
]

pub nothing_refused : (o : Typed) (e : CheckError) → IsNothing o.denotes → e ≡ error.Fault (record { rule = 11; at = o.at }) → Refuses (value_faults (clean o)) e
nothing_refused o e nothing is = elim nothing [ inl n ↦ rw (is, n) (inl refl) | inr p ↦ rw (is, p.1) (inl refl) ]

pub number_refused : (o : Typed) (t : Ty) (e : CheckError) → o.denotes ≡ denotes.Value t → o.needs_minus ≡ true → e ≡ error.Fault (record { rule = 19; at = o.at })
    → Refuses (value_faults (clean o)) e
number_refused o t e value minus is = rw (is, value, minus) (inl refl)

pub value_is : (o : Typed) (t : Ty) → o.denotes ≡ denotes.Value t → o.needs_minus ≡ false
    → clean o ≡ of_value (record { at = o.at; ty = t; form = o.form; core = o.core })
value_is o t value minus = rw (value, minus) refl

pub minus_of_name : (env : Environment) (s : Scope) (at : ℕ) (o : Typed) (e : CheckError) → IsName o.denotes → e ≡ error.Fault (record { rule = 10; at = o.at })
    → Refuses (attr_at env s (Expr-F.Unary at unary.Minus (clean o))).faults e
minus_of_name env s at o e name is = elim name [
  | inl w ↦ rw (is, w.1) (inl refl)
  | inr w ↦ elim w [ inl system ↦ rw (is, system) (inl refl) | inr output ↦ rw (is, output) (inl refl) ]
]

pub element_refused : (a i : Value) (e : CheckError) → elements_of a.ty ≡ None → e ≡ error.Fault (record { rule = 11; at = a.at })
    → Refuses (of_rule 11 (wants is_array (of_value a) ++ wants is_int (of_value i)) []) e
element_refused a i e none is = rw (is, none) (inl refl)
