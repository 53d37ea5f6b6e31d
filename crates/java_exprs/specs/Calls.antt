-- What is known of a call of a method through `this`, `super`, a class or an object.
use Rattle.std.specs.Prelude.{ℕ, Bool, List, [], ◌∷◌, Option, Some, None, unwrap_or, if◌then◌else◌}
use Rattle.core_tree.specs.declared.ty.Ty.TheVariants as ty
use Rattle.core_tree.specs.declared.expr.Expr.{Expr as Core}
use Rattle.core_tree.specs.declared.expr.Expr.TheVariants as core
use Rattle.token_reading.specs.declared.fault.Fault.{Fault}
use Rattle.token_reading.specs.declared.name.Ident.{Ident}
use Rattle.java_names.specs.declared.scope.Scope.{Scope}
use Rattle.java_exprs.specs.declared.environment.Environment.{Environment}
use Rattle.java_exprs.specs.declared.qualifier.Qualifier.{Qualifier}
use Rattle.java_exprs.specs.declared.qualifier.Qualifier.TheVariants as qualifier
use Rattle.java_exprs.specs.declared.receiver.Receiver.{Receiver}
use Rattle.java_denotes.specs.declared.denotation.Denotation.{Denotation}
use Rattle.java_denotes.specs.declared.denotation.Denotation.TheVariants as denotes
use Rattle.java_exprs.specs.declared.typed.Form.TheVariants as form
use Rattle.java_exprs.specs.declared.value.Value.{Value}
use Rattle.java_exprs.specs.Attr.{Attr, of_rule}
use Rattle.java_exprs.specs.Checks.{of_values}
use Rattle.java_exprs.specs.Rules.{is_printed, wants, wants_type, calling_10, calling_11, calling_12, calling_13, calling_14, method_10, library_11, library_12}
use Rattle.java_denotes.specs.Denotes.{call_denotes, library_method}
use Rattle.java_denotes.specs.Library.{is_print}
use Rattle.java_exprs.specs.Members.{Calling}
use Rattle.java_exprs.specs.Resolved.{call_core, library_core, first_core}

-- a call of the method of that name with these arguments
abbrev pub calling_of : Receiver → Core → Ident → List Value → Calling
calling_of r object m arguments = record { through = r.through; class = r.class; object = object; name = m; arguments = of_values arguments }

-- what it breaks
abbrev pub call_faults : Environment → Scope → Calling → List Fault
call_faults env s k =
    of_rule 10 (calling_10 env k) (of_rule 11 (calling_11 env k) (of_rule 12 (calling_12 env k) (of_rule 13 (calling_13 env s k)
    (of_rule 14 (calling_14 env s k) []))))

-- what is known of it, where it begins with token `at` and its arguments break nothing
abbrev pub call_attr : Environment → Scope → ℕ → Calling → Attr
call_attr env s at k = record { at = at; denotes = call_denotes env.symbols k; form = form.Call; needs_minus = Bool.false; core = call_core env k; faults = call_faults env s k }

-- ---- the library's methods

-- what a print shows
abbrev pub print_11 : Ident → List Attr → List ℕ
print_11 m (x ∷ []) = if is_print m.name then wants is_printed x else []
print_11 m xs = []

-- what a print breaks
abbrev pub print_faults : Ident → List Attr → List Fault
print_faults m xs = of_rule 10 (method_10 m (Some denotes.Output)) (of_rule 11 (print_11 m xs) (of_rule 12 (library_12 m xs (Some denotes.Output)) []))

-- what is known of it
abbrev pub print_attr : ℕ → Ident → List Attr → Attr
print_attr at m xs = record { at = at; denotes = library_method m.name xs (Some denotes.Output); form = form.Call; needs_minus = Bool.false; core = unwrap_or (first_core xs) core.Null; faults = print_faults m xs }

-- what a String is compared with
abbrev pub equals_11 : Environment → List Attr → List ℕ
equals_11 env (x ∷ []) = wants_type env ty.Text x
equals_11 env xs = []

-- what is broken by a method after a value that isn't an object of a class
abbrev pub text_faults : Environment → Attr → Ident → List Attr → List Fault
text_faults env o m xs = of_rule 10 (method_10 m o.denotes) (of_rule 11 (library_11 env o m xs o.denotes) (of_rule 12 (library_12 m xs o.denotes) []))

-- what is known of it
abbrev pub text_attr : Environment → Attr → Ident → List Attr → Attr
text_attr env o m xs = record { at = o.at; denotes = library_method m.name xs o.denotes; form = form.Call; needs_minus = Bool.false; core = library_core o m.name xs o.denotes; faults = text_faults env o m xs }

-- ---- before the dot

-- what a method is called after; nothing after `System`
abbrev pub qualifier_of : Denotation → Option Qualifier
qualifier_of (denotes.Class c) = Some (qualifier.Class c)
qualifier_of denotes.Output = Some qualifier.Output
qualifier_of denotes.System = None
qualifier_of _ = Some qualifier.Value
