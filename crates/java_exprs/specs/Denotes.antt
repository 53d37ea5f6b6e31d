-- What an expression denotes, and which form it has.
use Rattle.std.specs.Prelude.{Bool, false, ◌==◌, Option, is_some, if◌then◌else◌}
use Rattle.std.specs.Option.{option_map_or}
use Rattle.java_syntax.specs.declared.expression.Expr.TheOpen.{Expr-F}
use Rattle.java_names.specs.declared.scope.Scope.{Scope}
use Rattle.java_denotes.specs.declared.denotation.Denotation.{Denotation}
use Rattle.java_denotes.specs.Denotes.{denotes_at}
use Rattle.java_denotes.specs.Members.{named_member}
use Rattle.java_exprs.specs.declared.environment.Environment.{Environment}
use Rattle.java_exprs.specs.declared.typed.Form.{Form}
use Rattle.java_exprs.specs.declared.typed.Form.TheVariants as form
use Rattle.java_exprs.specs.Attr.{Node}
use Rattle.java_exprs.specs.Members.{Naming, naming, of_attrs}
use Rattle.java_exprs.specs.Lookups.{local_named}

-- what it denotes, by symbols and scope alone
abbrev pub denotes_of : Environment → Scope → Node → Option Denotation
denotes_of env s n = denotes_at of_attrs env.symbols s n

-- ---- its form

-- an instance field can be assigned to, a constant can't
abbrev pub member_form : Environment → Naming → Form
member_form env k = option_map_or (λ m. if is_some m.place then form.Variable else form.Constant k.name.at) (named_member env.symbols k) form.Other

-- parentheses change nothing of a variable or a constant
abbrev pub form_inside : Form → Form
form_inside form.Variable = form.Variable
form_inside (form.Constant at) = form.Constant at
form_inside _ = form.Other

abbrev pub form_of : Environment → Scope → Node → Form
form_of env s (Expr-F.Name x) = if is_some (local_named s x.name) then form.Variable else option_map_or (member_form env) (naming env s (Expr-F.Name x)) form.Other
form_of env s (Expr-F.Field o f) = option_map_or (member_form env) (naming env s (Expr-F.Field o f)) form.Other
form_of env s (Expr-F.Element a i) = form.Variable
form_of env s (Expr-F.Paren at e) = form_inside e.form
form_of env s (Expr-F.Call m xs) = form.Call
form_of env s (Expr-F.Super at m xs) = form.Call
form_of env s (Expr-F.New at c xs) = form.Call
form_of env s (Expr-F.Method o m xs) = form.Call
form_of env s _ = form.Other

-- the number 2147483648
abbrev pub needs_minus : Node → Bool
needs_minus (Expr-F.Number at n) = n == 2_147_483_648
needs_minus _ = false
