-- What the resolved form of an expression must be, given what the expression denotes.
use Rattle.std.specs.Prelude.{◌≡◌, Bool, true, false, ◌||◌, IsTrue, length, Option, Some, None, if◌then◌else◌, ◌⊎◌}
use Rattle.core_tree.specs.declared.ty.Ty.{Ty}
use Rattle.core_tree.specs.declared.ty.Ty.TheVariants as ty
use Rattle.core_tree.specs.declared.expr.Expr.{Expr as Core, out-Expr}
use Rattle.core_tree.specs.declared.expr.Expr.TheOpen.{Expr-F as Core-F}
use Rattle.core_tree.specs.declared.program.Program.{Program}
use Rattle.core_tree.specs.Types.{is_null, is_value_type}
use Rattle.core_tree.specs.Typing.{Scope, PartType, has_text, type_of}
use Rattle.java_denotes.specs.declared.denotation.Denotation.{Denotation}
use Rattle.java_denotes.specs.declared.denotation.Denotation.TheVariants as denotes
use Rattle.java_exprs.specs.declared.typed.Form.{Form}
use Rattle.java_exprs.specs.declared.typed.Form.TheVariants as form
use Rattle.java_exprs.specs.Attr.{Attr}

-- a value of the first type stands for one of the second: it is the same type, or null for a String, since a constant
-- of type String may be null
abbrev pub StandsFor : Ty → Ty → Type 0
StandsFor actual t = (actual ≡ t) ⊎ ((t ≡ ty.Text) × (actual ≡ ty.Null))

-- a type that values have: one of variables, or that of null
abbrev pub has_values : Program → Ty → Bool
has_values p t = is_value_type (length p.classes) t || is_null t

-- the resolved expression has a type, which stands for this one
pub record HasType (p : Program) (s : Scope) (core : Core) (t : Ty) : Type 0 where
  pub actual : Ty
  pub typed : type_of p s core ≡ Some actual
  pub stands : StandsFor actual t
  pub values : IsTrue (has_values p t)

-- a print's argument has a text, and only a print that ends a line may have none
abbrev pub prints : Bool → PartType → Bool → Bool
prints has_argument argument ends_line = if has_argument then has_text argument else ends_line

-- a value has its type, a call without a result the type Void; nothing is asked of what stands before a dot
abbrev pub Means : Program → Scope → Core → Option Denotation → Type 0
Means p s core None = ⊥
Means p s core (Some (denotes.Value t)) = HasType p s core t
Means p s core (Some denotes.Nothing) = type_of p s core ≡ Some ty.Void
Means p s core (Some (denotes.Class c)) = Unit {0}
Means p s core (Some denotes.System) = Unit {0}
Means p s core (Some denotes.Output) = Unit {0}
Means p s core (Some (denotes.Print print)) = IsTrue (prints print.has_argument (type_of p s core) print.ends_line)

-- a local, a field or an element
abbrev pub is_place : Core-F Core → Bool
is_place (Core-F.Local n) = true
is_place (Core-F.Field o at) = true
is_place (Core-F.Element a i) = true
is_place _ = false

-- what can be assigned to is a place, of exactly its type
pub record IsPlace (p : Program) (s : Scope) (core : Core) (denoted : Option Denotation) : Type 0 where
  pub place : IsTrue (is_place (out-Expr core))
  pub type : Ty
  pub said : denoted ≡ Some (denotes.Value type)
  pub typed : type_of p s core ≡ Some type

abbrev pub MeansForm : Program → Scope → Core → Option Denotation → Form → Type 0
MeansForm p s core denoted form.Variable = IsPlace p s core denoted
MeansForm p s core denoted (form.Constant at) = Unit {0}
MeansForm p s core denoted form.Call = Unit {0}
MeansForm p s core denoted form.Other = Unit {0}

-- what is known of an expression is right of what it resolves to
pub record IsRight (p : Program) (s : Scope) (e : Attr) : Type 0 where
  pub means : Means p s e.core e.denotes
  pub form : MeansForm p s e.core e.denotes e.form
