-- The constants of a file in text order: their values, and what their initialisers break.
use Rattle.std.specs.Prelude.{ℕ, suc, Bool, true, false, List, [], ◌∷◌, ◌++◌, Option, None, if◌then◌else◌}
use Rattle.std.specs.Option.{option_map_or}
use Rattle.token_reading.specs.declared.fault.Fault.{Fault}
use Rattle.java_syntax.specs.declared.expression.Expr.{Expr}
use Rattle.java_syntax.specs.declared.class.FieldTree.{FieldTree}
use Rattle.java_syntax.specs.declared.class.Member.{Member}
use Rattle.java_syntax.specs.declared.class.Member.TheVariants as member
use Rattle.java_syntax.specs.declared.class.ClassTree.{ClassTree}
use Rattle.class_table.specs.Members.{is_static}
use Rattle.java_names.specs.Types.{declared_type}
use Rattle.java_exprs.specs.declared.environment.Environment.{Environment}
use Rattle.primitive_operators.specs.declared.scalar.Scalar.{Scalar}
use Rattle.java_exprs.specs.declared.folded.Folded.{Folded}
use Rattle.java_exprs.specs.declared.folded.Folded.TheVariants as folded
use Rattle.java_exprs.specs.Attr.{unless, of_rule, value_faults}
use Rattle.java_exprs.specs.Rules.{wants_type}
use Rattle.java_exprs.specs.Checks.{attr}
use Rattle.java_exprs.specs.Constants.{folded_of, literal_of}
use Rattle.java_names.specs.Scope.{constant_scope}

-- the constants before a place of the file by the tokens of their names, with their values, and what they break
pub record Reading : Type 0 where
  pub constants : List (ℕ × Option Scalar)
  pub faults : List Fault

-- ---- one constant of class c, where the environment has the constants before it

abbrev pub initialiser_folded : Environment → ℕ → FieldTree → Folded
initialiser_folded env c f = option_map_or (folded_of env (constant_scope c)) f.value folded.Other

-- an initialiser is there, is made of literals, earlier constants and operators, divides by nothing that is zero, and
-- makes no text that is too long
abbrev pub is_initialiser : Folded → Bool
is_initialiser (folded.Gives v) = true
is_initialiser folded.Unknown = true
is_initialiser folded.Fails = false
is_initialiser (folded.Class c) = false
is_initialiser folded.Other = false

-- 20 (8) to (10); at the name
abbrev pub initialiser_20 : Environment → ℕ → FieldTree → List ℕ
initialiser_20 env c f = unless (is_initialiser (initialiser_folded env c f)) f.name.at

-- 11: the initialiser fits the type
abbrev pub constant_faults_of : Environment → ℕ → FieldTree → Expr → List Fault
constant_faults_of env c f e =
    value_faults (attr env (constant_scope c) e)
    ++ of_rule 11 (wants_type env (declared_type env.symbols.names f.ty) (attr env (constant_scope c) e)) []

abbrev pub constant_faults : Environment → ℕ → FieldTree → List Fault
constant_faults env c f = option_map_or (constant_faults_of env c f) f.value [] ++ of_rule 20 (initialiser_20 env c f) []

-- ---- all constants

abbrev pub with_constants : Environment → List (ℕ × Option Scalar) → Environment
with_constants env constants = record env { constants = constants }

-- a constant that breaks a rule has no value
abbrev pub where_sound : List Fault → Option Scalar → Option Scalar
where_sound [] value = value
where_sound (f ∷ fs) value = None

abbrev pub constant_value : Environment → ℕ → FieldTree → Option Scalar
constant_value env c f = where_sound (constant_faults env c f) (literal_of (initialiser_folded env c f))

abbrev pub read_constant : Environment → ℕ → FieldTree → Reading → Reading
read_constant env c f before = record {
  constants = before.constants ++ (f.name.at, constant_value (with_constants env before.constants) c f) ∷ [];
  faults = before.faults ++ constant_faults (with_constants env before.constants) c f;
}

abbrev pub read_member : Environment → ℕ → Member → Reading → Reading
read_member env c (member.Field f) before = if is_static f.mods then read_constant env c f before else before
read_member env c _ before = before

unfoldable pub read_members : Environment → ℕ → List Member → Reading → Reading
read_members env c [] before = before
read_members env c (m ∷ ms) before = read_members env c ms (read_member env c m before)

-- the constants of the classes from number c on
unfoldable pub read_classes : Environment → ℕ → List ClassTree → Reading → Reading
read_classes env c [] before = before
read_classes env c (k ∷ ks) before = read_classes env (suc c) ks (read_members env c k.members before)
