-- What a file's symbols say is true of its program.
use Rattle.std.specs.Prelude.{◌≡◌, ℕ, Bool, true, false, not, ◌||◌, ◌&&◌, ◌==◌, nat_lt, IsTrue, List, [], ◌∷◌, length, Some, None, slice_get, unwrap_or, ◌⊎◌}
use Rattle.std.specs.List.{list_all}
use Rattle.core_tree.specs.declared.ty.Ty.{Ty}
use Rattle.core_tree.specs.declared.ty.Ty.TheVariants as ty
use Rattle.core_tree.specs.declared.program.Method.{Method}
use Rattle.core_tree.specs.declared.program.Maker.{Maker}
use Rattle.core_tree.specs.declared.program.Program.{Program}
use Rattle.core_tree.specs.BuiltIn.{is_built_in}
use Rattle.core_tree.specs.Types.{is_int, is_boolean, is_string, is_void, is_subclass}
use Rattle.core_tree.specs.Typing.{Scope as CoreScope, PartType, all_fit, call_type, chosen_type, field_type, is_int_number, is_of_superclass, is_throwable}
use Rattle.core_tree.specs.WellTyped.{is_value, is_of_file, superclass}
use Rattle.class_table.specs.Names.{Name}
use Rattle.java_names.specs.declared.scope.Scope.{Scope}
use Rattle.java_names.specs.declared.symbol.FieldSymbol.{FieldSymbol}
use Rattle.java_names.specs.declared.symbol.MethodSymbol.{MethodSymbol}
use Rattle.java_names.specs.declared.symbol.MakerSymbol.{MakerSymbol}
use Rattle.java_names.specs.Lookups.{is_below}
use Rattle.java_exprs.specs.declared.environment.Environment.{Environment}
use Rattle.primitive_operators.specs.declared.scalar.Scalar.{Scalar}
use Rattle.primitive_operators.specs.declared.scalar.Scalar.TheVariants as scalar
use Rattle.java_exprs.specs.Lookups.{superclass_of, member_of, method_of, maker_of, class_named, constant_at, local_named}

-- a literal is of a type; null is a String
abbrev pub is_literal_of : Scalar → Ty → Bool
is_literal_of (scalar.Int n) t = is_int t && is_int_number n
is_literal_of (scalar.Bool b) t = is_boolean t
is_literal_of (scalar.Text text) t = is_string t
is_literal_of scalar.Null t = is_string t

-- a field or constant of class c
pub record AgreesOnField (env : Environment) (p : Program) (c : ℕ) (m : FieldSymbol) : Type 0 where
  pub value : IsTrue (is_value p m.ty)
  -- an instance field is that field of the class
  pub field : (place : ℕ) → m.place ≡ Some place → field_type p c place ≡ Some m.ty
  -- a constant has a value of its type
  pub constant : m.place ≡ None → (v : Scalar) × (constant_at env m.at ≡ Some v) × IsTrue (is_literal_of v m.ty)

-- a static method that is called by its number
pub record AgreesOnStatic (p : Program) (m : MethodSymbol) : Type 0 where
  pub method : Method
  pub found : slice_get p.methods (unwrap_or m.number 0) ≡ Some method
  pub static : method.on_object ≡ false
  pub params : method.params ≡ m.params
  pub answer : method.answer ≡ m.answer

-- a method that is looked up in class c by its name and number of parameters
pub record AgreesOnMethod (p : Program) (c : ℕ) (arity : ℕ) (m : MethodSymbol) : Type 0 where
  pub same_arity : length m.params ≡ arity
  pub params : IsTrue (list_all (is_value p) m.params)
  pub answer : IsTrue (is_value p m.answer || is_void m.answer)
  pub static : m.is_static ≡ true → AgreesOnStatic p m
  -- its selector picks it, or one that overrides it, in the class
  pub chosen : m.is_static ≡ false → (arguments : List PartType) → IsTrue (all_fit p m.params arguments) → chosen_type p (unwrap_or m.selector 0) arguments c ≡ Some m.answer

-- an instance method that is found in the superclass of class c
pub record AgreesOnSuper (p : Program) (c : ℕ) (m : MethodSymbol) : Type 0 where
  pub of_file : (number : ℕ) → m.number ≡ Some number → (arguments : List PartType) → IsTrue (all_fit p m.params arguments) → call_type p (is_of_superclass p c) arguments (slice_get p.methods number) ≡ Some m.answer
  -- `getMessage` of Throwable
  pub built_in : m.number ≡ None → IsTrue (is_throwable p c) × (m.answer ≡ ty.Text)

-- a constructor of class c
pub record AgreesOnMaker (p : Program) (c : ℕ) (arity : ℕ) (m : MakerSymbol) : Type 0 where
  pub same_arity : length m.params ≡ arity
  pub params : IsTrue (list_all (is_value p) m.params)
  pub of_file : (number : ℕ) → m.number ≡ Some number → (maker : Maker) × (slice_get p.makers number ≡ Some maker) × (maker.params ≡ m.params) × (maker.owner ≡ c)
  -- one of a built-in class has no parameter, or the message
  pub built_in : m.number ≡ None → IsTrue (is_built_in c) × ((m.params ≡ []) ⊎ ((m.params ≡ ty.Text ∷ []) × IsTrue (not (c == 0))))

-- superclasses, methods and constructors are so in the program
pub record AgreesOnCalls (env : Environment) (p : Program) : Type 0 where
  pub below : (c d : ℕ) → is_below env.symbols c d ≡ is_subclass p.classes c d
  pub superclass : (c : ℕ) → superclass_of env c ≡ superclass p c
  pub class : (x : Name) (c : ℕ) → class_named env x ≡ Some c → IsTrue (nat_lt c (length p.classes))
  pub method : (c : ℕ) (x : Name) (arity : ℕ) (m : MethodSymbol) → method_of env c x arity ≡ Some m → AgreesOnMethod p c arity m
  pub super : (c b : ℕ) (x : Name) (arity : ℕ) (m : MethodSymbol) → superclass_of env c ≡ Some b → method_of env b x arity ≡ Some m → m.is_static ≡ false → AgreesOnSuper p c m
  pub maker : (c : ℕ) (arity : ℕ) (m : MakerSymbol) → maker_of env c arity ≡ Some m → AgreesOnMaker p c arity m

-- what is looked up in an environment is so in the program
pub record Agrees (env : Environment) (p : Program) : Type 0 where
  pub calls : AgreesOnCalls env p
  pub open calls use *
  pub field : (c : ℕ) (x : Name) (m : FieldSymbol) → member_of env c x ≡ Some m → AgreesOnField env p c m

-- a local in scope is a local of the body, of a type that variables have
pub record AgreesOnLocal (p : Program) (s : Scope) (core : CoreScope) (n : ℕ) : Type 0 where
  pub type : Ty
  pub slot : slice_get s.slots n ≡ Some type
  pub found : slice_get core.locals n ≡ Some type
  pub value : IsTrue (is_value p type)

-- what is in scope can be named in the body
pub record AgreesOnScope (env : Environment) (p : Program) (s : Scope) (core : CoreScope) : Type 0 where
  pub class : IsTrue (nat_lt s.class (length p.classes))
  pub superclass : (b : ℕ) × (superclass_of env s.class ≡ Some b)
  pub this : s.is_static ≡ false → core.this ≡ Some s.class
  pub local : (x : Name) (n : ℕ) → local_named s x ≡ Some n → AgreesOnLocal p s core n

-- a class of the file
pub record IsOfFile (env : Environment) (p : Program) (c : ℕ) : Type 0 where
  pub of_file : IsTrue (is_of_file p c)
  pub within : IsTrue (nat_lt c (length p.classes))
  pub superclass : (b : ℕ) × (superclass_of env c ≡ Some b)
