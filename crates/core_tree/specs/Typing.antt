-- Which types the parts of a node must have (JLS 15, 14). A node is read by its parts' types; names are gone, so all is
-- said of numbers and types.
use Rattle.std.specs.Prelude.{ℕ, ℤ, Bool, true, false, not, ◌&&◌, ◌||◌, ◌==◌, if◌then◌else◌, List, [], ◌∷◌, length, Option, Some, None, option_map, option_and_then, slice_get, is_some}
use Rattle.std.specs.Option.{option_map_or}
use Rattle.std.specs.List.{list_all}
use Rattle.std.specs.Ordering.{int_eq}
use Rattle.std.specs.Int.{w32, int_wrap}
use Rattle.core_tree.specs.declared.built_in.BuiltIn.TheVariants as built_in
use Rattle.core_tree.specs.declared.ty.Ty.{Ty}
use Rattle.core_tree.specs.declared.ty.Ty.TheVariants as ty
use Rattle.core_tree.specs.declared.ty.Ty.TheViews as type
use Rattle.core_tree.specs.declared.operator.UnOp.{UnOp}
use Rattle.core_tree.specs.declared.operator.UnOp.TheVariants as unary
use Rattle.core_tree.specs.declared.operator.BinOp.{BinOp}
use Rattle.core_tree.specs.declared.operator.BinOp.TheVariants as binary
use Rattle.core_tree.specs.declared.operator.UpOp.{UpOp}
use Rattle.core_tree.specs.declared.operator.UpOp.TheVariants as update
use Rattle.core_tree.specs.declared.expr.Expr.{Expr}
use Rattle.core_tree.specs.declared.expr.Expr.TheOpen.{Expr-F}
use Rattle.core_tree.specs.declared.expr.Expr.TheFolds.{fold-Expr}
use Rattle.core_tree.specs.declared.stmt.Target.{Target}
use Rattle.core_tree.specs.declared.stmt.Target.TheVariants as target
use Rattle.core_tree.specs.declared.stmt.Stmt.{Stmt}
use Rattle.core_tree.specs.declared.stmt.Stmt.TheOpen.{Stmt-F, Catch-F}
use Rattle.core_tree.specs.declared.stmt.Stmt.TheFolds.{fold-Stmt}
use Rattle.core_tree.specs.declared.program.Method.{Method}
use Rattle.core_tree.specs.declared.program.Program.{Program}
use Rattle.core_tree.specs.BuiltIn.{number_of, is_built_in}
use Rattle.core_tree.specs.Types.{is_subclass, elements_of, class_of, is_int, is_boolean, is_string, is_null, is_object, is_assignable, is_same_type, is_value_type}

-- what a body can name: the class of `this`, where it has one, the types of its locals by number, and the type of its
-- result
pub record Scope : Type 0 where
  pub this : Option ℕ
  pub locals : List Ty
  pub answer : Ty

-- the type of a part, or none where the part isn't well typed
abbrev pub PartType : Type 0
PartType = Option Ty

-- ---- what is asked of parts

-- the part has a type that passes the test
abbrev pub has : (Ty → Bool) → PartType → Bool
has test part = option_map_or test part false

-- the part may be assigned to a variable of this type
abbrev pub fits : Program → Ty → PartType → Bool
fits p to part = has (λ from. is_assignable p.classes from to) part

-- there are as many arguments as parameters, and each may be assigned to its parameter
abbrev pub all_fit : Program → List Ty → List PartType → Bool
all_fit p [] [] = true
all_fit p [] (x ∷ xs) = false
all_fit p (t ∷ ts) [] = false
all_fit p (t ∷ ts) (x ∷ xs) = fits p t x && all_fit p ts xs

-- the type, where the test holds
abbrev pub where_true : Bool → Ty → PartType
where_true test t = if test then Some t else None

-- ---- what numbers stand for

-- the number lies in the range of int (JLS 4.2.1)
abbrev pub is_int_number : ℤ → Bool
is_int_number n = int_eq (int_wrap w32 n) n

-- a class at or below Throwable
abbrev pub is_throwable : Program → ℕ → Bool
is_throwable p c = is_subclass p.classes c (number_of built_in.Throwable)

-- the type of the field at a place of a class
abbrev pub field_type : Program → ℕ → ℕ → PartType
field_type p c at = option_and_then (λ class. option_map (λ field. field.ty) (slice_get class.fields at)) (slice_get p.classes c)

-- the number of the method that a selector picks in a class
abbrev pub chosen_number : Program → ℕ → ℕ → Option ℕ
chosen_number p c selector = option_and_then (λ class. option_and_then (λ m. m) (slice_get class.chosen selector)) (slice_get p.classes c)

-- the method that a selector picks in a class
abbrev pub chosen_method : Program → ℕ → ℕ → Option Method
chosen_method p c selector = option_and_then (λ m. slice_get p.methods m) (chosen_number p c selector)

-- ---- expressions

-- a call of a method, where it fits the test, with arguments of these types
abbrev pub call_type : Program → (Method → Bool) → List PartType → Option Method → PartType
call_type p test arguments method = option_and_then (λ m. where_true (test m && all_fit p m.params arguments) m.answer) method

-- a call on an object of class c: selector 0 is `getMessage`, which a Throwable always has
abbrev pub chosen_type : Program → ℕ → List PartType → ℕ → PartType
chosen_type p selector arguments c =
    if selector == 0 && is_throwable p c
    then where_true (all_fit p [] arguments) ty.Text
    else call_type p (λ m. m.on_object) arguments (chosen_method p c selector)

-- a method of a superclass of this class, and of this class itself it is none
abbrev pub is_of_superclass : Program → ℕ → Method → Bool
is_of_superclass p c m = m.on_object && (is_subclass p.classes c m.owner && not (m.owner == c))

-- `+`, `-` and `~` take an int, `!` a boolean (JLS 15.15)
abbrev pub unary_type : UnOp → PartType → PartType
unary_type unary.Not a = where_true (has is_boolean a) ty.Bool
unary_type _ a = where_true (has is_int a) ty.Int

-- two ints
abbrev pub ints : PartType → PartType → Bool
ints a b = has is_int a && has is_int b

-- two booleans
abbrev pub booleans : PartType → PartType → Bool
booleans a b = has is_boolean a && has is_boolean b

-- `&`, `|` and `^` take two ints or two booleans (JLS 15.22)
abbrev pub bitwise_type : PartType → PartType → PartType
bitwise_type a b = if booleans a b then Some ty.Bool else where_true (ints a b) ty.Int

-- `==` and `!=` take two values of which one may be assigned to the other's type, but no two Strings (JLS 15.21)
abbrev pub are_comparable : Program → Ty → Ty → Bool
are_comparable p a b = not (is_string a && is_string b) && (is_assignable p.classes a b || is_assignable p.classes b a)

abbrev pub equality_type : Program → PartType → PartType → PartType
equality_type p (Some a) (Some b) = where_true (are_comparable p a b) ty.Bool
equality_type p _ _ = None

-- the type of an operator's result, given those of its operands (JLS 15.17 to 15.22)
abbrev pub binary_type : Program → BinOp → PartType → PartType → PartType
binary_type p binary.BitAnd a b = bitwise_type a b
binary_type p binary.BitOr a b = bitwise_type a b
binary_type p binary.BitXor a b = bitwise_type a b
binary_type p binary.Eq a b = equality_type p a b
binary_type p binary.Ne a b = equality_type p a b
binary_type p binary.Lt a b = where_true (ints a b) ty.Bool
binary_type p binary.Le a b = where_true (ints a b) ty.Bool
binary_type p binary.Gt a b = where_true (ints a b) ty.Bool
binary_type p binary.Ge a b = where_true (ints a b) ty.Bool
binary_type p _ a b = where_true (ints a b) ty.Int

-- the wider of two types, one of which may be assigned to the other
abbrev pub wider : Program → PartType → PartType → PartType
wider p (Some a) (Some b) =
    if is_assignable p.classes a b then Some b
    else where_true (is_assignable p.classes b a) a
wider p _ _ = None

-- `(T) e` and `e instanceof T` take an object or null, T being a class or array type, of which one may be assigned to
-- the other (JLS 15.16, 15.20.2)
abbrev pub is_castable : Program → Ty → Ty → Bool
is_castable p to from =
    (is_object to && is_value_type (length p.classes) to)
    && ((is_object from || is_null from) && (is_assignable p.classes from to || is_assignable p.classes to from))

-- a value that has a text: all but objects
abbrev pub has_text : PartType → Bool
has_text part = has (λ t. is_string t || (is_int t || (is_boolean t || is_null t))) part

-- a String or null, as a constant of type String may be
abbrev pub is_text_or_null : Ty → Bool
is_text_or_null t = is_string t || is_null t

-- the type of an expression, given those of its parts; none where it isn't well typed
abbrev pub expr_node : Program → Scope → Expr-F PartType → PartType
-- a literal; a number lies in the range of int
expr_node p s (Expr-F.Int n) = where_true (is_int_number n) ty.Int
expr_node p s (Expr-F.Bool b) = Some ty.Bool
expr_node p s (Expr-F.Text characters) = Some ty.Text
expr_node p s Expr-F.Null = Some ty.Null
-- `this` has the class of the body
expr_node p s Expr-F.This = option_map ty.Class s.this
-- a local of the body
expr_node p s (Expr-F.Local at) = slice_get s.locals at
-- a field of the object's class
expr_node p s (Expr-F.Field object at) = option_and_then (λ c. field_type p c at) (option_and_then class_of object)
-- the length of an array
expr_node p s (Expr-F.Length array) = option_and_then (λ e. Some ty.Int) (option_and_then elements_of array)
-- an array and an int index
expr_node p s (Expr-F.Element array index) = if has is_int index then option_and_then elements_of array else None
-- a String or null
expr_node p s (Expr-F.TextLength text) = where_true (has is_text_or_null text) ty.Int
-- two values that are Strings or null
expr_node p s (Expr-F.TextEquals a b) = where_true (has is_text_or_null a && fits p ty.Text b) ty.Bool
-- an object of a class at or below Throwable
expr_node p s (Expr-F.Message object) = where_true (option_map_or (is_throwable p) (option_and_then class_of object) false) ty.Text
-- a method that is on no object
expr_node p s (Expr-F.Static m arguments site) = call_type p (λ method. not method.on_object) arguments (slice_get p.methods m)
-- a method that the selector picks in the object's class
expr_node p s (Expr-F.Chosen object selector arguments site) = option_and_then (chosen_type p selector arguments) (option_and_then class_of object)
-- a method on an object, of a superclass of the class of the body
expr_node p s (Expr-F.Super m arguments site) = option_and_then (λ c. call_type p (is_of_superclass p c) arguments (slice_get p.methods m)) s.this
-- a constructor of the file, with its arguments
expr_node p s (Expr-F.New k arguments) = option_and_then (λ maker. where_true (all_fit p maker.params arguments) (ty.Class maker.owner)) (slice_get p.makers k)
-- a built-in class; one with a message isn't Object
expr_node p s (Expr-F.NewBuilt c message) =
    where_true (is_built_in c && option_map_or (λ text. not (c == 0) && fits p ty.Text text) message true) (ty.Class c)
-- an int; the elements have a type that elements may have
expr_node p s (Expr-F.NewArray elements size) = where_true (has is_int size && is_value_type (length p.classes) elements) (type.Array elements)
expr_node p s (Expr-F.Unary op a) = unary_type op a
expr_node p s (Expr-F.Binary op a b) = binary_type p op a b
expr_node p s (Expr-F.And a b) = where_true (booleans a b) ty.Bool
expr_node p s (Expr-F.Or a b) = where_true (booleans a b) ty.Bool
expr_node p s (Expr-F.Cond test a b) = if has is_boolean test then wider p a b else None
expr_node p s (Expr-F.Cast to from) = where_true (has (is_castable p to) from) to
expr_node p s (Expr-F.Is to from) = where_true (has (is_castable p to) from) ty.Bool
-- two values that have a text, one of them a String or null
expr_node p s (Expr-F.Concat a b) = where_true ((has_text a && has_text b) && (has is_text_or_null a || has is_text_or_null b)) ty.Text

-- the type of an expression in a scope; none where it isn't well typed
unfoldable pub type_of : Program → Scope → Expr → PartType
type_of p s = fold-Expr PartType (expr_node p s)

-- ---- statements

-- the type of the variable that an assignment writes to
abbrev pub target_type : Program → Scope → Target → PartType
target_type p s (target.Local at) = expr_node p s (Expr-F.Local at)
target_type p s (target.Field object at) = expr_node p s (Expr-F.Field (type_of p s object) at)
target_type p s (target.Element array index) = expr_node p s (Expr-F.Element (type_of p s array) (type_of p s index))

-- the other operand of a compound assignment: an expression, or the number 1
abbrev pub operand_type : Program → Scope → Option Expr → PartType
operand_type p s e = option_map_or (type_of p s) e (Some ty.Int)

-- the operator of a compound assignment takes a variable and an operand of these types (JLS 15.26.2)
abbrev pub is_update : UpOp → PartType → PartType → Bool
is_update update.BitAnd a b = ints a b || booleans a b
is_update update.BitOr a b = ints a b || booleans a b
is_update update.BitXor a b = ints a b || booleans a b
is_update update.Concat a b = has is_string a && has_text b
is_update _ a b = ints a b

-- an operator of which 1 may be the other operand, as in `i++` and `i--` (JLS 15.14.2)
abbrev pub is_counting : UpOp → Bool
is_counting update.Add = true
is_counting update.Sub = true
is_counting _ = false

-- where there is an expression, its type passes the test
abbrev pub if_there : Program → Scope → (PartType → Bool) → Option Expr → Bool
if_there p s test e = option_map_or (λ it. test (type_of p s it)) e true

-- whether a statement is well typed, inside a loop or not
abbrev pub InLoop : Type 0
InLoop = Bool → Bool

abbrev pub all_of : List InLoop → InLoop
all_of [] inside = true
all_of (s ∷ ss) inside = s inside && all_of ss inside

-- the condition of a loop or an `if` is a boolean
abbrev pub is_condition : Program → Scope → Expr → Bool
is_condition p s e = has is_boolean (type_of p s e)

-- whether a statement is well typed, given the same of its parts
abbrev pub stmt_node : Program → Scope → Stmt-F InLoop InLoop → InLoop
stmt_node p s Stmt-F.Empty inside = true
stmt_node p s (Stmt-F.Block all) inside = all_of all inside
-- the local has that type, and its initialiser fits it
stmt_node p s (Stmt-F.Declare at t e) inside = has (is_same_type t) (slice_get s.locals at) && if_there p s (fits p t) e
-- the value fits the variable
stmt_node p s (Stmt-F.Assign to e) inside = option_map_or (λ t. fits p t (type_of p s e)) (target_type p s to) false
-- the operand fits the operator; only one that counts may have none
stmt_node p s (Stmt-F.Update to op e) inside = is_update op (target_type p s to) (operand_type p s e) && (is_some e || is_counting op)
-- an expression of any type, also a call without a result
stmt_node p s (Stmt-F.Eval e) inside = is_some (type_of p s e)
-- a value that has a text; only a print that ends a line may have none
stmt_node p s (Stmt-F.Print line e) inside = if_there p s has_text e && (line || is_some e)
stmt_node p s (Stmt-F.If test body other) inside = is_condition p s test && (body inside && option_map_or (λ it. it inside) other true)
stmt_node p s (Stmt-F.While test body) inside = is_condition p s test && body true
stmt_node p s (Stmt-F.DoWhile body test) inside = body true && is_condition p s test
stmt_node p s (Stmt-F.For first test updates body) inside =
    all_of first inside && (option_map_or (is_condition p s) test true && (all_of updates inside && body true))
-- a value that fits the result, or none where the body has no result
stmt_node p s (Stmt-F.Return e) inside = option_map_or (λ it. fits p s.answer (type_of p s it)) e (is_same_type s.answer ty.Void)
-- a jump is inside a loop
stmt_node p s Stmt-F.Break inside = inside
stmt_node p s Stmt-F.Continue inside = inside
-- a Throwable or null
stmt_node p s (Stmt-F.Throw e) inside = fits p (ty.Class (number_of built_in.Throwable)) (type_of p s e)
stmt_node p s (Stmt-F.Try body catches last) inside = body inside && (all_of catches inside && option_map_or (λ it. it inside) last true)

-- a `catch` takes a class at or below Throwable, and its local has that class
abbrev pub catch_node : Program → Scope → Catch-F InLoop InLoop → InLoop
catch_node p s c inside =
    is_throwable p c.class && (has (is_same_type (ty.Class c.class)) (slice_get s.locals c.slot) && c.body inside)

-- a statement is well typed in a scope, inside a loop or not
unfoldable pub is_typed_stmt : Program → Scope → Stmt → InLoop
is_typed_stmt p s = fold-Stmt InLoop InLoop (stmt_node p s) (catch_node p s)

-- a body is well typed: each of its statements is, outside loops
abbrev pub is_typed_body : Program → Scope → List Stmt → Bool
is_typed_body p s body = list_all (λ stmt. is_typed_stmt p s stmt false) body
