-- Which rules a node of an expression breaks, and where: for each rule the places at which the node breaks it, given
-- what is known of its parts. What a part breaks by where it stands is in `Attr`.
use Rattle.std.specs.Prelude.{ℕ, Bool, true, false, not, ◌||◌, ◌&&◌, ◌==◌, nat_le, List, [], ◌∷◌, ◌++◌, length, Option, Some, None, is_some, is_none, if◌then◌else◌}
use Rattle.std.specs.Option.{option_map_or}
use Rattle.core_tree.specs.declared.ty.Ty.{Ty}
use Rattle.core_tree.specs.declared.ty.Ty.TheVariants as ty
use Rattle.core_tree.specs.Types.{is_int, is_boolean, is_string, is_null, is_void, is_object, is_array}
use Rattle.token_reading.specs.declared.fault.Fault.{Fault}
use Rattle.token_reading.specs.declared.name.Ident.{Ident}
use Rattle.java_syntax.specs.declared.operator.UnaryOp.{UnaryOp}
use Rattle.java_syntax.specs.declared.operator.UnaryOp.TheVariants as unary
use Rattle.java_syntax.specs.declared.operator.BinaryOp.{BinaryOp}
use Rattle.java_syntax.specs.declared.operator.BinaryOp.TheVariants as binary
use Rattle.java_syntax.specs.declared.expression.Expr.TheOpen.{Expr-F}
use Rattle.class_table.specs.Names.{Name, same_name}
use Rattle.java_names.specs.declared.scope.Scope.{Scope}
use Rattle.java_names.specs.declared.symbol.MethodSymbol.{MethodSymbol}
use Rattle.java_names.specs.Lookups.{is_accessible}
use Rattle.java_exprs.specs.declared.environment.Environment.{Environment}
use Rattle.java_denotes.specs.declared.denotation.Denotation.{Denotation}
use Rattle.java_denotes.specs.declared.denotation.Denotation.TheVariants as denotes
use Rattle.java_denotes.specs.declared.through.Through.{Through}
use Rattle.java_denotes.specs.declared.through.Through.TheVariants as through
use Rattle.java_denotes.specs.Types.{is_assignable, is_either_way}
use Rattle.java_exprs.specs.Attr.{Attr, Node, unless, only_if, of_rule, value_faults, values_faults, negated_faults, prefix_faults}
use Rattle.java_denotes.specs.Members.{value_type, called_method, named_member}
use Rattle.java_exprs.specs.Members.{Naming, Calling, naming, calling}
use Rattle.java_denotes.specs.Library.{system_name, is_print, println_name, out_name, length_name, equals_name}
use Rattle.java_exprs.specs.Lookups.{member_of, has_method, method_of, class_named, local_named, maker_of, unknown_type, unknown_base, type_named}

-- ---- what is asked of parts

-- a value of a type that passes the test; nothing is asked where its type is unknown
abbrev pub wants : (Ty → Bool) → Attr → List ℕ
wants test e = option_map_or (λ t. unless (test t) e.at) (value_type e.denotes) []

-- a value that can be assigned to a variable of this type; nothing is asked where the type has an unknown name
abbrev pub wants_type : Environment → Ty → Attr → List ℕ
wants_type env want e = if is_void want then [] else wants (λ from. is_assignable env.symbols from want) e

-- each argument fits its parameter
abbrev pub wants_each : Environment → List Attr → List Ty → List ℕ
wants_each env [] params = []
wants_each env (e ∷ es) [] = []
wants_each env (e ∷ es) (p ∷ ps) = wants_type env p e ++ wants_each env es ps

-- what is asked of the types of two parts, where both are known
abbrev pub of_types : (Ty → Ty → List ℕ) → Attr → Attr → List ℕ
of_types ask l r = option_map_or (λ a. option_map_or (λ b. ask a b) (value_type r.denotes) []) (value_type l.denotes) []

-- int, boolean and null have no members
abbrev pub has_members : Ty → Bool
has_members t = is_object t || is_string t

-- a type that a print shows
abbrev pub is_printed : Ty → Bool
is_printed t = is_int t || (is_boolean t || is_string t)

-- ---- fields and methods, through `this`, `super`, a class or an object

abbrev pub method_at : Environment → Calling → Option MethodSymbol
method_at env k = called_method env.symbols k

abbrev pub is_behind_class : Through → Bool
is_behind_class through.Class = true
is_behind_class _ = false

-- `super.m()` is a call on an object
abbrev pub is_on_object : Through → Bool
is_on_object through.Super = true
is_on_object through.Object = true
is_on_object _ = false

-- a name alone, or one after a class, has no object but `this`
abbrev pub needs_this : Through → Bool
needs_this through.This = true
needs_this through.Class = true
needs_this _ = false

-- ---- 10: a name is unknown

-- a name before a dot may be one of the library's
abbrev pub field_10 : Ident → Option Denotation → List ℕ
field_10 f (Some denotes.System) = unless (same_name f.name out_name) f.at
field_10 f (Some denotes.Output) = f.at ∷ []
field_10 f (Some (denotes.Value t)) = unless (not (has_members t) || (is_array t && same_name f.name length_name)) f.at
field_10 f _ = []

abbrev pub is_text_method : Name → Bool
is_text_method m = same_name m equals_name || same_name m length_name

abbrev pub method_10 : Ident → Option Denotation → List ℕ
method_10 m (Some denotes.System) = m.at ∷ []
method_10 m (Some denotes.Output) = unless (is_print m.name) m.at
method_10 m (Some (denotes.Value t)) = unless (not (has_members t) || (is_string t && is_text_method m.name)) m.at
method_10 m _ = []

abbrev pub naming_10 : Environment → Naming → List ℕ
naming_10 env k = unless (is_some (named_member env.symbols k)) k.name.at

abbrev pub calling_10 : Environment → Calling → List ℕ
calling_10 env k = unless (has_method env k.class k.name.name) k.name.at

-- a local, a field or constant, a class, or `System`
abbrev pub is_known : Environment → Scope → Name → Bool
is_known env s x = is_some (local_named s x) || (is_some (member_of env s.class x) || (is_some (class_named env x) || same_name x system_name))

abbrev pub rule_10 : Environment → Scope → Node → List ℕ
rule_10 env s (Expr-F.Name x) = unless (is_known env s x.name) x.at
rule_10 env s (Expr-F.Call m xs) = option_map_or (calling_10 env) (calling env s (Expr-F.Call m xs)) []
rule_10 env s (Expr-F.Super at m xs) = option_map_or (calling_10 env) (calling env s (Expr-F.Super at m xs)) []
rule_10 env s (Expr-F.New at c xs) = unless (is_some (class_named env c.name)) c.at
rule_10 env s (Expr-F.NewArray at base e dimensions) = unknown_base env base
rule_10 env s (Expr-F.Field o f) = option_map_or (naming_10 env) (naming env s (Expr-F.Field o f)) (field_10 f o.denotes)
rule_10 env s (Expr-F.Method o m xs) = option_map_or (calling_10 env) (calling env s (Expr-F.Method o m xs)) (method_10 m o.denotes)
rule_10 env s (Expr-F.Cast at t e) = unknown_type env t
rule_10 env s (Expr-F.InstanceOf e t) = unknown_type env t
rule_10 env s _ = []

-- ---- 11: a type doesn't fit

-- an instance field named through a class
abbrev pub naming_11 : Environment → Naming → List ℕ
naming_11 env k = only_if (is_behind_class k.through && option_map_or (λ m. is_some m.place) (named_member env.symbols k) false) k.name.at

-- an instance method after a class, or a static one on an object
abbrev pub is_misplaced : Through → MethodSymbol → Bool
is_misplaced through m = (is_behind_class through && not m.is_static) || (is_on_object through && m.is_static)

abbrev pub calling_11 : Environment → Calling → List ℕ
calling_11 env k = option_map_or (λ m. only_if (is_misplaced k.through m) k.name.at ++ wants_each env k.arguments m.params) (method_at env k) []

-- an int, a boolean or null before a dot
abbrev pub prefix_11 : Attr → List ℕ
prefix_11 o = wants has_members o

-- what a print shows, and what a String is compared with
abbrev pub library_11 : Environment → Attr → Ident → List Attr → Option Denotation → List ℕ
library_11 env o m (x ∷ []) (Some denotes.Output) = if is_print m.name then wants is_printed x else []
library_11 env o m (x ∷ []) (Some (denotes.Value t)) = if is_string t && same_name m.name equals_name then wants_type env ty.Text x else prefix_11 o
library_11 env o m xs d = prefix_11 o

abbrev pub new_11 : Environment → List Attr → ℕ → List ℕ
new_11 env xs class = option_map_or (λ m. wants_each env xs m.params) (maker_of env class (length xs)) []

abbrev pub unary_11 : UnaryOp → Attr → List ℕ
unary_11 unary.Not e = wants is_boolean e
unary_11 _ e = wants is_int e

abbrev pub both_11 : (Ty → Bool) → Attr → Attr → List ℕ
both_11 test l r = wants test l ++ wants test r

-- an int or a boolean, and the same after it
abbrev pub is_bitwise : Ty → Bool
is_bitwise t = is_int t || is_boolean t

abbrev pub fits_bitwise : Option Ty → Ty → Bool
fits_bitwise (Some a) b = if is_int a then is_int b else (if is_boolean a then is_boolean b else is_bitwise b)
fits_bitwise None b = is_bitwise b

abbrev pub bitwise_11 : Attr → Attr → List ℕ
bitwise_11 l r = wants is_bitwise l ++ wants (fits_bitwise (value_type l.denotes)) r

-- two values of which one can be assigned to the other's type; Strings are for rule 16
abbrev pub equality_11 : Environment → Attr → Attr → List ℕ
equality_11 env l r = of_types (λ a b. unless (is_string a || (is_string b || is_either_way env.symbols a b)) l.at) l r

-- two ints, or a String and another value
abbrev pub sum_11 : Attr → Attr → List ℕ
sum_11 l r = of_types (λ a b. if is_string a || is_string b then [] else both_11 is_int l r) l r

abbrev pub binary_11 : Environment → BinaryOp → Attr → Attr → List ℕ
binary_11 env binary.Or l r = both_11 is_boolean l r
binary_11 env binary.And l r = both_11 is_boolean l r
binary_11 env binary.BitOr l r = bitwise_11 l r
binary_11 env binary.BitXor l r = bitwise_11 l r
binary_11 env binary.BitAnd l r = bitwise_11 l r
binary_11 env binary.Equal l r = equality_11 env l r
binary_11 env binary.NotEqual l r = equality_11 env l r
binary_11 env binary.Add l r = sum_11 l r
binary_11 env _ l r = both_11 is_int l r

-- a boolean before `?`; and the third operand, where neither it nor the second can be assigned to the other's type
abbrev pub choice_11 : Environment → Attr → Attr → Attr → List ℕ
choice_11 env c a b = wants is_boolean c ++ of_types (λ t u. unless (is_either_way env.symbols t u) b.at) a b

abbrev pub rule_11 : Environment → Scope → Node → List ℕ
rule_11 env s (Expr-F.Call m xs) = option_map_or (calling_11 env) (calling env s (Expr-F.Call m xs)) []
rule_11 env s (Expr-F.Super at m xs) = option_map_or (calling_11 env) (calling env s (Expr-F.Super at m xs)) []
rule_11 env s (Expr-F.New at c xs) = option_map_or (new_11 env xs) (class_named env c.name) []
rule_11 env s (Expr-F.NewArray at base e dimensions) = wants is_int e
rule_11 env s (Expr-F.Field o f) = option_map_or (naming_11 env) (naming env s (Expr-F.Field o f)) (prefix_11 o)
rule_11 env s (Expr-F.Method o m xs) = option_map_or (calling_11 env) (calling env s (Expr-F.Method o m xs)) (library_11 env o m xs o.denotes)
rule_11 env s (Expr-F.Element a i) = wants is_array a ++ wants is_int i
rule_11 env s (Expr-F.Unary at op e) = unary_11 op e
rule_11 env s (Expr-F.Binary op l r) = binary_11 env op l r
rule_11 env s (Expr-F.InstanceOf e t) = option_map_or (λ to. unless (is_object to || is_string to) e.at) (type_named env t) []
rule_11 env s (Expr-F.Conditional c a b) = choice_11 env c a b
rule_11 env s _ = []

-- ---- 12: a method or constructor of that name exists, and none with this number of arguments

abbrev pub calling_12 : Environment → Calling → List ℕ
calling_12 env k = only_if (has_method env k.class k.name.name && is_none (method_at env k)) k.name.at

-- `println` takes at most one argument, `print` one
abbrev pub print_12 : Ident → List Attr → List ℕ
print_12 m [] = unless (same_name m.name println_name) m.at
print_12 m (x ∷ []) = []
print_12 m (x ∷ y ∷ xs) = m.at ∷ []

abbrev pub text_12 : Ident → List Attr → List ℕ
text_12 m xs = if same_name m.name equals_name then unless (length xs == 1) m.at else (if same_name m.name length_name then unless (length xs == 0) m.at else [])

abbrev pub library_12 : Ident → List Attr → Option Denotation → List ℕ
library_12 m xs (Some denotes.Output) = if is_print m.name then print_12 m xs else []
library_12 m xs (Some (denotes.Value t)) = if is_string t then text_12 m xs else []
library_12 m xs _ = []

abbrev pub rule_12 : Environment → Scope → Node → List ℕ
rule_12 env s (Expr-F.Call m xs) = option_map_or (calling_12 env) (calling env s (Expr-F.Call m xs)) []
rule_12 env s (Expr-F.Super at m xs) = option_map_or (calling_12 env) (calling env s (Expr-F.Super at m xs)) []
rule_12 env s (Expr-F.Method o m xs) = option_map_or (calling_12 env) (calling env s (Expr-F.Method o m xs)) (library_12 m xs o.denotes)
rule_12 env s (Expr-F.New at c xs) = option_map_or (λ class. unless (is_some (maker_of env class (length xs))) c.at) (class_named env c.name) []
rule_12 env s _ = []

-- ---- 13: a private member is named outside its class

abbrev pub naming_13 : Environment → Scope → Naming → List ℕ
naming_13 env s k = option_map_or (λ m. unless (is_accessible s.class m.owner m.is_private) k.name.at) (named_member env.symbols k) []

abbrev pub calling_13 : Environment → Scope → Calling → List ℕ
calling_13 env s k = option_map_or (λ m. unless (is_accessible s.class m.owner m.is_private) k.name.at) (method_at env k) []

abbrev pub new_13 : Environment → Scope → Ident → List Attr → ℕ → List ℕ
new_13 env s c xs class = option_map_or (λ m. unless (is_accessible s.class class m.is_private) c.at) (maker_of env class (length xs)) []

abbrev pub rule_13 : Environment → Scope → Node → List ℕ
rule_13 env s (Expr-F.Name x) = option_map_or (naming_13 env s) (naming env s (Expr-F.Name x)) []
rule_13 env s (Expr-F.Field o f) = option_map_or (naming_13 env s) (naming env s (Expr-F.Field o f)) []
rule_13 env s (Expr-F.Call m xs) = option_map_or (calling_13 env s) (calling env s (Expr-F.Call m xs)) []
rule_13 env s (Expr-F.Super at m xs) = option_map_or (calling_13 env s) (calling env s (Expr-F.Super at m xs)) []
rule_13 env s (Expr-F.Method o m xs) = option_map_or (calling_13 env s) (calling env s (Expr-F.Method o m xs)) []
rule_13 env s (Expr-F.New at c xs) = option_map_or (new_13 env s c xs) (class_named env c.name) []
rule_13 env s _ = []

-- ---- 14: `this`, `super` or an instance member in a static method or constant

abbrev pub naming_14 : Environment → Scope → Naming → List ℕ
naming_14 env s k = only_if (s.is_static && (needs_this k.through && option_map_or (λ m. is_some m.place) (named_member env.symbols k) false)) k.name.at

abbrev pub calling_14 : Environment → Scope → Calling → List ℕ
calling_14 env s k = only_if (s.is_static && (needs_this k.through && option_map_or (λ m. not m.is_static) (method_at env k) false)) k.name.at

abbrev pub rule_14 : Environment → Scope → Node → List ℕ
rule_14 env s (Expr-F.This at) = only_if s.is_static at
rule_14 env s (Expr-F.Super at m xs) = only_if s.is_static at
rule_14 env s (Expr-F.Name x) = option_map_or (naming_14 env s) (naming env s (Expr-F.Name x)) []
rule_14 env s (Expr-F.Field o f) = option_map_or (naming_14 env s) (naming env s (Expr-F.Field o f)) []
rule_14 env s (Expr-F.Call m xs) = option_map_or (calling_14 env s) (calling env s (Expr-F.Call m xs)) []
rule_14 env s (Expr-F.Method o m xs) = option_map_or (calling_14 env s) (calling env s (Expr-F.Method o m xs)) []
rule_14 env s _ = []

-- ---- 15: a cast or `instanceof` between types neither of which is assignable to the other, or to a type of no objects, as String

abbrev pub cast_15 : Environment → ℕ → Option Ty → Attr → List ℕ
cast_15 env at to e =
    option_map_or (λ t. if is_object t then option_map_or (λ from. unless (is_either_way env.symbols from t) at) (value_type e.denotes) [] else at ∷ []) to []

abbrev pub rule_15 : Environment → Node → List ℕ
rule_15 env (Expr-F.Cast at t e) = cast_15 env at (type_named env t) e
rule_15 env (Expr-F.InstanceOf e t) = cast_15 env e.at (type_named env t) e
rule_15 env _ = []

-- ---- 16: `==` or `!=` with a String and something other than `null`

abbrev pub equality_16 : Attr → Attr → List ℕ
equality_16 l r = of_types (λ a b. only_if ((is_string a && not (is_null b)) || (is_string b && not (is_null a))) l.at) l r

abbrev pub rule_16 : Node → List ℕ
rule_16 (Expr-F.Binary binary.Equal l r) = equality_16 l r
rule_16 (Expr-F.Binary binary.NotEqual l r) = equality_16 l r
rule_16 _ = []

-- ---- 19: a number greater than 2147483648; what stands before the number 2147483648 is asked in `Attr`

abbrev pub rule_19 : Node → List ℕ
rule_19 (Expr-F.Number at n) = unless (nat_le n 2_147_483_648) at
rule_19 _ = []

-- ---- 21: `+` with a String and an instance or array

abbrev pub sum_21 : Attr → Attr → List ℕ
sum_21 l r = of_types (λ a b. only_if ((is_string a && is_object b) || (is_object a && is_string b)) l.at) l r

abbrev pub rule_21 : Node → List ℕ
rule_21 (Expr-F.Binary binary.Add l r) = sum_21 l r
rule_21 _ = []

-- ---- all that is broken

-- what is broken in the parts, and by the parts where they stand
abbrev pub broken_below : Node → List Fault
broken_below (Expr-F.Call m xs) = values_faults xs
broken_below (Expr-F.Paren at e) = value_faults e
broken_below (Expr-F.Super at m xs) = values_faults xs
broken_below (Expr-F.New at c xs) = values_faults xs
broken_below (Expr-F.NewArray at base e dimensions) = value_faults e
broken_below (Expr-F.Field o f) = prefix_faults o
broken_below (Expr-F.Method o m xs) = prefix_faults o ++ values_faults xs
broken_below (Expr-F.Element a i) = value_faults a ++ value_faults i
broken_below (Expr-F.Unary at unary.Minus e) = negated_faults e
broken_below (Expr-F.Unary at _ e) = value_faults e
broken_below (Expr-F.Cast at t e) = value_faults e
broken_below (Expr-F.Binary op l r) = value_faults l ++ value_faults r
broken_below (Expr-F.InstanceOf e t) = value_faults e
broken_below (Expr-F.Conditional c a b) = value_faults c ++ (value_faults a ++ value_faults b)
broken_below _ = []

-- what the node itself breaks
abbrev pub broken_here : Environment → Scope → Node → List Fault
broken_here env s n =
    of_rule 10 (rule_10 env s n) (of_rule 11 (rule_11 env s n) (of_rule 12 (rule_12 env s n) (of_rule 13 (rule_13 env s n)
    (of_rule 14 (rule_14 env s n) (of_rule 15 (rule_15 env n) (of_rule 16 (rule_16 n) (of_rule 19 (rule_19 n) (of_rule 21 (rule_21 n) []))))))))
