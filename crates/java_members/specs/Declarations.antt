-- What the declarations of members break, without their initialisers and bodies.
use Rattle.std.specs.Prelude.{ℕ, Bool, true, false, not, ◌||◌, ◌&&◌, nat_lt, List, [], ◌∷◌, ◌++◌, length, filter, Option}
use Rattle.std.specs.Bool.{beq}
use Rattle.std.specs.List.{list_any, flat_map}
use Rattle.std.specs.Option.{option_map_or}
use Rattle.core_tree.specs.declared.ty.Ty.{Ty}
use Rattle.core_tree.specs.declared.ty.Ty.TheVariants as ty
use Rattle.core_tree.specs.Types.{is_int, is_boolean, is_string}
use Rattle.token_reading.specs.declared.fault.Fault.{Fault}
use Rattle.token_reading.specs.declared.name.TypeTree.{TypeTree}
use Rattle.java_syntax.specs.declared.class.Modifier.{Modifier}
use Rattle.java_syntax.specs.declared.class.Modifier.TheVariants as word
use Rattle.java_syntax.specs.declared.class.Mods.{Mods}
use Rattle.token_reading.specs.declared.name.ParamTree.{ParamTree}
use Rattle.java_syntax.specs.declared.class.FieldTree.{FieldTree}
use Rattle.java_syntax.specs.declared.class.MethodTree.{MethodTree}
use Rattle.java_syntax.specs.declared.class.Member.{Member}
use Rattle.java_syntax.specs.declared.class.Member.TheVariants as member
use Rattle.class_table.specs.Members.{is_static}
use Rattle.java_names.specs.declared.scope.Scope.{Scope}
use Rattle.java_names.specs.Scope.{declared, maker_scope, method_scope}
use Rattle.java_names.specs.Types.{declared_type, answer_type}
use Rattle.java_exprs.specs.declared.environment.Environment.{Environment}
use Rattle.java_exprs.specs.Attr.{unless, only_if, of_rule}
use Rattle.java_exprs.specs.Lookups.{type_named, unknown_type}
use Rattle.java_statements.specs.Statements.{again_10, exception_10, exception_11}

-- ---- 20 (1) to (5): modifiers (JLS 8.3.1, 8.4.3, 8.8.3); at the name

abbrev pub same_word : Modifier → Modifier → Bool
same_word word.Public word.Public = true
same_word word.Protected word.Protected = true
same_word word.Private word.Private = true
same_word word.Static word.Static = true
same_word word.Final word.Final = true
same_word _ _ = false

abbrev pub is_access : Modifier → Bool
is_access word.Public = true
is_access word.Protected = true
is_access word.Private = true
is_access _ = false

abbrev pub is_final_word : Modifier → Bool
is_final_word word.Final = true
is_final_word _ = false

abbrev pub is_final : Mods → Bool
is_final mods = list_any is_final_word mods.words

-- (4) a word that stands twice
abbrev pub has_repeated : List Modifier → Bool
has_repeated [] = false
has_repeated (w ∷ more) = list_any (same_word w) more || has_repeated more

-- (5) two words of access
abbrev pub has_two_accesses : List Modifier → Bool
has_two_accesses words = nat_lt 1 (length (filter is_access words))

abbrev pub words_20 : Mods → ℕ → List ℕ
words_20 mods at = only_if (has_repeated mods.words || has_two_accesses mods.words) at

-- (1) a static field is final, and a final field static
abbrev pub field_words_20 : Mods → ℕ → List ℕ
field_words_20 mods at = unless (beq (is_static mods) (is_final mods)) at ++ words_20 mods at

-- (2) a constructor is neither static nor final
abbrev pub maker_words_20 : Mods → ℕ → List ℕ
maker_words_20 mods at = only_if (is_static mods || is_final mods) at ++ words_20 mods at

-- (3) a method isn't final
abbrev pub method_words_20 : Mods → ℕ → List ℕ
method_words_20 mods at = only_if (is_final mods) at ++ words_20 mods at

-- ---- 20 (7): the type of a constant

abbrev pub is_constant_type : Ty → Bool
is_constant_type t = is_int t || (is_boolean t || is_string t)

abbrev pub constant_type_20 : Environment → FieldTree → List ℕ
constant_type_20 env f = only_if (is_static f.mods && option_map_or (λ t. not (is_constant_type t)) (type_named env f.ty) false) f.name.at

-- ---- 10 and 11: types, parameters and `throws`

-- a parameter is a local, and has its name alone
abbrev pub with_param : Environment → ParamTree → Scope → Scope
with_param env p s = declared s p.name.name (declared_type env.symbols.names p.ty)

unfoldable pub with_params : Environment → List ParamTree → Scope → Scope
with_params env [] s = s
with_params env (p ∷ ps) s = with_params env ps (with_param env p s)

unfoldable pub params_10 : Environment → List ParamTree → Scope → List ℕ
params_10 env [] s = []
params_10 env (p ∷ ps) s = (unknown_type env p.ty ++ again_10 s p.name) ++ params_10 env ps (with_param env p s)

abbrev pub answer_10 : Environment → Option TypeTree → List ℕ
answer_10 env t = option_map_or (unknown_type env) t []

abbrev pub declared_10 : Environment → ℕ → Member → List ℕ
declared_10 env c (member.Field f) = unknown_type env f.ty
declared_10 env c (member.Method m) = answer_10 env m.answer ++ (params_10 env m.params (method_scope env.symbols c m) ++ flat_map (exception_10 env) m.throws)
declared_10 env c (member.Maker m) = params_10 env m.params (maker_scope c) ++ flat_map (exception_10 env) m.throws
declared_10 env c member.Empty = []

abbrev pub declared_11 : Environment → Member → List ℕ
declared_11 env (member.Method m) = flat_map (exception_11 env) m.throws
declared_11 env (member.Maker m) = flat_map (exception_11 env) m.throws
declared_11 env _ = []

abbrev pub declared_20 : Environment → Member → List ℕ
declared_20 env (member.Field f) = field_words_20 f.mods f.name.at ++ constant_type_20 env f
declared_20 env (member.Method m) = method_words_20 m.mods m.name.at
declared_20 env (member.Maker m) = maker_words_20 m.mods m.name.at
declared_20 env member.Empty = []

-- what the declaration of a member of class c breaks
abbrev pub declaration_faults : Environment → ℕ → Member → List Fault
declaration_faults env c m = of_rule 10 (declared_10 env c m) (of_rule 11 (declared_11 env m) (of_rule 20 (declared_20 env m) []))
