-- Initialisers of fields, bodies of methods, and constructors with what they do with the superclass (JLS 8.3.2, 8.4.7,
-- 8.8.7).
use Rattle.std.specs.Prelude.{ℕ, not, ◌==◌, List, [], ◌∷◌, ◌++◌, map, drop, length, Option, None, option_map, is_some, if◌then◌else◌}
use Rattle.std.specs.Option.{option_map_or}
use Rattle.core_tree.specs.declared.program.Field.{Field}
use Rattle.core_tree.specs.declared.program.Method.{Method}
use Rattle.core_tree.specs.declared.program.Maker.{Maker}
use Rattle.core_tree.specs.declared.program.Parent.{Parent}
use Rattle.core_tree.specs.declared.program.Parent.TheVariants as parent
use Rattle.token_reading.specs.declared.fault.Fault.{Fault}
use Rattle.java_syntax.specs.declared.expression.Expr.{Expr}
use Rattle.java_syntax.specs.declared.statement.CatchTree.{CatchTree}
use Rattle.java_syntax.specs.declared.statement.Stmt.{Stmt, out-Stmt}
use Rattle.java_syntax.specs.declared.statement.Stmt.TheOpen.{Stmt-F}
use Rattle.java_syntax.specs.declared.class.FieldTree.{FieldTree}
use Rattle.java_syntax.specs.declared.class.MethodTree.{MethodTree}
use Rattle.java_syntax.specs.declared.class.MakerTree.{MakerTree}
use Rattle.class_table.specs.Members.{is_static, types_of}
use Rattle.java_names.specs.declared.scope.Scope.{Scope}
use Rattle.java_names.specs.declared.symbol.MakerSymbol.{MakerSymbol}
use Rattle.java_names.specs.Beginnings.{beginning}
use Rattle.java_names.specs.Lookups.{is_accessible}
use Rattle.java_names.specs.Types.{declared_type, declared_types, answer_type}
use Rattle.java_exprs.specs.declared.environment.Environment.{Environment}
use Rattle.java_exprs.specs.Attr.{Attr, unless, of_rule, value_faults, values_faults}
use Rattle.java_exprs.specs.Lookups.{superclass_of, maker_of}
use Rattle.java_exprs.specs.Resolved.{cores, first_core}
use Rattle.java_exprs.specs.Rules.{wants_type, wants_each}
use Rattle.java_exprs.specs.Checks.{attr}
use Rattle.java_statements.specs.Effects.{Effects, sequence}
use Rattle.java_statements.specs.Statements.{effect}
use Rattle.java_names.specs.Scope.{method_scope, maker_scope}
use Rattle.java_members.specs.Declarations.{with_params}

-- ---- instance fields

-- 11: the initialiser fits the type
abbrev pub start_faults : Environment → ℕ → FieldTree → Expr → List Fault
start_faults env c f e =
    value_faults (attr env (maker_scope c) e)
    ++ of_rule 11 (wants_type env (declared_type env.symbols.names f.ty) (attr env (maker_scope c) e)) []

abbrev pub field_faults : Environment → ℕ → FieldTree → List Fault
field_faults env c f = option_map_or (start_faults env c f) f.value []

abbrev pub core_field : Environment → ℕ → FieldTree → Field
core_field env c f = record {
  name = f.name.name;
  ty = declared_type env.symbols.names f.ty;
  start = option_map (λ e. (attr env (maker_scope c) e).core) f.value;
  owner = c;
}

-- ---- bodies

-- what is known of a body, which begins in this scope
abbrev pub body_effects : Environment → List Stmt → Scope → Effects
body_effects env body s = sequence (map (effect env) body) s

-- ---- methods

abbrev pub method_effects : Environment → ℕ → MethodTree → Effects
method_effects env c m = body_effects env m.body (with_params env m.params (method_scope env.symbols c m))

abbrev pub core_method : Environment → ℕ → MethodTree → Method
core_method env c m = record {
  name = m.name.name;
  owner = c;
  on_object = not (is_static m.mods);
  params = declared_types env.symbols.names (types_of m.params);
  answer = answer_type env.symbols.names m.answer;
  locals = drop (length m.params) (method_effects env c m).after.slots;
  body = (method_effects env c m).steps;
  contract = None;
}

-- ---- what a constructor does with the superclass, at the word `super` or at the name of the constructor or of the class

-- 12: the superclass has a constructor with this number of parameters
abbrev pub parent_12 : Option MakerSymbol → ℕ → List ℕ
parent_12 k at = unless (is_some k) at

-- 13: and that one isn't private, unless it is the class's own
abbrev pub parent_13 : ℕ → Option MakerSymbol → ℕ → List ℕ
parent_13 c k at = option_map_or (λ m. unless (is_accessible c m.owner m.is_private) at) k []

-- 11: the arguments fit
abbrev pub parent_11 : Environment → List Attr → Option MakerSymbol → List ℕ
parent_11 env given k = option_map_or (λ m. wants_each env given m.params) k []

-- the constructor of class p, which class c extends
abbrev pub parent_faults_of : Environment → ℕ → ℕ → List Attr → ℕ → List Fault
parent_faults_of env c at given p =
    of_rule 11 (parent_11 env given (maker_of env p (length given)))
    (of_rule 12 (parent_12 (maker_of env p (length given)) at) (of_rule 13 (parent_13 c (maker_of env p (length given)) at) []))

abbrev pub parent_faults : Environment → ℕ → ℕ → List Attr → List Fault
parent_faults env c at given = option_map_or (parent_faults_of env c at given) (superclass_of env c) []

-- a built-in class has no constructor of the file: that of Object does nothing, the others set the message
abbrev pub built_in_parent : ℕ → List Attr → Parent
built_in_parent p given = if p == 0 then parent.Plain else parent.Message (first_core given)

abbrev pub core_parent_of : Environment → List Attr → ℕ → Parent
core_parent_of env given p =
    option_map_or (λ m. option_map_or (λ number. parent.Maker number (cores given)) m.number (built_in_parent p given)) (maker_of env p (length given)) parent.Plain

abbrev pub core_parent : Environment → ℕ → List Attr → Parent
core_parent env c given = option_map_or (core_parent_of env given) (superclass_of env c) parent.Plain

-- ---- constructors

-- a constructor's scope with its parameters
abbrev pub params_scope : Environment → ℕ → MakerTree → Scope
params_scope env c m = with_params env m.params (maker_scope c)

abbrev pub given_of : Environment → ℕ → MakerTree → List Attr
given_of env c m = map (attr env (params_scope env c m)) (beginning m.name.at m.body).given

abbrev pub maker_effects : Environment → ℕ → MakerTree → Effects
maker_effects env c m = body_effects env (beginning m.name.at m.body).rest (params_scope env c m)

abbrev pub maker_faults : Environment → ℕ → MakerTree → List Fault
maker_faults env c m =
    values_faults (given_of env c m)
    ++ (parent_faults env c (beginning m.name.at m.body).at (given_of env c m) ++ (maker_effects env c m).faults)

abbrev pub core_maker : Environment → ℕ → MakerTree → Maker
core_maker env c m = record {
  owner = c;
  params = declared_types env.symbols.names (types_of m.params);
  parent = core_parent env c (given_of env c m);
  locals = drop (length m.params) (maker_effects env c m).after.slots;
  body = (maker_effects env c m).steps;
}

-- a constructor that is made for a class without one (JLS 8.8.9)
abbrev pub made_maker : Environment → ℕ → Maker
made_maker env c = record { owner = c; params = []; parent = core_parent env c []; locals = []; body = [] }
