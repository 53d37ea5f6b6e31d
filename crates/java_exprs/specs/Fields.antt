-- What is known of a name of a field, a constant or a class, and of a part of the library.
use Rattle.std.specs.Prelude.{ℕ, Bool, ◌&&◌, ◌||◌, List, [], Option, Some, is_some, if◌then◌else◌}
use Rattle.std.specs.Option.{option_map_or}
use Rattle.core_tree.specs.declared.ty.Ty.{Ty}
use Rattle.core_tree.specs.declared.expr.Expr.{Expr as Core}
use Rattle.core_tree.specs.declared.expr.Expr.TheVariants as core
use Rattle.core_tree.specs.declared.expr.Expr.TheViews as view
use Rattle.token_reading.specs.declared.fault.Fault.{Fault}
use Rattle.token_reading.specs.declared.name.Ident.{Ident}
use Rattle.class_table.specs.Names.{same_name}
use Rattle.java_names.specs.declared.scope.Scope.{Scope}
use Rattle.java_names.specs.declared.symbol.FieldSymbol.{FieldSymbol}
use Rattle.java_names.specs.Lookups.{is_accessible}
use Rattle.java_exprs.specs.declared.environment.Environment.{Environment}
use Rattle.java_exprs.specs.declared.receiver.Receiver.{Receiver}
use Rattle.java_denotes.specs.declared.through.Through.{Through}
use Rattle.java_denotes.specs.declared.denotation.Denotation.TheVariants as denotes
use Rattle.java_exprs.specs.declared.typed.Form.{Form}
use Rattle.java_exprs.specs.declared.typed.Form.TheVariants as form
use Rattle.java_exprs.specs.declared.value.Value.{Value}
use Rattle.java_exprs.specs.Attr.{Attr, of_rule, only_if, unless}
use Rattle.java_exprs.specs.Checks.{of_value}
use Rattle.java_denotes.specs.Denotes.{class_denotes, library_field, member_denotes}
use Rattle.java_exprs.specs.Denotes.{member_form}
use Rattle.java_denotes.specs.Library.{system_name}
use Rattle.java_exprs.specs.Lookups.{class_named, constant_at}
use Rattle.java_denotes.specs.Lookups.{variable_denotes}
use Rattle.java_exprs.specs.Members.{Naming}
use Rattle.java_exprs.specs.Resolved.{literal_core, member_core}
use Rattle.java_exprs.specs.Rules.{field_10, is_behind_class, naming_10, naming_11, naming_13, naming_14, needs_this, prefix_11}

-- ---- a field or a constant that was found

-- what is broken where it is named
abbrev pub field_faults : Scope → Through → Ident → FieldSymbol → List Fault
field_faults s through x m =
    of_rule 11 (only_if (is_behind_class through && is_some m.place) x.at) (of_rule 13 (unless (is_accessible s.class m.owner m.is_private) x.at)
    (of_rule 14 (only_if (s.is_static && (needs_this through && is_some m.place)) x.at) []))

abbrev pub field_form : Ident → FieldSymbol → Form
field_form x m = if is_some m.place then form.Variable else form.Constant x.at

-- a field is read from its object; a constant is its value
abbrev pub field_core : Environment → Core → FieldSymbol → Core
field_core env object m = option_map_or (λ place. view.Field object place) m.place (option_map_or literal_core (constant_at env m.at) core.Null)

-- what is known of it
abbrev pub field_attr : Environment → Scope → Receiver → Core → Ident → FieldSymbol → Attr
field_attr env s r object x m = record {
  at = r.at;
  denotes = variable_denotes m.ty;
  form = field_form x m;
  needs_minus = Bool.false;
  core = field_core env object m;
  faults = field_faults s r.through x m;
}

-- ---- a field or a constant that is looked up

abbrev pub naming_of : Receiver → Core → Ident → Naming
naming_of r object x = record { through = r.through; class = r.class; object = object; name = x }

-- what is known of it
abbrev pub naming_attr : Environment → Scope → Receiver → Core → Ident → Attr
naming_attr env s r object x = let k = naming_of r object x in record {
  at = r.at;
  denotes = member_denotes env.symbols k;
  form = member_form env k;
  needs_minus = Bool.false;
  core = member_core env k;
  faults = of_rule 10 (naming_10 env k) (of_rule 11 (naming_11 env k) (of_rule 13 (naming_13 env s k) (of_rule 14 (naming_14 env s k) [])));
}

-- ---- names that are none of a field

-- what is known of a class, or of `System`
abbrev pub class_attr : Environment → Ident → Attr
class_attr env x = record {
  at = x.at;
  denotes = class_denotes env.symbols x.name;
  form = form.Other;
  needs_minus = Bool.false;
  core = core.Null;
  faults = of_rule 10 (unless (is_some (class_named env x.name) || same_name x.name system_name) x.at) [];
}

-- what is known of a name after a value that isn't an object of a class
abbrev pub length_attr : Value → Ident → Attr
length_attr o f = let d = Some (denotes.Value o.ty) in record {
  at = o.at;
  denotes = library_field f.name d;
  form = form.Other;
  needs_minus = Bool.false;
  core = view.Length o.core;
  faults = of_rule 10 (field_10 f d) (of_rule 11 (prefix_11 (of_value o)) []);
}

-- what is known of a name after `System`
abbrev pub output_attr : ℕ → Core → Ident → Attr
output_attr at system f = record {
  at = at;
  denotes = library_field f.name (Some denotes.System);
  form = form.Other;
  needs_minus = Bool.false;
  core = view.Length system;
  faults = of_rule 10 (field_10 f (Some denotes.System)) [];
}
