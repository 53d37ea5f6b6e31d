-- Where a file breaks rule 23: the points of checked exceptions that are neither caught nor declared (JLS 11.2.3).
use Rattle.std.specs.Prelude.{ℕ, suc, not, ◌&&◌, List, [], ◌∷◌, ◌++◌, map, filter, flat_map, length, Option, option_and_then, if◌then◌else◌}
use Rattle.std.specs.List.{filter_map}
use Rattle.token_reading.specs.declared.fault.Fault.{Fault}
use Rattle.token_reading.specs.declared.name.Ident.{Ident}
use Rattle.java_syntax.specs.declared.class.FieldTree.{FieldTree}
use Rattle.java_syntax.specs.declared.class.MethodTree.{MethodTree}
use Rattle.java_syntax.specs.declared.class.MakerTree.{MakerTree}
use Rattle.java_syntax.specs.declared.class.Member.{Member}
use Rattle.java_syntax.specs.declared.class.Member.TheVariants as member
use Rattle.token_reading.specs.declared.name.ParamTree.{ParamTree}
use Rattle.java_syntax.specs.declared.class.ClassTree.{ClassTree}
use Rattle.java_syntax.specs.declared.class.FileTree.{FileTree}
use Rattle.class_table.specs.declared.row.ClassTable.{ClassTable}
use Rattle.class_table.specs.Members.{is_static}
use Rattle.java_names.specs.declared.scope.Scope.{Scope}
use Rattle.java_names.specs.Symbols.{symbols_of}
use Rattle.java_names.specs.Types.{declared_type}
use Rattle.java_names.specs.declared.symbol.MakerSymbol.{MakerSymbol}
use Rattle.java_names.specs.declared.symbol.Symbols.{Symbols}
use Rattle.java_names.specs.Lookups.{class_number, maker_of, parent_of}
use Rattle.java_names.specs.Beginnings.{Begun, beginning}
use Rattle.java_names.specs.Scope.{method_scope, maker_scope}
use Rattle.core_tree.specs.BuiltIn.{first_class}
use Rattle.throw_check.specs.Classes.{is_checked, is_declared}
use Rattle.throw_check.specs.Points.{Point, points_at, maker_throws, expr_points}
use Rattle.throw_check.specs.Statements.{with_local, optional_points, body_points}

-- ---- what is left of points

-- the points of checked exceptions that are not declared, where each list is what a method or constructor declares that
-- runs the code
abbrev pub unhandled : Symbols → List (List ℕ) → List Point → List Point
unhandled symbols lists points = filter (λ p. is_checked symbols p.class && not (is_declared symbols lists p.class)) points

-- the classes after `throws`
abbrev pub declared_classes : Symbols → List Ident → List ℕ
declared_classes symbols throws = filter_map (λ x. class_number symbols x.name) throws

abbrev pub broken_at : ℕ → Fault
broken_at at = record { rule = 23; at = at }

-- rule 23 is broken at each point
abbrev pub broken_at_points : List Point → List Fault
broken_at_points points = map (λ p. broken_at p.at) points

-- or at this place for each point
abbrev pub broken_at_name : ℕ → List Point → List Fault
broken_at_name at points = map (λ p. broken_at at) points

-- ---- methods and constructors

-- the scope of a body, with the parameters
unfoldable pub with_params : Symbols → List ParamTree → Scope → Scope
with_params symbols [] s = s
with_params symbols (p ∷ ps) s = with_params symbols ps (with_local s p.name (declared_type symbols.names p.ty))

abbrev pub method_points : Symbols → ℕ → MethodTree → List Point
method_points symbols c m = body_points symbols m.body (with_params symbols m.params (method_scope symbols c m))

-- the constructor of the superclass with that number of parameters
abbrev pub parent_maker : Symbols → ℕ → ℕ → Option MakerSymbol
parent_maker symbols c arity = option_and_then (λ p. maker_of symbols p arity) (parent_of symbols c)

-- the call of the superclass's constructor with that many parameters, at this place
abbrev pub parent_points : Symbols → ℕ → ℕ → ℕ → List Point
parent_points symbols c arity at = points_at at (maker_throws (parent_maker symbols c arity))

-- a constructor's body begins with `super(..)`, or calls the superclass's constructor without parameters at the
-- constructor's name
abbrev pub beginning_points : Symbols → ℕ → Begun → Scope → List Point
beginning_points symbols c b s = flat_map (expr_points symbols s) b.given ++ (parent_points symbols c (length b.given) b.at ++ body_points symbols b.rest s)

abbrev pub maker_points : Symbols → ℕ → MakerTree → List Point
maker_points symbols c m = beginning_points symbols c (beginning m.name.at m.body) (with_params symbols m.params (maker_scope c))

-- ---- fields

-- what each constructor of a class declares
abbrev pub maker_classes : Symbols → Member → List (List ℕ)
maker_classes symbols (member.Maker m) = declared_classes symbols m.throws ∷ []
maker_classes symbols _ = []

-- the constructor that is made for a class without one declares nothing
abbrev pub or_made : List (List ℕ) → List (List ℕ)
or_made [] = [] ∷ []
or_made (classes ∷ more) = classes ∷ more

-- an initialiser of an instance field is run by each constructor; at the field's name
abbrev pub field_faults : Symbols → ℕ → List (List ℕ) → FieldTree → List Fault
field_faults symbols c lists f = broken_at_name f.name.at (unhandled symbols lists (optional_points symbols (maker_scope c) f.value))

-- ---- classes

-- a member of class c, whose constructors declare these; the initialiser of a constant calls nothing, as rule 20 asks
abbrev pub member_faults : Symbols → ℕ → List (List ℕ) → Member → List Fault
member_faults symbols c lists (member.Field f) = if is_static f.mods then [] else field_faults symbols c lists f
member_faults symbols c lists (member.Method m) = broken_at_points (unhandled symbols (declared_classes symbols m.throws ∷ []) (method_points symbols c m))
member_faults symbols c lists (member.Maker m) = broken_at_points (unhandled symbols (declared_classes symbols m.throws ∷ []) (maker_points symbols c m))
member_faults symbols c lists member.Empty = []

-- the constructor that is made for a class without one calls that of the superclass; at the class's name
abbrev pub made_faults : Symbols → ℕ → List (List ℕ) → ℕ → List Fault
made_faults symbols c [] at = broken_at_points (unhandled symbols ([] ∷ []) (parent_points symbols c 0 at))
made_faults symbols c (classes ∷ more) at = []

abbrev pub faults_in : Symbols → ℕ → List (List ℕ) → ClassTree → List Fault
faults_in symbols c lists k = flat_map (member_faults symbols c (or_made lists)) k.members ++ made_faults symbols c lists k.name.at

abbrev pub class_faults : Symbols → ℕ → ClassTree → List Fault
class_faults symbols c k = faults_in symbols c (flat_map (maker_classes symbols) k.members) k

-- the classes from number c on
unfoldable pub faults_from : Symbols → ℕ → List ClassTree → List Fault
faults_from symbols c [] = []
faults_from symbols c (k ∷ ks) = class_faults symbols c k ++ faults_from symbols (suc c) ks

-- ---- the file

-- where the file breaks rule 23
abbrev pub faults_of : ClassTable → FileTree → List Fault
faults_of table tree = faults_from (symbols_of table) first_class tree.classes
