-- What is known of an expression that breaks nothing, part by part.
use Rattle.std.proofs.Common.{◌≡◌, ℕ, Bool, true, false, ◌||◌, ◌&&◌, List, [], ◌∷◌, ◌++◌, Option, Some, refl, sym}
use Rattle.core_tree.specs.declared.ty.Ty.{Ty}
use Rattle.core_tree.specs.declared.ty.Ty.TheVariants as ty
use Rattle.core_tree.specs.declared.ty.Ty.TheViews as type
use Rattle.core_tree.specs.Types.{elements_of, is_int, is_object, is_string, is_array}
use Rattle.core_tree.specs.declared.operator.UnOp.{UnOp}
use Rattle.core_tree.specs.declared.operator.UnOp.TheVariants as un
use Rattle.core_tree.specs.declared.expr.Expr.{Expr as Core}
use Rattle.core_tree.specs.declared.expr.Expr.TheVariants as variant
use Rattle.core_tree.specs.declared.expr.Expr.TheViews as view
use Rattle.token_reading.specs.declared.fault.Fault.{Fault}
use Rattle.token_reading.specs.declared.name.Ident.{Ident}
use Rattle.token_reading.specs.declared.name.TypeTree.{TypeTree}
use Rattle.token_reading.specs.declared.name.BaseType.{BaseType}
use Rattle.java_syntax.specs.declared.operator.UnaryOp.{UnaryOp}
use Rattle.java_syntax.specs.declared.operator.UnaryOp.TheVariants as unary
use Rattle.java_syntax.specs.declared.operator.BinaryOp.{BinaryOp}
use Rattle.java_syntax.specs.declared.expression.Expr.TheOpen.{Expr-F}
use Rattle.class_table.specs.Names.{same_name}
use Rattle.java_names.specs.declared.symbol.MethodSymbol.{MethodSymbol}
use Rattle.java_names.specs.declared.scope.Scope.{Scope}
use Rattle.java_exprs.specs.declared.environment.Environment.{Environment}
use Rattle.java_exprs.specs.declared.receiver.Receiver.{Receiver}
use Rattle.java_denotes.specs.declared.denotation.Denotation.{Denotation}
use Rattle.java_denotes.specs.declared.denotation.Denotation.TheVariants as denotes
use Rattle.java_exprs.specs.declared.typed.Form.{Form}
use Rattle.java_exprs.specs.declared.typed.Form.TheVariants as form
use Rattle.java_exprs.specs.declared.typed.Typed.{Typed}
use Rattle.java_exprs.specs.declared.value.Value.{Value}
use Rattle.java_exprs.specs.Attr.{Attr, of_rule, unless}
use Rattle.java_exprs.specs.Calls.{calling_of, call_faults, call_attr}
use Rattle.java_exprs.specs.Checks.{attr_at, clean, of_value}
use Rattle.java_denotes.specs.Denotes.{binary_type, unary_type}
use Rattle.java_denotes.specs.Library.{length_name}
use Rattle.java_exprs.specs.Fields.{length_attr}
use Rattle.java_denotes.specs.Lookups.{answer_denotes}
use Rattle.java_exprs.specs.Lookups.{elements_named, type_named, unknown_base, unknown_type}
use Rattle.java_exprs.specs.Resolved.{binary_core, method_core, un_op}
use Rattle.java_exprs.specs.Rules.{broken_below, broken_here, cast_15, choice_11, has_members, method_at, unary_11, wants}
use Rattle.java_denotes.specs.Types.{is_either_way, wider}
use Rattle.core_tree.proofs.TypeFacts.{int_is}

-- what is known, given each part of it
pub known_by_parts : (at : ℕ) (d : Option Denotation) (f : Form) (c : Core) (faults : List Fault) (denotes : Denotation) (form : Form) (core : Core)
    → d ≡ Some denotes → f ≡ form → c ≡ core → faults ≡ []
    → ◌≡◌ {A = Attr} (record { at = at; denotes = d; form = f; needs_minus = false; core = c; faults = faults })
    (clean (record { at = at; denotes = denotes; form = form; needs_minus = false; core = core }))
known_by_parts at d f c faults denotes form core denotes_is form_is core_is none = rw (denotes_is, form_is, core_is, none) refl

-- of a value that is no variable, constant or call
value_known : (at : ℕ) (d : Option Denotation) (c : Core) (faults : List Fault) (t : Ty) (core : Core)
    → d ≡ Some (denotes.Value t) → c ≡ core → faults ≡ []
    → ◌≡◌ {A = Attr} (record { at = at; denotes = d; form = form.Other; needs_minus = false; core = c; faults = faults })
    (clean (record { at = at; denotes = denotes.Value t; form = form.Other; needs_minus = false; core = core }))
value_known at d c faults t core denotes_is core_is none = rw (denotes_is, core_is, none) refl

pub cast_clean : (env : Environment) (s : Scope) (at : ℕ) (tree : TypeTree) (e : Value) (t again : Ty) (core : Core)
    → type_named env tree ≡ Some t → unknown_type env tree ≡ [] → of_rule 15 (cast_15 env at (Some t) (of_value e)) [] ≡ []
    → again ≡ t → core ≡ e.core
    → attr_at env s (Expr-F.Cast at tree (of_value e))
    ≡ clean (record { at = at; denotes = denotes.Value again; form = form.Other; needs_minus = false; core = view.Cast t core })
cast_clean env s at tree e t again core found known allowed again_is core_is =
    value_known at _ _ _ again (view.Cast t core) (rw (found, again_is) refl) (rw (found, core_is) refl) (rw (known, found) allowed)

pub instance_clean : (env : Environment) (s : Scope) (e : Value) (tree : TypeTree) (t : Ty) (core : Core)
    → type_named env tree ≡ Some t → unknown_type env tree ≡ [] → (is_object t || is_string t) ≡ true
    → of_rule 15 (cast_15 env e.at (Some t) (of_value e)) [] ≡ [] → core ≡ e.core
    → attr_at env s (Expr-F.InstanceOf (of_value e) tree)
    ≡ clean (record { at = e.at; denotes = denotes.Value ty.Bool; form = form.Other; needs_minus = false; core = view.Is t core })
instance_clean env s e tree t core found known suits allowed core_is =
    value_known e.at _ _ _ ty.Bool (view.Is t core) refl (rw (found, core_is) refl) (rw (known, found, suits) allowed)

-- the last of what is asked under a rule
last_allowed : (k : ℕ) (ats : List ℕ) (test : Bool) (at : ℕ) → of_rule k (ats ++ unless test at) [] ≡ [] → test ≡ true
last_allowed k [] true at h = refl
last_allowed k [] false at h = cc
last_allowed k (a ∷ ats) test at h = cc

pub conditional_clean : (env : Environment) (s : Scope) (c a b : Value) (t : Ty) (core : Core)
    → of_rule 11 (choice_11 env (of_value c) (of_value a) (of_value b)) [] ≡ [] → t ≡ wider env.symbols a.ty b.ty → core ≡ view.Cond c.core a.core b.core
    → attr_at env s (Expr-F.Conditional (of_value c) (of_value a) (of_value b))
    ≡ clean (record { at = c.at; denotes = denotes.Value t; form = form.Other; needs_minus = false; core = core })
conditional_clean env s c a b t core allowed wider_is core_is =
    let fits : is_either_way env.symbols a.ty b.ty ≡ true = last_allowed 11 _ _ b.at allowed in
    value_known c.at _ _ _ t core (rw (fits, wider_is) refl) (sym core_is) allowed

pub cond_is : (a b c x y z : Core) → a ≡ x → b ≡ y → c ≡ z → view.Cond a b c ≡ view.Cond x y z
cond_is a b c x y z a_is b_is c_is = rw (a_is, b_is, c_is) refl

pub element_clean : (env : Environment) (s : Scope) (a i : Value) (t : Ty) (core : Core)
    → of_rule 11 (wants is_array (of_value a) ++ wants is_int (of_value i)) [] ≡ [] → elements_of a.ty ≡ Some t → core ≡ view.Element a.core i.core
    → attr_at env s (Expr-F.Element (of_value a) (of_value i))
    ≡ clean (record { at = a.at; denotes = denotes.Value t; form = form.Variable; needs_minus = false; core = core })
element_clean env s a i t core allowed found core_is =
    known_by_parts a.at _ form.Variable _ _ (denotes.Value t) form.Variable core (rw found refl) refl (sym core_is) allowed

pub length_clean : (o : Value) (f : Ident) (core : Core) → has_members o.ty ≡ true → (is_array o.ty && same_name f.name length_name) ≡ true → core ≡ o.core
    → length_attr o f ≡ clean (record { at = o.at; denotes = denotes.Value ty.Int; form = form.Other; needs_minus = false; core = view.Length core })
length_clean o f core members array core_is =
    value_known o.at _ _ _ ty.Int (view.Length core) (rw array refl) (rw core_is refl) (rw (members, array) refl)

-- ---- operators

below_unary : (at : ℕ) (op : UnaryOp) (e : Value) → broken_below (Expr-F.Unary at op (of_value e)) ≡ []
below_unary at unary.Plus e = refl
below_unary at unary.Minus e = refl
below_unary at unary.Not e = refl
below_unary at unary.Complement e = refl

pub unary_clean : (env : Environment) (s : Scope) (at : ℕ) (op : UnaryOp) (e : Value) (t : Ty) (o : UnOp) (core : Core)
    → of_rule 11 (unary_11 op (of_value e)) [] ≡ [] → t ≡ unary_type op → o ≡ un_op op → core ≡ e.core
    → attr_at env s (Expr-F.Unary at op (of_value e))
    ≡ clean (record { at = at; denotes = denotes.Value t; form = form.Other; needs_minus = false; core = view.Unary o core })
unary_clean env s at op e t o core allowed type_is op_is core_is =
    value_known at _ _ _ t (view.Unary o core) (rw type_is refl) (rw (op_is, core_is) refl) (rw (below_unary at op e) allowed)

pub minus_clean : (env : Environment) (s : Scope) (at : ℕ) (e : Typed) (t : Ty) (core : Core) → e.denotes ≡ denotes.Value t → t ≡ ty.Int → core ≡ e.core
    → attr_at env s (Expr-F.Unary at unary.Minus (clean e))
    ≡ clean (record { at = at; denotes = denotes.Value ty.Int; form = form.Other; needs_minus = false; core = view.Unary un.Neg core })
minus_clean env s at e t core is int core_is =
    value_known at _ _ _ ty.Int (view.Unary un.Neg core) refl (rw core_is refl) (rw (is, int_is t int) refl)

pub binary_clean : (env : Environment) (s : Scope) (op : BinaryOp) (l r : Value) (t : Ty) (joins : Bool) (core : Core)
    → broken_here env s (Expr-F.Binary op (of_value l) (of_value r)) ≡ [] → Some t ≡ binary_type op (Some l.ty) (Some r.ty)
    → joins ≡ (is_string l.ty || is_string r.ty) → core ≡ binary_core op joins l.core r.core
    → attr_at env s (Expr-F.Binary op (of_value l) (of_value r))
    ≡ clean (record { at = l.at; denotes = denotes.Value t; form = form.Other; needs_minus = false; core = core })
binary_clean env s op l r t joins core allowed type_is joins_is core_is =
    value_known l.at _ _ _ t core (rw (sym type_is) refl) (rw (core_is, joins_is) refl) allowed

-- ---- arrays

pub array_clean : (env : Environment) (s : Scope) (at : ℕ) (base : BaseType) (e : Value) (dimensions : ℕ) (t again : Ty) (core : Core)
    → elements_named env base dimensions ≡ Some t → unknown_base env base ≡ [] → of_rule 11 (wants is_int (of_value e)) [] ≡ [] → again ≡ t → core ≡ e.core
    → attr_at env s (Expr-F.NewArray at base (of_value e) dimensions)
    ≡ clean (record { at = at; denotes = denotes.Value (type.Array again); form = form.Other; needs_minus = false; core = view.NewArray t core })
array_clean env s at base e dimensions t again core found known allowed again_is core_is =
    value_known at _ _ _ (type.Array again) (view.NewArray t core) (rw (found, again_is) refl) (rw (found, core_is) refl) (rw known allowed)

-- ---- calls

pub call_clean : (env : Environment) (s : Scope) (r : Receiver) (object : Core) (m : Ident) (vs xs : List Value) (found : MethodSymbol) (answer : Ty) (d : Denotation) (core : Core)
    → xs ≡ vs → method_at env (calling_of r variant.This m xs) ≡ Some found → call_faults env s (calling_of r variant.This m xs) ≡ []
    → answer ≡ found.answer → d ≡ answer_denotes answer → core ≡ method_core env (calling_of r object m vs) found
    → call_attr env s r.at (calling_of r object m vs) ≡ clean (record { at = r.at; denotes = d; form = form.Call; needs_minus = false; core = core })
call_clean env s r object m vs xs found answer d core same is none answer_is denotes_is core_is =
    let found_is = rw same at is in
    known_by_parts r.at _ form.Call _ _ d form.Call core (rw (found_is, denotes_is, answer_is) refl) refl (rw (found_is, core_is) refl) (rw same at none)
