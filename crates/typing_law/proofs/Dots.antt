-- What stands after a dot: a field or method that breaks no rule is well typed (JLS 15.11, 15.12).
use Rattle.std.proofs.Common.{◌≡◌, ◌∙◌, ℕ, suc, Bool, true, false, not, ◌||◌, ◌&&◌, ◌==◌, IsTrue, List, [], ◌∷◌, length, Option, Some, None, option_map, is_some, refl, subst, sym, ap, arith, if◌then◌else◌}
use Rattle.std.specs.Prelude.{option_and_then, unwrap_or}
use Rattle.std.specs.Option.{option_map_or}
use Rattle.std.proofs.lemmas.Bool.{false≢true, eqb-true, or_right, and_from}
use Rattle.std.specs.Cmp.{first_so, second_so}
use Rattle.core_tree.specs.declared.ty.Ty.{Ty}
use Rattle.core_tree.specs.declared.ty.Ty.TheVariants as ty
use Rattle.core_tree.specs.declared.expr.Expr.{Expr as Core}
use Rattle.core_tree.specs.declared.expr.Expr.TheVariants as core
use Rattle.core_tree.specs.declared.expr.Expr.TheViews as view
use Rattle.core_tree.specs.declared.program.Program.{Program}
use Rattle.core_tree.specs.Types.{class_of, elements_of, is_string, is_object, is_array}
use Rattle.core_tree.specs.Typing.{Scope as CoreScope, has as has_part, fits, is_text_or_null, type_of}
use Rattle.core_tree.proofs.ExprNodes.{type_of-Length, type_of-TextLength, type_of-TextEquals}
use Rattle.token_reading.specs.declared.name.Ident.{Ident}
use Rattle.java_syntax.specs.declared.expression.Expr.TheOpen.{Expr-F}
use Rattle.class_table.specs.Names.{same_name}
use Rattle.java_names.specs.declared.scope.Scope.{Scope}
use Rattle.java_exprs.specs.declared.environment.Environment.{Environment}
use Rattle.java_denotes.specs.declared.denotation.Denotation.{Denotation}
use Rattle.java_denotes.specs.declared.denotation.Denotation.TheVariants as denotes
use Rattle.java_exprs.specs.declared.typed.Form.TheVariants as form
use Rattle.java_denotes.specs.declared.through.Through.TheVariants as through
use Rattle.java_exprs.specs.Attr.{Attr, unless, only_if, is_nothing, prefix_faults, value_faults, values_faults}
use Rattle.java_denotes.specs.Members.{value_type}
use Rattle.java_exprs.specs.Rules.{is_printed, wants, wants_type, has_members, naming_10, naming_11, naming_14, calling_10, calling_11, calling_12, calling_14, field_10, method_10, is_text_method, prefix_11, library_11, library_12, text_12, print_12}
use Rattle.java_exprs.specs.Members.{Calling, naming_behind, calling_behind}
use Rattle.java_denotes.specs.Denotes.{member_denotes, call_denotes, library_field, library_method, text_method}
use Rattle.java_exprs.specs.Denotes.{member_form}
use Rattle.java_denotes.specs.Library.{length_name, equals_name, out_name, println_name, is_print}
use Rattle.java_exprs.specs.Resolved.{cores, first_core, member_core, call_core, library_core, text_core}
use Rattle.java_exprs.specs.Checks.{attr_at}
use Rattle.typing_law.specs.Means.{HasType, Means, MeansForm}
use Rattle.typing_law.specs.Agrees.{Agrees, AgreesOnScope}
use Rattle.core_tree.proofs.TypeFacts as facts
use Rattle.typing_law.proofs.NoFaults.{empty_parts, unless_empty, no_place}
use Rattle.typing_law.proofs.Standing.{exact, has_string, has_printed}
use Rattle.typing_law.proofs.Parts.{Holds, IsValue, value_part, prefix_part, wanted}
use Rattle.typing_law.proofs.Nodes.{breaks_none, has_type_int, has_type_bool, where_holds}
use Rattle.typing_law.proofs.Arguments.{AllHold, fits_wanted}
use Rattle.typing_law.proofs.Names as names
use Rattle.typing_law.proofs.Found.{some_of}

-- a type without members has none
no_members : (members other : Bool) → (not members || other) ≡ true → IsTrue members → IsTrue other
no_members true other is members = is
no_members false other is members = absurd (false≢true members)

no_unless : (b : Bool) (at : ℕ) {Q : Type 0} → b ≡ false → unless b at ≡ [] → Q
no_unless b at is none = absurd (false≢true (sym is ∙ unless_empty b at none))

not_zero : (n : ℕ) → (suc n == 0) ≡ true → ⊥
not_zero n is = let e = eqb-true (suc n) 0 is in absurd (omega arith)

not_one : (n : ℕ) → (suc (suc n) == 1) ≡ true → ⊥
not_one n is = let e = eqb-true (suc (suc n)) 1 is in absurd (omega arith)

module _ (env : Environment) (p : Program) (agrees : Agrees env p) (s : Scope) (cs : CoreScope) (inside : AgreesOnScope env p s cs) where
  -- an object before a dot
  object_typed : (e : Core) (t : Ty) (c : ℕ) → HasType p cs e t → class_of t ≡ Some c → type_of p cs e ≡ Some (ty.Class c)
  object_typed e t c has is = exact p cs e t has (λ u. is_some (class_of u)) (ap is_some facts.class-Text) (ap is_some is) ∙ ap Some (facts.class_type t c is)

  -- what is asked of a value before a dot
  members_of : (o : Attr) (t : Ty) → o.denotes ≡ Some (denotes.Value t) → prefix_11 o ≡ [] → IsTrue (has_members t)
  members_of o t said none = unless_empty (has_members t) o.at (subst (λ d. option_map_or (λ u. unless (has_members u) o.at) (value_type d) [] ≡ []) said none)

  -- ---- fields

  record FieldIsRight (o : Attr) (f : Ident) (d : Option Denotation) : Type 0 where
    means : Means p cs (option_map_or (member_core env) (naming_behind o f d) (view.Length o.core)) (option_map_or (member_denotes env.symbols) (naming_behind o f d) (library_field f.name d))
    form : MeansForm p cs (option_map_or (member_core env) (naming_behind o f d) (view.Length o.core)) (option_map_or (member_denotes env.symbols) (naming_behind o f d) (library_field f.name d)) (option_map_or (member_form env) (naming_behind o f d) form.Other)

  length_right : (o : Attr) (f : Ident) (t : Ty) → HasType p cs o.core t → IsTrue (is_array t && same_name f.name length_name) → Means p cs (view.Length o.core) (library_field f.name (Some (denotes.Value t)))
  length_right o f t has is =
      let array = first_so (is_array t) (same_name f.name length_name) is in
      let e = some_of (elements_of t) array in
      subst (λ b. Means p cs (view.Length o.core) (if b then Some (denotes.Value ty.Int) else None)) (sym is)
      (has_type_int p cs (view.Length o.core) (type_of-Length p cs o.core ∙ ap (λ x. option_and_then (λ e. Some ty.Int) (option_and_then elements_of x)) (exact p cs o.core t has is_array (ap is_some facts.elements-Text) array) ∙ ap (option_and_then (λ e. Some ty.Int)) e.1))

  -- a field of what isn't an object: the length of an array
  library_right : (o : Attr) (f : Ident) (t : Ty) → class_of t ≡ None → HasType p cs o.core t → o.denotes ≡ Some (denotes.Value t) → field_10 f (Some (denotes.Value t)) ≡ [] → prefix_11 o ≡ [] → Means p cs (view.Length o.core) (library_field f.name (Some (denotes.Value t)))
  library_right o f t no_class has said none_10 none_11 =
      length_right o f t has (no_members (has_members t) (is_array t && same_name f.name length_name) (unless_empty (not (has_members t) || (is_array t && same_name f.name length_name)) f.at none_10) (members_of o t said none_11))

  field_means : (o : Attr) (f : Ident) (d : Option Denotation) → o.denotes ≡ d → Means p cs o.core d → only_if (is_nothing d) o.at ≡ [] →
      option_map_or (naming_10 env) (naming_behind o f d) (field_10 f d) ≡ [] → option_map_or (naming_11 env) (naming_behind o f d) (prefix_11 o) ≡ [] → option_map_or (naming_14 env s) (naming_behind o f d) [] ≡ [] → FieldIsRight o f d
  field_means o f None said means nothing none_10 none_11 none_14 = absurd means
  field_means o f (Some (denotes.Class c)) said means nothing none_10 none_11 none_14 =
      let right = names.naming_right env p agrees s cs inside f through.Class c core.This tt none_10 none_11 none_14 in record { means = right.means; form = right.form }
  field_means o f (Some denotes.System) said means nothing none_10 none_11 none_14 =
      record { means = subst (λ b. Means p cs (view.Length o.core) (if b then Some denotes.Output else None)) (sym (unless_empty (same_name f.name out_name) f.at none_10)) tt; form = tt }
  field_means o f (Some denotes.Output) said means nothing none_10 none_11 none_14 = no_place f.at [] none_10
  field_means o f (Some (denotes.Value t)) said means nothing none_10 none_11 none_14 = cases (class_of t) refl none_10 none_11 none_14
    where
      cases : (c : Option ℕ) → class_of t ≡ c → option_map_or (naming_10 env) (option_map (λ c. record { through = through.Object; class = c; object = o.core; name = f }) c) (field_10 f (Some (denotes.Value t))) ≡ [] →
          option_map_or (naming_11 env) (option_map (λ c. record { through = through.Object; class = c; object = o.core; name = f }) c) (prefix_11 o) ≡ [] →
          option_map_or (naming_14 env s) (option_map (λ c. record { through = through.Object; class = c; object = o.core; name = f }) c) [] ≡ [] → FieldIsRight o f (Some (denotes.Value t))
      cases None is none_10 none_11 none_14 = record {
        means = subst (λ c. Means p cs (option_map_or (member_core env) (option_map (λ c. record { through = through.Object; class = c; object = o.core; name = f }) c) (view.Length o.core)) (option_map_or (member_denotes env.symbols) (option_map (λ c. record { through = through.Object; class = c; object = o.core; name = f }) c) (library_field f.name (Some (denotes.Value t))))) (sym is)
            (library_right o f t is means said none_10 none_11);
        form = subst (λ c. MeansForm p cs (option_map_or (member_core env) (option_map (λ c. record { through = through.Object; class = c; object = o.core; name = f }) c) (view.Length o.core)) (option_map_or (member_denotes env.symbols) (option_map (λ c. record { through = through.Object; class = c; object = o.core; name = f }) c) (library_field f.name (Some (denotes.Value t)))) (option_map_or (member_form env) (option_map (λ c. record { through = through.Object; class = c; object = o.core; name = f }) c) form.Other)) (sym is) tt;
      }
      cases (Some c) is none_10 none_11 none_14 =
          let right = names.naming_right env p agrees s cs inside f through.Object c o.core (object_typed o.core t c means is) none_10 none_11 none_14 in record {
            means = subst (λ c. Means p cs (option_map_or (member_core env) (option_map (λ c. record { through = through.Object; class = c; object = o.core; name = f }) c) (view.Length o.core)) (option_map_or (member_denotes env.symbols) (option_map (λ c. record { through = through.Object; class = c; object = o.core; name = f }) c) (library_field f.name (Some (denotes.Value t))))) (sym is) right.means;
            form = subst (λ c. MeansForm p cs (option_map_or (member_core env) (option_map (λ c. record { through = through.Object; class = c; object = o.core; name = f }) c) (view.Length o.core)) (option_map_or (member_denotes env.symbols) (option_map (λ c. record { through = through.Object; class = c; object = o.core; name = f }) c) (library_field f.name (Some (denotes.Value t)))) (option_map_or (member_form env) (option_map (λ c. record { through = through.Object; class = c; object = o.core; name = f }) c) form.Other)) (sym is) right.form;
          }
  field_means o f _ said means nothing none_10 none_11 none_14 = no_place o.at [] nothing

  pub field_right : (o : Attr) (f : Ident) → Holds p cs o → Holds p cs (attr_at env s (Expr-F.Field o f))
  field_right o f holds none =
      let b = breaks_none env s (Expr-F.Field o f) none in
      let before = prefix_part p cs o holds b.below in
      let right = field_means o f o.denotes refl before.0.means before.1 b.rule_10 b.rule_11 b.rule_14 in
      record { means = right.means; form = right.form }

  -- ---- methods

  abbrev of_object : Attr → Ident → List Attr → ℕ → Calling
  of_object o m xs c = record { through = through.Object; class = c; object = o.core; name = m; arguments = xs }

  abbrev MethodIsRight : Attr → Ident → List Attr → Option Denotation → Type 0
  MethodIsRight o m xs d = Means p cs (option_map_or (call_core env) (calling_behind o m xs d) (library_core o m.name xs d)) (option_map_or (call_denotes env.symbols) (calling_behind o m xs d) (library_method m.name xs d))

  -- a print's argument has a text
  print_right : (o : Attr) (m : Ident) (xs : List Attr) → AllHold p cs xs → values_faults xs ≡ [] → IsTrue (is_print m.name) → library_11 env o m xs (Some denotes.Output) ≡ [] → print_12 m xs ≡ [] →
      Means p cs (unwrap_or (first_core xs) core.Null) (Some (denotes.Print (record { ends_line = same_name m.name println_name; has_argument = not (length xs == 0) })))
  print_right o m [] hold below is none_11 none_12 = unless_empty (same_name m.name println_name) m.at none_12
  print_right o m (x ∷ []) hold below is none_11 none_12 =
      let v = value_part p cs x hold.0 (empty_parts (value_faults x) [] below).0 in
      has_printed p cs x.core v.type v.has (wanted p cs is_printed x v (subst (λ b. (if b then wants is_printed x else []) ≡ []) is none_11))
  print_right o m (x ∷ y ∷ xs) hold below is none_11 none_12 = no_place m.at [] none_12

  -- `equals` and `length` of a String
  text_length_right : (o : Attr) (t : Ty) → HasType p cs o.core t → IsTrue (is_string t) → HasType p cs (view.TextLength o.core) ty.Int
  text_length_right o t has string = has_type_int p cs (view.TextLength o.core) (type_of-TextLength p cs o.core ∙ where_holds (has_part is_text_or_null (type_of p cs o.core)) ty.Int (has_string p cs o.core t has string))

  text_equals_right : (o x : Attr) (t : Ty) → HasType p cs o.core t → IsTrue (is_string t) → IsValue p cs x → wants_type env ty.Text x ≡ [] → HasType p cs (view.TextEquals o.core x.core) ty.Bool
  text_equals_right o x t has string v none =
      has_type_bool p cs (view.TextEquals o.core x.core) (type_of-TextEquals p cs o.core x.core ∙ where_holds (has_part is_text_or_null (type_of p cs o.core) && fits p ty.Text (type_of p cs x.core)) ty.Bool
      (and_from (has_part is_text_or_null (type_of p cs o.core)) (fits p ty.Text (type_of p cs x.core)) (has_string p cs o.core t has string) (fits_wanted env p agrees cs ty.Text x v facts.is_void-Text none)))

  text_right : (o : Attr) (m : Ident) (xs : List Attr) (t : Ty) → AllHold p cs xs → values_faults xs ≡ [] → HasType p cs o.core t → IsTrue (is_string t) → (equals : Bool) → same_name m.name equals_name ≡ equals → (equals || same_name m.name length_name) ≡ true →
      library_11 env o m xs (Some (denotes.Value t)) ≡ [] → (if equals then unless (length xs == 1) m.at else (if same_name m.name length_name then unless (length xs == 0) m.at else [])) ≡ [] →
      Means p cs (text_core o m.name (cores xs)) (if equals then Some (denotes.Value ty.Bool) else (if same_name m.name length_name then Some (denotes.Value ty.Int) else None))
  text_right o m [] t hold below has string true is_equals known none_11 none_12 = no_unless (0 == 1) m.at refl none_12
  text_right o m (x ∷ []) t hold below has string true is_equals known none_11 none_12 =
      let v = value_part p cs x hold.0 (empty_parts (value_faults x) [] below).0 in
      text_equals_right o x t has string v (subst (λ b. (if b then wants_type env ty.Text x else prefix_11 o) ≡ []) (and_from (is_string t) (same_name m.name equals_name) string is_equals) none_11)
  text_right o m (x ∷ y ∷ xs) t hold below has string true is_equals known none_11 none_12 = absurd (not_one (length xs) (unless_empty (suc (suc (length xs)) == 1) m.at none_12))
  text_right o m [] t hold below has string false is_equals known none_11 none_12 =
      subst (λ b. Means p cs (view.TextLength o.core) (if b then Some (denotes.Value ty.Int) else None)) (sym known) (text_length_right o t has string)
  text_right o m (x ∷ xs) t hold below has string false is_equals known none_11 none_12 =
      absurd (not_zero (length xs) (unless_empty (suc (length xs) == 0) m.at (subst (λ b. (if b then unless (suc (length xs) == 0) m.at else []) ≡ []) known none_12)))

  -- a method of what isn't an object
  library_members : (o : Attr) (m : Ident) (xs : List Attr) (t : Ty) → o.denotes ≡ Some (denotes.Value t) → is_string t ≡ false → library_11 env o m xs (Some (denotes.Value t)) ≡ [] → IsTrue (has_members t)
  library_members o m (x ∷ []) t said other none_11 = members_of o t said (subst (λ b. (if b && same_name m.name equals_name then wants_type env ty.Text x else prefix_11 o) ≡ []) other none_11)
  library_members o m _ t said other none_11 = members_of o t said none_11

  text_method_right : (o : Attr) (m : Ident) (xs : List Attr) (t : Ty) → AllHold p cs xs → values_faults xs ≡ [] → HasType p cs o.core t → o.denotes ≡ Some (denotes.Value t) →
      method_10 m (Some (denotes.Value t)) ≡ [] → library_11 env o m xs (Some (denotes.Value t)) ≡ [] → library_12 m xs (Some (denotes.Value t)) ≡ [] →
      Means p cs (text_core o m.name (cores xs)) (library_method m.name xs (Some (denotes.Value t)))
  text_method_right o m xs t hold below has said none_10 none_11 none_12 = cases (is_string t) refl
    where
      known : (not (has_members t) || (is_string t && is_text_method m.name)) ≡ true
      known = unless_empty (not (has_members t) || (is_string t && is_text_method m.name)) m.at none_10

      string_members : IsTrue (is_string t) → IsTrue (has_members t)
      string_members string = or_right (is_object t) (is_string t) string

      cases : (b : Bool) → is_string t ≡ b → Means p cs (text_core o m.name (cores xs)) (library_method m.name xs (Some (denotes.Value t)))
      cases false other = absurd (false≢true (sym other ∙ first_so (is_string t) (is_text_method m.name) (no_members (has_members t) (is_string t && is_text_method m.name) known (library_members o m xs t said other none_11))))
      cases true string =
          subst (λ b. Means p cs (text_core o m.name (cores xs)) (if b then text_method m.name else None)) (sym string)
          (text_right o m xs t hold below has string (same_name m.name equals_name) refl (second_so (is_string t) (is_text_method m.name) (no_members (has_members t) (is_string t && is_text_method m.name) known (string_members string)))
          none_11 (subst (λ b. (if b then text_12 m xs else []) ≡ []) string none_12))

  method_means : (o : Attr) (m : Ident) (xs : List Attr) (d : Option Denotation) → AllHold p cs xs → values_faults xs ≡ [] → o.denotes ≡ d → Means p cs o.core d → only_if (is_nothing d) o.at ≡ [] →
      option_map_or (calling_10 env) (calling_behind o m xs d) (method_10 m d) ≡ [] → option_map_or (calling_11 env) (calling_behind o m xs d) (library_11 env o m xs d) ≡ [] →
      option_map_or (calling_12 env) (calling_behind o m xs d) (library_12 m xs d) ≡ [] → option_map_or (calling_14 env s) (calling_behind o m xs d) [] ≡ [] → MethodIsRight o m xs d
  method_means o m xs None hold below said means nothing none_10 none_11 none_12 none_14 = absurd means
  method_means o m xs (Some (denotes.Class c)) hold below said means nothing none_10 none_11 none_12 none_14 =
      names.calling_right env p agrees s cs inside m xs through.Class c core.This tt hold below none_10 none_11 none_12 none_14
  method_means o m xs (Some denotes.System) hold below said means nothing none_10 none_11 none_12 none_14 = no_place m.at [] none_10
  method_means o m xs (Some denotes.Output) hold below said means nothing none_10 none_11 none_12 none_14 =
      let print = unless_empty (is_print m.name) m.at none_10 in
      subst (λ b. Means p cs (unwrap_or (first_core xs) core.Null) (if b then Some (denotes.Print (record { ends_line = same_name m.name println_name; has_argument = not (length xs == 0) })) else None)) (sym print)
      (print_right o m xs hold below print none_11 (subst (λ b. (if b then print_12 m xs else []) ≡ []) print none_12))
  method_means o m xs (Some (denotes.Value t)) hold below said means nothing none_10 none_11 none_12 none_14 = cases (class_of t) refl none_10 none_11 none_12 none_14
    where
      cases : (c : Option ℕ) → class_of t ≡ c → option_map_or (calling_10 env) (option_map (of_object o m xs) c) (method_10 m (Some (denotes.Value t))) ≡ [] →
          option_map_or (calling_11 env) (option_map (of_object o m xs) c) (library_11 env o m xs (Some (denotes.Value t))) ≡ [] →
          option_map_or (calling_12 env) (option_map (of_object o m xs) c) (library_12 m xs (Some (denotes.Value t))) ≡ [] →
          option_map_or (calling_14 env s) (option_map (of_object o m xs) c) [] ≡ [] → MethodIsRight o m xs (Some (denotes.Value t))
      cases None is none_10 none_11 none_12 none_14 =
          subst (λ c. Means p cs (option_map_or (call_core env) (option_map (of_object o m xs) c) (text_core o m.name (cores xs))) (option_map_or (call_denotes env.symbols) (option_map (of_object o m xs) c) (library_method m.name xs (Some (denotes.Value t))))) (sym is)
          (text_method_right o m xs t hold below means said none_10 none_11 none_12)
      cases (Some c) is none_10 none_11 none_12 none_14 =
          subst (λ c. Means p cs (option_map_or (call_core env) (option_map (of_object o m xs) c) (text_core o m.name (cores xs))) (option_map_or (call_denotes env.symbols) (option_map (of_object o m xs) c) (library_method m.name xs (Some (denotes.Value t))))) (sym is)
          (names.calling_right env p agrees s cs inside m xs through.Object c o.core (object_typed o.core t c means is) hold below none_10 none_11 none_12 none_14)
  method_means o m xs _ hold below said means nothing none_10 none_11 none_12 none_14 = no_place o.at [] nothing

  pub method_right : (o : Attr) (m : Ident) (xs : List Attr) → Holds p cs o → AllHold p cs xs → Holds p cs (attr_at env s (Expr-F.Method o m xs))
  method_right o m xs holds hold none =
      let b = breaks_none env s (Expr-F.Method o m xs) none in
      let below = empty_parts (prefix_faults o) (values_faults xs) b.below in
      let before = prefix_part p cs o holds below.0 in
      record { means = method_means o m xs o.denotes hold below.1 refl before.0.means before.1 b.rule_10 b.rule_11 b.rule_12 b.rule_14; form = tt }
