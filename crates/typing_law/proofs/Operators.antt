-- Operators: an application that breaks no rule is well typed (JLS 15.15 to 15.25).
use Rattle.std.proofs.Common.{◌≡◌, ◌∙◌, ⊎_elim, ◌⊎◌, inl, inr, ℕ, Bool, true, false, not, ◌||◌, ◌&&◌, ◌==◌, IsTrue, List, [], ◌++◌, Some, None, refl, subst, sym, ap, if◌then◌else◌}
use Rattle.std.specs.Option.{option_map_or}
use Rattle.std.proofs.lemmas.Bool.{false≢true, or_cases, or_left, or_right, and_from}
use denote.Hole.Carrier.{out, shown, hidden}
use Rattle.core_tree.specs.declared.ty.Ty.{Ty, out-Ty}
use Rattle.core_tree.specs.declared.ty.Ty.TheBlock.{shown-the_row-Ty-0}
use Rattle.core_tree.specs.declared.ty.Ty.TheVariants as ty
use Rattle.core_tree.specs.declared.operator.UnOp.TheVariants as un
use Rattle.core_tree.specs.declared.operator.BinOp.{BinOp}
use Rattle.core_tree.specs.declared.operator.BinOp.TheVariants as bin
use Rattle.core_tree.specs.declared.expr.Expr.TheViews as view
use Rattle.core_tree.specs.declared.program.Program.{Program}
use Rattle.core_tree.specs.Types.{is_int, is_boolean, is_string, is_null, is_object, elements_of, is_subclass, is_assignable}
use Rattle.core_tree.specs.Typing.{Scope as CoreScope, PartType, has, has_text, is_text_or_null, ints, booleans, where_true, are_comparable, type_of}
use Rattle.core_tree.specs.Typing as typing
use Rattle.core_tree.proofs.TypeNodes.{is_assignable-Int, is_assignable-Bool, is_assignable-Text, is_assignable-Class, is_assignable-Array, is_assignable-Void}
use Rattle.core_tree.proofs.ExprNodes.{type_of-Unary, type_of-Binary, type_of-And, type_of-Or, type_of-Concat, type_of-Cond}
use Rattle.java_syntax.specs.declared.operator.UnaryOp.{UnaryOp}
use Rattle.java_syntax.specs.declared.operator.UnaryOp.TheVariants as unary
use Rattle.java_syntax.specs.declared.operator.BinaryOp.{BinaryOp}
use Rattle.java_syntax.specs.declared.operator.BinaryOp.TheVariants as binary
use Rattle.java_syntax.specs.declared.expression.Expr.TheOpen.{Expr-F}
use Rattle.java_names.specs.declared.scope.Scope.{Scope}
use Rattle.java_exprs.specs.declared.environment.Environment.{Environment}
use Rattle.java_exprs.specs.Attr.{Attr, unless, only_if, value_faults}
use Rattle.java_denotes.specs.Members.{value_type}
use Rattle.java_denotes.specs.Types as rules
use Rattle.java_denotes.specs.Denotes.{value, binary_type, bitwise_type, sum_type, is_text, choice_type}
use Rattle.java_exprs.specs.Resolved.{binary_core, joins}
use Rattle.java_exprs.specs.Rules.{wants, of_types, both_11, bitwise_11, equality_11, equality_16, is_bitwise, fits_bitwise, sum_11, sum_21, binary_11, rule_16, rule_21}
use Rattle.java_exprs.specs.Checks.{attr_at}
use Rattle.typing_law.specs.Means.{StandsFor, HasType, Means, has_values}
use Rattle.typing_law.specs.Agrees.{Agrees}
use Rattle.typing_law.proofs.Types.{same_assignable}
use Rattle.core_tree.proofs.TypeFacts as facts
use Rattle.typing_law.proofs.Values.{values_text_or_object, text_to_null, null_to_text, null_to_null}
use Rattle.typing_law.proofs.NoFaults.{empty_parts, unless_empty, only_if_empty}
use Rattle.typing_law.proofs.Standing.{exact, has_texts, has_string}
use Rattle.typing_law.proofs.Parts.{Holds, IsValue, value_part, negated_part, wanted}
use Rattle.typing_law.proofs.Nodes.{breaks_none, has_type_int, has_type_bool, has_type_text, where_holds}

-- ---- what the typing says at the types themselves

abbrev gives : Program → BinOp → Ty → Ty → Type 0
gives p op t r = typing.binary_type p op (Some t) (Some t) ≡ Some r

table_add : (p : Program) → gives p bin.Add ty.Int ty.Int
unfolding out-Ty out shown-the_row-Ty-0 shown hidden
table_add p = refl

table_sub : (p : Program) → gives p bin.Sub ty.Int ty.Int
unfolding out-Ty out shown-the_row-Ty-0 shown hidden
table_sub p = refl

table_mul : (p : Program) → gives p bin.Mul ty.Int ty.Int
unfolding out-Ty out shown-the_row-Ty-0 shown hidden
table_mul p = refl

table_div : (p : Program) → gives p bin.Div ty.Int ty.Int
unfolding out-Ty out shown-the_row-Ty-0 shown hidden
table_div p = refl

table_rem : (p : Program) → gives p bin.Rem ty.Int ty.Int
unfolding out-Ty out shown-the_row-Ty-0 shown hidden
table_rem p = refl

table_shl : (p : Program) → gives p bin.Shl ty.Int ty.Int
unfolding out-Ty out shown-the_row-Ty-0 shown hidden
table_shl p = refl

table_shr : (p : Program) → gives p bin.Shr ty.Int ty.Int
unfolding out-Ty out shown-the_row-Ty-0 shown hidden
table_shr p = refl

table_ushr : (p : Program) → gives p bin.Ushr ty.Int ty.Int
unfolding out-Ty out shown-the_row-Ty-0 shown hidden
table_ushr p = refl

table_lt : (p : Program) → gives p bin.Lt ty.Int ty.Bool
unfolding out-Ty out shown-the_row-Ty-0 shown hidden
table_lt p = refl

table_le : (p : Program) → gives p bin.Le ty.Int ty.Bool
unfolding out-Ty out shown-the_row-Ty-0 shown hidden
table_le p = refl

table_gt : (p : Program) → gives p bin.Gt ty.Int ty.Bool
unfolding out-Ty out shown-the_row-Ty-0 shown hidden
table_gt p = refl

table_ge : (p : Program) → gives p bin.Ge ty.Int ty.Bool
unfolding out-Ty out shown-the_row-Ty-0 shown hidden
table_ge p = refl

bits_int : typing.bitwise_type (Some ty.Int) (Some ty.Int) ≡ Some ty.Int
unfolding out-Ty out shown-the_row-Ty-0 shown hidden
bits_int = refl

bits_bool : typing.bitwise_type (Some ty.Bool) (Some ty.Bool) ≡ Some ty.Bool
unfolding out-Ty out shown-the_row-Ty-0 shown hidden
bits_bool = refl

booleans_bool : booleans (Some ty.Bool) (Some ty.Bool) ≡ true
unfolding out-Ty out shown-the_row-Ty-0 shown hidden
booleans_bool = refl

not_bool : typing.unary_type un.Not (Some ty.Bool) ≡ Some ty.Bool
unfolding out-Ty out shown-the_row-Ty-0 shown hidden
not_bool = refl

plus_int : typing.unary_type un.Plus (Some ty.Int) ≡ Some ty.Int
unfolding out-Ty out shown-the_row-Ty-0 shown hidden
plus_int = refl

neg_int : typing.unary_type un.Neg (Some ty.Int) ≡ Some ty.Int
unfolding out-Ty out shown-the_row-Ty-0 shown hidden
neg_int = refl

flip_int : typing.unary_type un.Flip (Some ty.Int) ≡ Some ty.Int
unfolding out-Ty out shown-the_row-Ty-0 shown hidden
flip_int = refl

-- ---- types that stand for others

stands_other : (a t : Ty) → is_string t ≡ false → StandsFor a t → a ≡ t
stands_other a t other stands = ⊎_elim (λ same. same) (λ null. absurd (false≢true (sym other ∙ ap is_string null.0 ∙ facts.is_string-Text))) stands

stands_null_type : (a : Ty) → StandsFor a ty.Null → a ≡ ty.Null
stands_null_type a stands = stands_other a ty.Null facts.is_string-Null stands

-- what a String can be compared with
text_and_null : (p : Program) (a : Ty) → StandsFor a ty.Text → IsTrue (are_comparable p a ty.Null)
text_and_null p a stands =
    and_from (not (is_string a && is_string ty.Null)) (is_assignable p.classes a ty.Null || is_assignable p.classes ty.Null a)
    (subst (λ b. IsTrue (not (is_string a && b))) (sym facts.is_string-Null) (never (is_string a)))
    (or_right (is_assignable p.classes a ty.Null) (is_assignable p.classes ty.Null a)
    (⊎_elim (λ same. subst (λ u. IsTrue (is_assignable p.classes ty.Null u)) (sym same) (null_to_text p.classes)) (λ null. subst (λ u. IsTrue (is_assignable p.classes ty.Null u)) (sym null.1) (null_to_null p.classes)) stands))
  where
    never : (b : Bool) → IsTrue (not (b && false))
    never true = refl
    never false = refl

null_and_text : (p : Program) (a : Ty) → StandsFor a ty.Text → IsTrue (are_comparable p ty.Null a)
null_and_text p a stands =
    and_from (not (is_string ty.Null && is_string a)) (is_assignable p.classes ty.Null a || is_assignable p.classes a ty.Null)
    (subst (λ b. IsTrue (not (b && is_string a))) (sym facts.is_string-Null) refl)
    (or_left (is_assignable p.classes ty.Null a) (is_assignable p.classes a ty.Null)
    (⊎_elim (λ same. subst (λ u. IsTrue (is_assignable p.classes ty.Null u)) (sym same) (null_to_text p.classes)) (λ null. subst (λ u. IsTrue (is_assignable p.classes ty.Null u)) (sym null.1) (null_to_null p.classes)) stands))

no_and : (a b : Bool) → (a && not b) ≡ false → IsTrue a → IsTrue b
no_and true true none is = refl
no_and true false none is = absurd (false≢true (sym none))
no_and false b none is = absurd (false≢true is)

pub no_or : (a b : Bool) → (a || b) ≡ false → (a ≡ false) × (b ≡ false)
no_or true b none = absurd (false≢true (sym none))
no_or false b none = (refl, none)

-- what the rules on `==` say
comparable : (p : Program) (a b t u : Ty) → StandsFor a t → StandsFor b u →
    IsTrue (is_string t || (is_string u || (is_assignable p.classes t u || is_assignable p.classes u t))) →
    ((is_string t && not (is_null u)) || (is_string u && not (is_null t))) ≡ false → IsTrue (are_comparable p a b)
comparable p a b t u stands_a stands_b either no_other = cases (is_string t) (is_string u) refl refl
  where
    others : ((is_string t && not (is_null u)) ≡ false) × ((is_string u && not (is_null t)) ≡ false)
    others = no_or (is_string t && not (is_null u)) (is_string u && not (is_null t)) no_other

    cases : (x y : Bool) → is_string t ≡ x → is_string u ≡ y → IsTrue (are_comparable p a b)
    cases true y is_t is_u =
        let null : b ≡ ty.Null = stands_null_type b (subst (StandsFor b) (facts.null_type u (no_and (is_string t) (is_null u) others.0 is_t)) stands_b) in
        subst (λ v. IsTrue (are_comparable p a v)) (sym null) (text_and_null p a (subst (StandsFor a) (facts.string_type t is_t) stands_a))
    cases false true is_t is_u =
        let null : a ≡ ty.Null = stands_null_type a (subst (StandsFor a) (facts.null_type t (no_and (is_string u) (is_null t) others.1 is_u)) stands_a) in
        subst (λ v. IsTrue (are_comparable p v b)) (sym null) (null_and_text p b (subst (StandsFor b) (facts.string_type u is_u) stands_b))
    cases false false is_t is_u =
        let same_a : a ≡ t = stands_other a t is_t stands_a in
        let same_b : b ≡ u = stands_other b u is_u stands_b in
        subst (λ v. IsTrue (are_comparable p v b)) (sym same_a) (subst (λ v. IsTrue (are_comparable p t v)) (sym same_b)
        (and_from (not (is_string t && is_string u)) (is_assignable p.classes t u || is_assignable p.classes u t)
        (subst (λ x. IsTrue (not (x && is_string u))) (sym is_t) refl)
        (subst (λ x. IsTrue (x || (is_assignable p.classes t u || is_assignable p.classes u t))) is_u (subst (λ x. IsTrue (x || (is_string u || (is_assignable p.classes t u || is_assignable p.classes u t)))) is_t either))))

-- ---- choices

module _ (p : Program) where
  abbrev Chosen : Ty → Ty → Ty → Ty → Type 0
  Chosen a b t u = (r : Ty) × (typing.wider p (Some a) (Some b) ≡ Some r) × StandsFor r (if is_assignable p.classes t u then u else t)

  wider_is : (a b r : Ty) (x y : Bool) → is_assignable p.classes a b ≡ x → is_assignable p.classes b a ≡ y → (if x then Some b else where_true y a) ≡ Some r → typing.wider p (Some a) (Some b) ≡ Some r
  wider_is a b r x y is_x is_y is = subst (λ z. (if z then Some b else where_true (is_assignable p.classes b a) a) ≡ Some r) (sym is_x) (subst (λ z. (if x then Some b else where_true z a) ≡ Some r) (sym is_y) is)

  if_is : (x y : Bool) (t u : Ty) → x ≡ y → (if x then u else t) ≡ (if y then u else t)
  if_is x y t u is = ap (λ z. if z then u else t) is

  same_chosen : (t u : Ty) → IsTrue (is_assignable p.classes t u || is_assignable p.classes u t) → Chosen t u t u
  same_chosen t u either = cases (is_assignable p.classes t u) refl either
    where
      cases : (x : Bool) → is_assignable p.classes t u ≡ x → IsTrue (x || is_assignable p.classes u t) → Chosen t u t u
      cases true is either = (u, wider_is t u u true (is_assignable p.classes u t) is refl refl, inl (sym (if_is (is_assignable p.classes t u) true t u is)))
      cases false is either = (t, wider_is t u t false true is either refl, inl (sym (if_is (is_assignable p.classes t u) false t u is)))

  -- what a String can be assigned to, or from
  to_text : (t : Ty) → IsTrue (is_assignable p.classes t ty.Text) → (t ≡ ty.Text) ⊎ (t ≡ ty.Null)
  to_text = facts.ty_cases (λ t. IsTrue (is_assignable p.classes t ty.Text) → (t ≡ ty.Text) ⊎ (t ≡ ty.Null))
      (λ is. absurd (false≢true (sym (ap (λ f. f ty.Text) (is_assignable-Int p.classes) ∙ facts.is_int-Text) ∙ is)))
      (λ is. absurd (false≢true (sym (ap (λ f. f ty.Text) (is_assignable-Bool p.classes) ∙ facts.is_boolean-Text) ∙ is)))
      (λ is. inl refl)
      (λ c is. absurd (false≢true (sym (ap (λ f. f ty.Text) (is_assignable-Class p.classes c) ∙ ap (λ o. option_map_or (is_subclass p.classes c) o false) facts.class-Text) ∙ is)))
      (λ e is. absurd (false≢true (sym (ap (λ f. f ty.Text) (is_assignable-Array p.classes e) ∙ ap (λ o. option_map_or (λ d. d == 0) o (option_map_or (is_assignable p.classes e) (elements_of ty.Text) false)) facts.class-Text ∙ ap (λ o. option_map_or (is_assignable p.classes e) o false) facts.elements-Text) ∙ is)))
      (λ is. inr refl)
      (λ is. absurd (false≢true (sym (ap (λ f. f ty.Text) (is_assignable-Void p.classes)) ∙ is)))

  text_or_null : (t : Ty) → IsTrue (is_assignable p.classes t ty.Text || is_assignable p.classes ty.Text t) → (t ≡ ty.Text) ⊎ (t ≡ ty.Null)
  text_or_null t either = ⊎_elim (λ is. to_text t is) (λ is. inl (facts.string_type t (sym (ap (λ f. f t) (is_assignable-Text p.classes)) ∙ is)))
      (or_cases (is_assignable p.classes t ty.Text) (is_assignable p.classes ty.Text t) either)

  or_turned : (x y : Bool) → IsTrue (x || y) → IsTrue (y || x)
  or_turned true y is = or_right y true refl
  or_turned false y is = or_left y false is

  if_same : (x : Bool) (t : Ty) → t ≡ (if x then t else t)
  if_same true t = refl
  if_same false t = refl

  null_chosen : (t u : Ty) → (if is_assignable p.classes t u then u else t) ≡ ty.Text → Chosen ty.Null ty.Null t u
  null_chosen t u is = (ty.Null, wider_is ty.Null ty.Null ty.Null true (is_assignable p.classes ty.Null ty.Null) (null_to_null p.classes) refl refl, inr (is, refl))

  text_text : Chosen ty.Text ty.Null ty.Text ty.Text
  text_text = (ty.Text, wider_is ty.Text ty.Null ty.Text false true (text_to_null p.classes) (null_to_text p.classes) refl, inl (if_same (is_assignable p.classes ty.Text ty.Text) ty.Text))

  null_text : Chosen ty.Null ty.Text ty.Text ty.Text
  null_text = (ty.Text, wider_is ty.Null ty.Text ty.Text true (is_assignable p.classes ty.Text ty.Null) (null_to_text p.classes) refl refl, inl (if_same (is_assignable p.classes ty.Text ty.Text) ty.Text))

  -- the second is null for a String
  second_null : (t : Ty) → IsTrue (is_assignable p.classes t ty.Text || is_assignable p.classes ty.Text t) → Chosen t ty.Null t ty.Text
  second_null t either = ⊎_elim (λ text. subst (λ v. Chosen v ty.Null v ty.Text) (sym text) text_text)
      (λ null. subst (λ v. Chosen v ty.Null v ty.Text) (sym null) (null_chosen ty.Null ty.Text (if_is (is_assignable p.classes ty.Null ty.Text) true ty.Null ty.Text (null_to_text p.classes))))
      (text_or_null t either)

  -- the first is null for a String
  first_null : (u : Ty) → IsTrue (is_assignable p.classes ty.Text u || is_assignable p.classes u ty.Text) → Chosen ty.Null u ty.Text u
  first_null u either = ⊎_elim (λ text. subst (λ v. Chosen ty.Null v ty.Text v) (sym text) null_text)
      (λ null. subst (λ v. Chosen ty.Null v ty.Text v) (sym null) (null_chosen ty.Text ty.Null (if_is (is_assignable p.classes ty.Text ty.Null) false ty.Text ty.Null (text_to_null p.classes))))
      (text_or_null u (or_turned (is_assignable p.classes ty.Text u) (is_assignable p.classes u ty.Text) either))

  choice : (a b t u : Ty) → StandsFor a t → StandsFor b u → IsTrue (is_assignable p.classes t u || is_assignable p.classes u t) → Chosen a b t u
  choice a b t u stands_a stands_b either =
      ⊎_elim
      (λ same_a. ⊎_elim
      (λ same_b. subst (λ v. Chosen v b t u) (sym same_a) (subst (λ v. Chosen t v t u) (sym same_b) (same_chosen t u either)))
      (λ null_b. subst (λ v. Chosen v b t u) (sym same_a) (subst (λ v. Chosen t v t u) (sym null_b.1) (subst (λ v. Chosen t ty.Null t v) (sym null_b.0) (second_null t (subst (λ v. IsTrue (is_assignable p.classes t v || is_assignable p.classes v t)) null_b.0 either)))))
      stands_b)
      (λ null_a. ⊎_elim
      (λ same_b. subst (λ v. Chosen v b t u) (sym null_a.1) (subst (λ v. Chosen ty.Null v t u) (sym same_b) (subst (λ v. Chosen ty.Null u v u) (sym null_a.0) (first_null u (subst (λ v. IsTrue (is_assignable p.classes v u || is_assignable p.classes u v)) null_a.0 either)))))
      (λ null_b. subst (λ v. Chosen v b t u) (sym null_a.1) (subst (λ v. Chosen ty.Null v t u) (sym null_b.1) (null_chosen t u
      (subst (λ v. (if is_assignable p.classes v u then u else v) ≡ ty.Text) (sym null_a.0) (subst (λ v. (if is_assignable p.classes ty.Text v then v else ty.Text) ≡ ty.Text) (sym null_b.0) (sym (if_same (is_assignable p.classes ty.Text ty.Text) ty.Text)))))))
      stands_b)
      stands_a

  chosen_values : (x : Bool) (t u : Ty) → IsTrue (has_values p t) → IsTrue (has_values p u) → IsTrue (has_values p (if x then u else t))
  chosen_values true t u first second = second
  chosen_values false t u first second = first

-- ---- the nodes

module _ (env : Environment) (p : Program) (agrees : Agrees env p) (s : Scope) (core : CoreScope) where
  pub int_part : (e : Attr) (v : IsValue p core e) → IsTrue (is_int v.type) → type_of p core e.core ≡ Some ty.Int
  int_part e v is = exact p core e.core v.type v.has is_int facts.is_int-Text is ∙ ap Some (facts.int_type v.type is)

  pub boolean_part : (e : Attr) (v : IsValue p core e) → IsTrue (is_boolean v.type) → type_of p core e.core ≡ Some ty.Bool
  boolean_part e v is = exact p core e.core v.type v.has is_boolean facts.is_boolean-Text is ∙ ap Some (facts.boolean_type v.type is)

  -- ---- one operand

  pub unary_right : (op : UnaryOp) (at : ℕ) (e : Attr) → Holds p core e → Holds p core (attr_at env s (Expr-F.Unary at op e))
  unary_right unary.Plus at e holds none =
      let b = breaks_none env s (Expr-F.Unary at unary.Plus e) none in
      let v = value_part p core e holds b.below in
      record { means = has_type_int p core (view.Unary un.Plus e.core) (type_of-Unary p core un.Plus e.core ∙ ap (typing.unary_type un.Plus) (int_part e v (wanted p core is_int e v b.rule_11)) ∙ plus_int); form = tt }
  unary_right unary.Minus at e holds none =
      let b = breaks_none env s (Expr-F.Unary at unary.Minus e) none in
      let v = negated_part p core e holds b.below in
      record { means = has_type_int p core (view.Unary un.Neg e.core) (type_of-Unary p core un.Neg e.core ∙ ap (typing.unary_type un.Neg) (int_part e v (wanted p core is_int e v b.rule_11)) ∙ neg_int); form = tt }
  unary_right unary.Complement at e holds none =
      let b = breaks_none env s (Expr-F.Unary at unary.Complement e) none in
      let v = value_part p core e holds b.below in
      record { means = has_type_int p core (view.Unary un.Flip e.core) (type_of-Unary p core un.Flip e.core ∙ ap (typing.unary_type un.Flip) (int_part e v (wanted p core is_int e v b.rule_11)) ∙ flip_int); form = tt }
  unary_right unary.Not at e holds none =
      let b = breaks_none env s (Expr-F.Unary at unary.Not e) none in
      let v = value_part p core e holds b.below in
      record { means = has_type_bool p core (view.Unary un.Not e.core) (type_of-Unary p core un.Not e.core ∙ ap (typing.unary_type un.Not) (boolean_part e v (wanted p core is_boolean e v b.rule_11)) ∙ not_bool); form = tt }

  -- ---- two operands

  module _ (l r : Attr) (v : IsValue p core l) (w : IsValue p core r) where
    pub both : (test : Ty → Bool) → both_11 test l r ≡ [] → IsTrue (test v.type) × IsTrue (test w.type)
    both test none = let parts = empty_parts (wants test l) (wants test r) none in (wanted p core test l v parts.0, wanted p core test r w parts.1)

    -- what is asked of both types
    pub asked : (ask : Ty → Ty → List ℕ) → of_types ask l r ≡ [] → ask v.type w.type ≡ []
    asked ask none =
        subst (λ d. option_map_or (λ b. ask v.type b) (value_type d) [] ≡ []) w.said
        (subst (λ d. option_map_or (λ a. option_map_or (λ b. ask a b) (value_type r.denotes) []) (value_type d) [] ≡ []) v.said none)

    typed : (op : BinOp) (a b t : Ty) → type_of p core l.core ≡ Some a → type_of p core r.core ≡ Some b → typing.binary_type p op (Some a) (Some b) ≡ Some t → type_of p core (view.Binary op l.core r.core) ≡ Some t
    typed op a b t is_a is_b is = type_of-Binary p core op l.core r.core ∙ ap (λ x. typing.binary_type p op x (type_of p core r.core)) is_a ∙ ap (typing.binary_type p op (Some a)) is_b ∙ is

    ints_right : (op : BinOp) → typing.binary_type p op (Some ty.Int) (Some ty.Int) ≡ Some ty.Int → both_11 is_int l r ≡ [] → HasType p core (view.Binary op l.core r.core) ty.Int
    ints_right op table none = let is = both is_int none in has_type_int p core (view.Binary op l.core r.core) (typed op ty.Int ty.Int ty.Int (int_part l v is.0) (int_part r w is.1) table)

    compares_right : (op : BinOp) → typing.binary_type p op (Some ty.Int) (Some ty.Int) ≡ Some ty.Bool → both_11 is_int l r ≡ [] → HasType p core (view.Binary op l.core r.core) ty.Bool
    compares_right op table none = let is = both is_int none in has_type_bool p core (view.Binary op l.core r.core) (typed op ty.Int ty.Int ty.Bool (int_part l v is.0) (int_part r w is.1) table)

    or_right_ : both_11 is_boolean l r ≡ [] → HasType p core (view.Or l.core r.core) ty.Bool
    or_right_ none = let is = both is_boolean none in
        has_type_bool p core (view.Or l.core r.core) (type_of-Or p core l.core r.core ∙ ap (λ x. where_true (booleans x (type_of p core r.core)) ty.Bool) (boolean_part l v is.0) ∙ ap (λ x. where_true (booleans (Some ty.Bool) x) ty.Bool) (boolean_part r w is.1) ∙ where_holds (booleans (Some ty.Bool) (Some ty.Bool)) ty.Bool booleans_bool)

    and_right_ : both_11 is_boolean l r ≡ [] → HasType p core (view.And l.core r.core) ty.Bool
    and_right_ none = let is = both is_boolean none in
        has_type_bool p core (view.And l.core r.core) (type_of-And p core l.core r.core ∙ ap (λ x. where_true (booleans x (type_of p core r.core)) ty.Bool) (boolean_part l v is.0) ∙ ap (λ x. where_true (booleans (Some ty.Bool) x) ty.Bool) (boolean_part r w is.1) ∙ where_holds (booleans (Some ty.Bool) (Some ty.Bool)) ty.Bool booleans_bool)

    -- two ints or two booleans
    pub bits_of : bitwise_11 l r ≡ [] → (IsTrue (is_int v.type) × IsTrue (is_int w.type)) ⊎ (IsTrue (is_boolean v.type) × IsTrue (is_boolean w.type))
    bits_of none =
        let parts = empty_parts (wants is_bitwise l) (wants (fits_bitwise (value_type l.denotes)) r) none in
        cases (is_int v.type) (is_boolean v.type) refl refl (wanted p core is_bitwise l v parts.0) (subst (λ d. IsTrue (fits_bitwise (value_type d) w.type)) v.said (wanted p core (fits_bitwise (value_type l.denotes)) r w parts.1))
      where
        cases : (x y : Bool) → is_int v.type ≡ x → is_boolean v.type ≡ y → IsTrue (x || y) → IsTrue (if x then is_int w.type else (if y then is_boolean w.type else is_bitwise w.type)) → (IsTrue (is_int v.type) × IsTrue (is_int w.type)) ⊎ (IsTrue (is_boolean v.type) × IsTrue (is_boolean w.type))
        cases true y int boolean either other = inl (int, other)
        cases false true int boolean either other = inr (boolean, other)
        cases false false int boolean either other = absurd (false≢true either)

    -- `&`, `|` and `^`
    bits_right : (op : BinOp) → typing.binary_type p op (Some ty.Int) (Some ty.Int) ≡ Some ty.Int → typing.binary_type p op (Some ty.Bool) (Some ty.Bool) ≡ Some ty.Bool → bitwise_11 l r ≡ [] →
        Means p core (view.Binary op l.core r.core) (value (bitwise_type (value_type l.denotes)))
    bits_right op ints bools none =
        subst (λ d. Means p core (view.Binary op l.core r.core) (value (bitwise_type (value_type d)))) (sym v.said)
        (⊎_elim
        (λ is. subst (λ b. HasType p core (view.Binary op l.core r.core) (if b then ty.Bool else ty.Int)) (sym (ap is_boolean (facts.int_type v.type is.0) ∙ facts.is_boolean-Int)) (has_type_int p core (view.Binary op l.core r.core) (typed op ty.Int ty.Int ty.Int (int_part l v is.0) (int_part r w is.1) ints)))
        (λ is. subst (λ b. HasType p core (view.Binary op l.core r.core) (if b then ty.Bool else ty.Int)) (sym is.0) (has_type_bool p core (view.Binary op l.core r.core) (typed op ty.Bool ty.Bool ty.Bool (boolean_part l v is.0) (boolean_part r w is.1) bools)))
        (bits_of none))

    either_is : (a b : Ty) → rules.is_either_way env.symbols a b ≡ (is_assignable p.classes a b || is_assignable p.classes b a)
    either_is a b = ap (λ x. x || rules.is_assignable env.symbols b a) (same_assignable env.symbols p.classes agrees.below a b) ∙ ap (λ x. is_assignable p.classes a b || x) (same_assignable env.symbols p.classes agrees.below b a)

    equality_right : (op : BinOp) → ((x y : PartType) → typing.binary_type p op x y ≡ typing.equality_type p x y) → equality_11 env l r ≡ [] → equality_16 l r ≡ [] → HasType p core (view.Binary op l.core r.core) ty.Bool
    equality_right op table none_11 none_16 =
        let either = unless_empty (is_string v.type || (is_string w.type || rules.is_either_way env.symbols v.type w.type)) l.at (asked (λ a b. unless (is_string a || (is_string b || rules.is_either_way env.symbols a b)) l.at) none_11) in
        let others = only_if_empty ((is_string v.type && not (is_null w.type)) || (is_string w.type && not (is_null v.type))) l.at (asked (λ a b. only_if ((is_string a && not (is_null b)) || (is_string b && not (is_null a))) l.at) none_16) in
        let passes = comparable p v.has.actual w.has.actual v.type w.type v.has.stands w.has.stands (subst (λ x. IsTrue (is_string v.type || (is_string w.type || x))) (either_is v.type w.type) either) others in
        has_type_bool p core (view.Binary op l.core r.core) (typed op v.has.actual w.has.actual ty.Bool v.has.typed w.has.typed (table (Some v.has.actual) (Some w.has.actual) ∙ where_holds (are_comparable p v.has.actual w.has.actual) ty.Bool passes))

    -- `+` of a String and another value
    joined_right : (is_string v.type || is_string w.type) ≡ true → sum_21 l r ≡ [] → HasType p core (view.Concat l.core r.core) ty.Text
    joined_right is none =
        let others = no_or (is_string v.type && is_object w.type) (is_object v.type && is_string w.type) (only_if_empty ((is_string v.type && is_object w.type) || (is_object v.type && is_string w.type)) l.at (asked (λ a b. only_if ((is_string a && is_object b) || (is_object a && is_string b)) l.at) none)) in
        has_type_text p core (view.Concat l.core r.core) (type_of-Concat p core l.core r.core ∙ where_holds ((has_text (type_of p core l.core) && has_text (type_of p core r.core)) && (has is_text_or_null (type_of p core l.core) || has is_text_or_null (type_of p core r.core))) ty.Text
        (and_from (has_text (type_of p core l.core) && has_text (type_of p core r.core)) (has is_text_or_null (type_of p core l.core) || has is_text_or_null (type_of p core r.core))
        (and_from (has_text (type_of p core l.core)) (has_text (type_of p core r.core))
        (has_texts p core l.core v.type v.has (text_of v.type w.type v.has.values (or_turned p (is_string v.type) (is_string w.type) is) (and_turned (is_object v.type) (is_string w.type) others.1)))
        (has_texts p core r.core w.type w.has (text_of w.type v.type w.has.values is others.0)))
        (⊎_elim (λ string. or_left (has is_text_or_null (type_of p core l.core)) (has is_text_or_null (type_of p core r.core)) (has_string p core l.core v.type v.has string))
        (λ string. or_right (has is_text_or_null (type_of p core l.core)) (has is_text_or_null (type_of p core r.core)) (has_string p core r.core w.type w.has string))
        (or_cases (is_string v.type) (is_string w.type) is))))
      where
        and_turned : (x y : Bool) → (x && y) ≡ false → (y && x) ≡ false
        and_turned true true none = none
        and_turned true false none = refl
        and_turned false true none = refl
        and_turned false false none = refl

        no_object : (x : Bool) → (true && x) ≡ false → x ≡ false
        no_object x none = none

        -- one is a String, or the other is and this one is no object
        text_of : (t u : Ty) → IsTrue (has_values p t) → (is_string u || is_string t) ≡ true → (is_string u && is_object t) ≡ false → IsTrue (is_string t || (is_int t || (is_boolean t || is_null t)))
        text_of t u values is none = ⊎_elim
            (λ other. values_text_or_object p t values (no_object (is_object t) (subst (λ x. (x && is_object t) ≡ false) other none)))
            (λ string. or_left (is_string t) (is_int t || (is_boolean t || is_null t)) string)
            (or_cases (is_string u) (is_string t) is)

    sum_right : sum_11 l r ≡ [] → sum_21 l r ≡ [] → Means p core (if joins l r then view.Concat l.core r.core else view.Binary bin.Add l.core r.core) (value (sum_type (value_type l.denotes) (value_type r.denotes)))
    sum_right none_11 none_21 =
        subst (λ d. Means p core (if is_text (value_type d) || is_text (value_type r.denotes) then view.Concat l.core r.core else view.Binary bin.Add l.core r.core) (value (sum_type (value_type d) (value_type r.denotes)))) (sym v.said)
        (subst (λ d. Means p core (if is_string v.type || is_text (value_type d) then view.Concat l.core r.core else view.Binary bin.Add l.core r.core) (value (sum_type (Some v.type) (value_type d)))) (sym w.said)
        (cases (is_string v.type || is_string w.type) refl (asked (λ a b. if is_string a || is_string b then [] else both_11 is_int l r) none_11)))
      where
        cases : (x : Bool) → (is_string v.type || is_string w.type) ≡ x → (if x then [] else both_11 is_int l r) ≡ [] → HasType p core (if x then view.Concat l.core r.core else view.Binary bin.Add l.core r.core) (if x then ty.Text else ty.Int)
        cases true is none = joined_right is none_21
        cases false is none = ints_right bin.Add (table_add p) none

    binary_means : (op : BinaryOp) → binary_11 env op l r ≡ [] → rule_16 (Expr-F.Binary op l r) ≡ [] → rule_21 (Expr-F.Binary op l r) ≡ [] →
        Means p core (binary_core op (joins l r) l.core r.core) (value (binary_type op (value_type l.denotes) (value_type r.denotes)))
    binary_means binary.Or none n16 n21 = or_right_ none
    binary_means binary.And none n16 n21 = and_right_ none
    binary_means binary.BitOr none n16 n21 = bits_right bin.BitOr bits_int bits_bool none
    binary_means binary.BitXor none n16 n21 = bits_right bin.BitXor bits_int bits_bool none
    binary_means binary.BitAnd none n16 n21 = bits_right bin.BitAnd bits_int bits_bool none
    binary_means binary.Equal none n16 n21 = equality_right bin.Eq (λ x y. refl) none n16
    binary_means binary.NotEqual none n16 n21 = equality_right bin.Ne (λ x y. refl) none n16
    binary_means binary.Less none n16 n21 = compares_right bin.Lt (table_lt p) none
    binary_means binary.Greater none n16 n21 = compares_right bin.Gt (table_gt p) none
    binary_means binary.LessEqual none n16 n21 = compares_right bin.Le (table_le p) none
    binary_means binary.GreaterEqual none n16 n21 = compares_right bin.Ge (table_ge p) none
    binary_means binary.ShiftLeft none n16 n21 = ints_right bin.Shl (table_shl p) none
    binary_means binary.ShiftRight none n16 n21 = ints_right bin.Shr (table_shr p) none
    binary_means binary.UnsignedShiftRight none n16 n21 = ints_right bin.Ushr (table_ushr p) none
    binary_means binary.Add none n16 n21 = sum_right none n21
    binary_means binary.Subtract none n16 n21 = ints_right bin.Sub (table_sub p) none
    binary_means binary.Multiply none n16 n21 = ints_right bin.Mul (table_mul p) none
    binary_means binary.Divide none n16 n21 = ints_right bin.Div (table_div p) none
    binary_means binary.Remainder none n16 n21 = ints_right bin.Rem (table_rem p) none

  pub binary_right : (op : BinaryOp) (l r : Attr) → Holds p core l → Holds p core r → Holds p core (attr_at env s (Expr-F.Binary op l r))
  binary_right op l r holds_l holds_r none =
      let b = breaks_none env s (Expr-F.Binary op l r) none in
      let parts = empty_parts (value_faults l) (value_faults r) b.below in
      record { means = binary_means l r (value_part p core l holds_l parts.0) (value_part p core r holds_r parts.1) op b.rule_11 b.rule_16 b.rule_21; form = tt }

  -- ---- a conditional

  pub conditional_right : (c a b : Attr) → Holds p core c → Holds p core a → Holds p core b → Holds p core (attr_at env s (Expr-F.Conditional c a b))
  conditional_right c a b holds_c holds_a holds_b none =
      let n = breaks_none env s (Expr-F.Conditional c a b) none in
      let below = empty_parts (value_faults c) (value_faults a ++ value_faults b) n.below in
      let branches = empty_parts (value_faults a) (value_faults b) below.1 in
      let asked_11 = empty_parts (wants is_boolean c) (of_types (λ t u. unless (rules.is_either_way env.symbols t u) b.at) a b) n.rule_11 in
      let u = value_part p core c holds_c below.0 in
      let v = value_part p core a holds_a branches.0 in
      let w = value_part p core b holds_b branches.1 in
      let test = boolean_part c u (wanted p core is_boolean c u asked_11.0) in
      let said_either = unless_empty (rules.is_either_way env.symbols v.type w.type) b.at (asked a b v w (λ t u. unless (rules.is_either_way env.symbols t u) b.at) asked_11.1) in
      let either = sym (either_is a b v w v.type w.type) ∙ said_either in
      let chosen = choice p v.has.actual w.has.actual v.type w.type v.has.stands w.has.stands either in
      let same = same_assignable env.symbols p.classes agrees.below v.type w.type in
      record {
        means =
            subst (λ d. Means p core (view.Cond c.core a.core b.core) (value (choice_type env.symbols (value_type d) (value_type b.denotes)))) (sym v.said)
            (subst (λ d. Means p core (view.Cond c.core a.core b.core) (value (choice_type env.symbols (Some v.type) (value_type d)))) (sym w.said)
            (subst (λ x. Means p core (view.Cond c.core a.core b.core) (value (if x then Some (rules.wider env.symbols v.type w.type) else None))) (sym said_either)
            (subst (λ x. HasType p core (view.Cond c.core a.core b.core) (if x then w.type else v.type)) (sym same) (record {
              actual = chosen.0;
              typed = type_of-Cond p core c.core a.core b.core ∙ ap (λ x. if has is_boolean x then typing.wider p (type_of p core a.core) (type_of p core b.core) else None) test ∙ ap (λ x. if x then typing.wider p (type_of p core a.core) (type_of p core b.core) else None) facts.is_boolean-Bool
                  ∙ ap (λ x. typing.wider p x (type_of p core b.core)) v.has.typed ∙ ap (typing.wider p (Some v.has.actual)) w.has.typed ∙ chosen.1;
              stands = chosen.2;
              values = chosen_values p (is_assignable p.classes v.type w.type) v.type w.type v.has.values w.has.values;
            }))));
        form = tt;
      }
