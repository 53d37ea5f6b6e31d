-- The value of an initialiser that breaks no rule has the type that the rules give it.
use Rattle.std.proofs.Common.{◌≡◌, ◌∙◌, ℕ, ℤ, Bool, true, false, not, ◌||◌, ◌&&◌, IsTrue, List, [], ◌∷◌, ◌++◌, Option, Some, None, is_some, refl, subst, sym, ap, if◌then◌else◌}
use Rattle.std.specs.Prelude.{nat_le, int_div, int_rem, option_and_then, pos}
use Rattle.std.specs.List.{list_all}
use Rattle.std.specs.Option.{option_map_or}
use Rattle.std.proofs.lemmas.Bool.{false≢true}
use Rattle.std.specs.Cmp.{first_so, second_so}
use Rattle.pb_int.specs.Int32.{wrap}
use Rattle.core_tree.specs.declared.ty.Ty.{Ty}
use Rattle.core_tree.specs.declared.ty.Ty.TheVariants as ty
use Rattle.core_tree.specs.declared.program.Class.{Class as CoreClass}
use Rattle.core_tree.specs.Types.{is_int, is_boolean, is_string, is_null, is_subclass}
use Rattle.token_reading.specs.declared.name.Ident.{Ident}
use Rattle.java_syntax.specs.declared.operator.UnaryOp.{UnaryOp}
use Rattle.java_syntax.specs.declared.operator.UnaryOp.TheVariants as unary
use Rattle.java_syntax.specs.declared.operator.BinaryOp.{BinaryOp}
use Rattle.java_syntax.specs.declared.operator.BinaryOp.TheVariants as binary
use Rattle.java_syntax.specs.declared.expression.Expr.{Expr}
use Rattle.java_syntax.specs.declared.expression.Expr.TheOpen.{Expr-F}
use Rattle.java_syntax.specs.declared.expression.Expr.TheViews.{roll-Expr}
use Rattle.java_syntax.specs.declared.expression.Expr.TheFolds.{fold-roll-Expr, ind-Expr, map-Expr}
use Rattle.class_table.specs.Names.{Name}
use Rattle.java_names.specs.declared.scope.Scope.{Scope}
use Rattle.java_names.specs.declared.symbol.FieldSymbol.{FieldSymbol}
use Rattle.java_names.specs.Lookups.{is_below}
use Rattle.java_names.specs.Scope.{meaning_of}
use Rattle.java_exprs.specs.declared.environment.Environment.{Environment}
use Rattle.primitive_operators.specs.declared.scalar.Scalar.{Scalar}
use Rattle.primitive_operators.specs.declared.scalar.Scalar.TheVariants as scalar
use Rattle.java_exprs.specs.declared.folded.Folded.{Folded}
use Rattle.java_exprs.specs.declared.folded.Folded.TheVariants as folded
use Rattle.java_denotes.specs.declared.denotation.Denotation.{Denotation}
use Rattle.java_denotes.specs.declared.denotation.Denotation.TheVariants as denotes
use Rattle.java_exprs.specs.Attr.{Attr, unless, only_if, of_rule, named_10, nothing_11, bare_19, value_faults, negated_faults}
use Rattle.java_denotes.specs.Members.{value_type}
use Rattle.java_denotes.specs.Types as rules
use Rattle.java_exprs.specs.Lookups.{member_of, class_named, local_named}
use Rattle.java_denotes.specs.Lookups.{variable_denotes}
use Rattle.java_exprs.specs.Members.{naming_behind}
use Rattle.java_denotes.specs.Denotes.{value, binary_type, bitwise_type, member_denotes, library_field, choice_type}
use Rattle.java_exprs.specs.Rules.{wants, of_types, both_11, bitwise_11, is_bitwise, fits_bitwise, equality_11, equality_16, sum_11}
use Rattle.java_exprs.specs.Checks.{attr, attr_at}
use Rattle.java_exprs.specs.Constants.{field_folded, found_folded, name_folded, behind_folded, folded_at, folded_of}
use Rattle.java_exprs.specs.Operators.{is_made, unary_folded, binary_folded, strict_folded, binary_value, choice_folded, gives_bool, gives_int}
use Rattle.core_tree.proofs.TypeFacts as facts
use Rattle.typing_law.proofs.NoFaults.{empty_parts, unless_empty, only_if_empty}
use Rattle.typing_law.proofs.Nodes.{breaks_none}
use Rattle.typing_law.proofs.NodeKinds.{wrapped}
use Rattle.typing_law.proofs.LiteralKinds.{Kind, AnInt, ABool, AText, ANull, kind_type, int_kind, bool_kind, text_kind, null_kind, widens, int_test, bool_test, text_test, null_test, widens_test, Fits, FoldFits, folded_widens}
use Rattle.typing_law.proofs.FoldedOperators.{sign_fits, not_fits, strict_fits, ints_fit, bools_fit, divided_fits, digits_fit, text_fits, joined_left, joined_right, Equates, equal_fits, choice_fits}
use Rattle.std.proofs.Math.Bool.{or-true}

-- a value of a constant's type, which an evaluation gives or fails to give
abbrev pub Typed : Option Denotation → Folded → Type 0
Typed d f = (k : Kind) × (d ≡ Some (denotes.Value (kind_type k))) × FoldFits f k

-- what an expression is as an initialiser fits what it denotes
abbrev pub Matches : Option Denotation → Folded → Type 0
Matches d (folded.Gives v) = Typed d (folded.Gives v)
Matches d folded.Fails = Typed d folded.Fails
Matches d folded.Unknown = ⊥
Matches d (folded.Class c) = d ≡ Some (denotes.Class c)
Matches d folded.Other = Unit {0}

abbrev pub Sound : Attr → Folded → Type 0
Sound e f = e.faults ≡ [] → Matches e.denotes f

typed_of : (d : Option Denotation) (f : Folded) → Matches d f → is_made f ≡ true → Typed d f
typed_of d folded.Unknown fits made = absurd fits
typed_of d (folded.Class c) fits made = absurd (false≢true made)
typed_of d folded.Other fits made = absurd (false≢true made)
typed_of d _ fits made = fits

matches_of : (d : Option Denotation) (f : Folded) → Typed d f → Matches d f
matches_of d (folded.Gives v) fits = fits
matches_of d folded.Fails fits = fits
matches_of d _ fits = absurd fits.2

gated : (d : Option Denotation) (made : Bool) (f : Folded) → (made ≡ true → Typed d f) → Matches d (if made then f else folded.Other)
gated d true f fits = matches_of d f (fits refl)
gated d false f fits = tt

value_sound : (e : Attr) (f : Folded) → Sound e f → value_faults e ≡ [] → is_made f ≡ true → Typed e.denotes f
value_sound e f sound none made = typed_of e.denotes f (sound (empty_parts e.faults (of_rule 10 (named_10 e) (of_rule 11 (nothing_11 e) (of_rule 19 (bare_19 e) []))) none).0) made

negated_sound : (e : Attr) (f : Folded) → Sound e f → negated_faults e ≡ [] → is_made f ≡ true → Typed e.denotes f
negated_sound e f sound none made = typed_of e.denotes f (sound (empty_parts e.faults (of_rule 10 (named_10 e) (of_rule 11 (nothing_11 e) [])) none).0) made

-- what a test that is asked of a value says
wanted : (test : Ty → Bool) (e : Attr) (k : Kind) → e.denotes ≡ Some (denotes.Value (kind_type k)) → wants test e ≡ [] → IsTrue (test (kind_type k))
wanted test e k said none = unless_empty (test (kind_type k)) e.at (subst (λ d. option_map_or (λ t. unless (test t) e.at) (value_type d) [] ≡ []) said none)

asked : (ask : Ty → Ty → List ℕ) (l r : Attr) (a b : Kind) → l.denotes ≡ Some (denotes.Value (kind_type a)) → r.denotes ≡ Some (denotes.Value (kind_type b)) → of_types ask l r ≡ [] → ask (kind_type a) (kind_type b) ≡ []
asked ask l r a b said_l said_r none =
    subst (λ d. option_map_or (λ t. ask (kind_type a) t) (value_type d) [] ≡ []) said_r
    (subst (λ d. option_map_or (λ t. option_map_or (λ u. ask t u) (value_type r.denotes) []) (value_type d) [] ≡ []) said_l none)

-- ---- kinds by their tests

only_int : (k : Kind) → int_kind k ≡ true → k ≡ AnInt
only_int AnInt is = refl
only_int _ is = absurd (false≢true is)

only_bool : (k : Kind) → bool_kind k ≡ true → k ≡ ABool
only_bool ABool is = refl
only_bool _ is = absurd (false≢true is)

int_of : (k : Kind) → IsTrue (is_int (kind_type k)) → k ≡ AnInt
int_of k is = only_int k (sym (int_test k) ∙ is)

bool_of : (k : Kind) → IsTrue (is_boolean (kind_type k)) → k ≡ ABool
bool_of k is = only_bool k (sym (bool_test k) ∙ is)

-- ---- operators, by the kinds of their operands

-- the kind of a result
abbrev bits_kind : Kind → Kind
bits_kind a = if bool_kind a then ABool else AnInt

bits_type : (a : Kind) → (if is_boolean (kind_type a) then ty.Bool else ty.Int) ≡ kind_type (bits_kind a)
bits_type a = ap (λ b. if b then ty.Bool else ty.Int) (bool_test a) ∙ cases (bool_kind a)
  where
    cases : (b : Bool) → (if b then ty.Bool else ty.Int) ≡ kind_type (if b then ABool else AnInt)
    cases true = refl
    cases false = refl

abbrev sum_kind : Kind → Kind → Kind
sum_kind a b = if text_kind a || text_kind b then AText else AnInt

sum_types : (a b : Kind) → (if is_string (kind_type a) || is_string (kind_type b) then ty.Text else ty.Int) ≡ kind_type (sum_kind a b)
sum_types a b = ap (λ x. if x || is_string (kind_type b) then ty.Text else ty.Int) (text_test a) ∙ ap (λ x. if text_kind a || x then ty.Text else ty.Int) (text_test b) ∙ cases (text_kind a || text_kind b)
  where
    cases : (b : Bool) → (if b then ty.Text else ty.Int) ≡ kind_type (if b then AText else AnInt)
    cases true = refl
    cases false = refl

-- two ints or two booleans
abbrev Bits : Kind → Kind → Type 0
Bits AnInt AnInt = Unit {0}
Bits ABool ABool = Unit {0}
Bits _ _ = ⊥

bits_of : (a b : Kind) → (int_kind a || bool_kind a) ≡ true → (if int_kind a then int_kind b else (if bool_kind a then bool_kind b else (int_kind b || bool_kind b))) ≡ true → Bits a b
bits_of AnInt AnInt x y = tt
bits_of ABool ABool x y = tt
bits_of AnInt _ x y = absurd (false≢true y)
bits_of ABool _ x y = absurd (false≢true y)
bits_of _ b x y = absurd (false≢true x)

equates_of : (a b : Kind) → (text_kind a || (text_kind b || (widens a b || widens b a))) ≡ true → ((text_kind a && not (null_kind b)) || (text_kind b && not (null_kind a))) ≡ false → Equates a b
equates_of AnInt AnInt x y = tt
equates_of ABool ABool x y = tt
equates_of AText AnInt x y = absurd (false≢true (sym y))
equates_of AText ABool x y = absurd (false≢true (sym y))
equates_of AText ANull x y = tt
equates_of ANull AText x y = tt
equates_of ANull ANull x y = tt
equates_of _ AText x y = absurd (false≢true (sym y))
equates_of _ _ x y = absurd (false≢true x)

any_text : (a b : Kind) → (text_kind a || text_kind b) ≡ true → (v w : Scalar) → Fits v a → Fits w b → FoldFits (binary_value binary.Add v w) AText
any_text AText b is v w x y = joined_left v w x
any_text AnInt AText is v w x y = joined_right v w y
any_text ABool AText is v w x y = joined_right v w y
any_text ANull AText is v w x y = joined_right v w y
any_text _ _ is v w x y = absurd (false≢true is)

-- a String and another value, or two ints
sum_fits : (a b : Kind) → ((text_kind a || text_kind b) ≡ false → (a ≡ AnInt) × (b ≡ AnInt)) → (v w : Scalar) → Fits v a → Fits w b → FoldFits (binary_value binary.Add v w) (sum_kind a b)
sum_fits a b ints v w x y = cases (text_kind a || text_kind b) refl
  where
    cases : (any : Bool) → (text_kind a || text_kind b) ≡ any → FoldFits (binary_value binary.Add v w) (if any then AText else AnInt)
    cases true is = any_text a b is v w x y
    cases false is = let both = ints is in ints_fit binary.Add AnInt (λ m n. wrapped _) v w (subst (Fits v) both.0 x) (subst (Fits w) both.1 y)

variable_kind : (k : Kind) → variable_denotes (kind_type k) ≡ Some (denotes.Value (kind_type k))
variable_kind AnInt = ap (λ b. if b then None else Some (denotes.Value ty.Int)) facts.is_void-Int
variable_kind ABool = ap (λ b. if b then None else Some (denotes.Value ty.Bool)) facts.is_void-Bool
variable_kind AText = ap (λ b. if b then None else Some (denotes.Value ty.Text)) facts.is_void-Text
variable_kind ANull = ap (λ b. if b then None else Some (denotes.Value ty.Null)) facts.is_void-Null

-- what is read of a field or constant of a type
abbrev pub ReadFits : Ty → Folded → Type 0
ReadFits t (folded.Gives v) = (k : Kind) × (t ≡ kind_type k) × Fits v k
ReadFits t folded.Other = Unit {0}
ReadFits t _ = ⊥

read_matches : (t : Ty) (f : Folded) → ReadFits t f → Matches (variable_denotes t) f
read_matches t (folded.Gives v) fits = (fits.0, ap variable_denotes fits.1 ∙ variable_kind fits.0, fits.2)
read_matches t folded.Other fits = tt
read_matches t _ fits = absurd fits

module _ (env : Environment) (s : Scope) (classes : List CoreClass) (agree : (c d : ℕ) → is_below env.symbols c d ≡ is_subclass classes c d)
    (read : (c : ℕ) (x : Name) (m : FieldSymbol) → member_of env c x ≡ Some m → ReadFits m.ty (field_folded env m)) where
  -- ---- names

  name_matches : (x : Ident) → Matches (attr_at env s (Expr-F.Name x)).denotes (name_folded env (meaning_of env.symbols s x.name))
  name_matches x = of_local (local_named s x.name) refl
    where
      of_class : local_named s x.name ≡ None → member_of env s.class x.name ≡ None → (found : Option ℕ) → class_named env x.name ≡ found → Matches (attr_at env s (Expr-F.Name x)).denotes (name_folded env (meaning_of env.symbols s x.name))
      of_class no_local no_member (Some c) is = rw (no_local, no_member, is) refl
      of_class no_local no_member None is = rw (no_local, no_member, is) tt

      of_member : local_named s x.name ≡ None → (found : Option FieldSymbol) → member_of env s.class x.name ≡ found → Matches (attr_at env s (Expr-F.Name x)).denotes (name_folded env (meaning_of env.symbols s x.name))
      of_member no_local (Some m) is = rw (no_local, is) (read_matches m.ty (field_folded env m) (read s.class x.name m is))
      of_member no_local None is = of_class no_local is (class_named env x.name) refl

      of_local : (found : Option ℕ) → local_named s x.name ≡ found → Matches (attr_at env s (Expr-F.Name x)).denotes (name_folded env (meaning_of env.symbols s x.name))
      of_local (Some n) is = rw is tt
      of_local None is = of_member is (member_of env s.class x.name) refl

  behind_matches : (o : Attr) (f : Ident) (fo : Folded) → Matches o.denotes fo → Matches (attr_at env s (Expr-F.Field o f)).denotes (behind_folded env fo f.name)
  behind_matches o f (folded.Class c) matches =
      subst (λ d. Matches (option_map_or (member_denotes env.symbols) (naming_behind o f d) (library_field f.name d)) (found_folded env (member_of env c f.name))) (sym matches) (of_member (member_of env c f.name) refl)
    where
      of_member : (found : Option FieldSymbol) → member_of env c f.name ≡ found → Matches (option_and_then (λ m. variable_denotes m.ty) (option_and_then (λ m. if is_some m.place || true then Some m else None) found)) (found_folded env found)
      of_member None is = tt
      of_member (Some m) is =
          subst (λ b. Matches (option_and_then (λ m. variable_denotes m.ty) (if b then Some m else None)) (field_folded env m)) (sym (or-true (is_some m.place))) (read_matches m.ty (field_folded env m) (read c f.name m is))
  behind_matches o f _ matches = tt

  -- ---- operators

  unary_sound : (at : ℕ) (op : UnaryOp) (e : Attr) (f : Folded) → Sound e f → Sound (attr_at env s (Expr-F.Unary at op e)) (folded_at env s (Expr-F.Unary at op f))
  unary_sound at unary.Plus e f sound none =
      let b = breaks_none env s (Expr-F.Unary at unary.Plus e) none in
      gated (Some (denotes.Value ty.Int)) (list_all is_made (f ∷ [])) (unary_folded unary.Plus f) (λ made.
      let t = value_sound e f sound b.below (first_so (is_made f) (list_all is_made []) made) in
      (AnInt, refl, (sign_fits f (subst (FoldFits f) (int_of t.0 (wanted is_int e t.0 t.1 b.rule_11)) t.2)).0))
  unary_sound at unary.Minus e f sound none =
      let b = breaks_none env s (Expr-F.Unary at unary.Minus e) none in
      gated (Some (denotes.Value ty.Int)) (list_all is_made (f ∷ [])) (unary_folded unary.Minus f) (λ made.
      let t = negated_sound e f sound b.below (first_so (is_made f) (list_all is_made []) made) in
      (AnInt, refl, (sign_fits f (subst (FoldFits f) (int_of t.0 (wanted is_int e t.0 t.1 b.rule_11)) t.2)).1))
  unary_sound at unary.Complement e f sound none =
      let b = breaks_none env s (Expr-F.Unary at unary.Complement e) none in
      gated (Some (denotes.Value ty.Int)) (list_all is_made (f ∷ [])) (unary_folded unary.Complement f) (λ made.
      let t = value_sound e f sound b.below (first_so (is_made f) (list_all is_made []) made) in
      (AnInt, refl, (sign_fits f (subst (FoldFits f) (int_of t.0 (wanted is_int e t.0 t.1 b.rule_11)) t.2)).2))
  unary_sound at unary.Not e f sound none =
      let b = breaks_none env s (Expr-F.Unary at unary.Not e) none in
      gated (Some (denotes.Value ty.Bool)) (list_all is_made (f ∷ [])) (unary_folded unary.Not f) (λ made.
      let t = value_sound e f sound b.below (first_so (is_made f) (list_all is_made []) made) in
      (ABool, refl, not_fits f (subst (FoldFits f) (bool_of t.0 (wanted is_boolean e t.0 t.1 b.rule_11)) t.2)))

  module _ (l r : Attr) (f g : Folded) where
    abbrev pub Operands : Type 0
    Operands = Typed l.denotes f × Typed r.denotes g

    pub operands : Sound l f → Sound r g → value_faults l ++ value_faults r ≡ [] → list_all is_made (f ∷ g ∷ []) ≡ true → Operands
    operands sound_l sound_r none made =
        let parts = empty_parts (value_faults l) (value_faults r) none in
        let more = second_so (is_made f) (list_all is_made (g ∷ [])) made in
        (value_sound l f sound_l parts.0 (first_so (is_made f) (list_all is_made (g ∷ [])) made), value_sound r g sound_r parts.1 (first_so (is_made g) (list_all is_made []) more))

    both_ints : (t : Operands) → both_11 is_int l r ≡ [] → (t.0.0 ≡ AnInt) × (t.1.0 ≡ AnInt)
    both_ints t none =
        let parts = empty_parts (wants is_int l) (wants is_int r) none in
        (int_of t.0.0 (wanted is_int l t.0.0 t.0.1 parts.0), int_of t.1.0 (wanted is_int r t.1.0 t.1.1 parts.1))

    both_bools : (t : Operands) → both_11 is_boolean l r ≡ [] → (t.0.0 ≡ ABool) × (t.1.0 ≡ ABool)
    both_bools t none =
        let parts = empty_parts (wants is_boolean l) (wants is_boolean r) none in
        (bool_of t.0.0 (wanted is_boolean l t.0.0 t.0.1 parts.0), bool_of t.1.0 (wanted is_boolean r t.1.0 t.1.1 parts.1))

    ints_folded : (op : BinaryOp) (k : Kind) → ((m n : ℤ) → FoldFits (binary_value op (scalar.Int m) (scalar.Int n)) k) → (t : Operands) → both_11 is_int l r ≡ [] → FoldFits (strict_folded op f g) k
    ints_folded op k each t none =
        let is = both_ints t none in
        strict_fits op f g AnInt AnInt k (subst (FoldFits f) is.0 t.0.2) (subst (FoldFits g) is.1 t.1.2) (ints_fit op k each)

    -- the type that the rules give
    abbrev result : BinaryOp → Option Denotation
    result op = value (binary_type op (value_type l.denotes) (value_type r.denotes))

    bits_said : (t : Operands) → value (bitwise_type (value_type l.denotes)) ≡ Some (denotes.Value (kind_type (bits_kind t.0.0)))
    bits_said t = ap (λ d. value (bitwise_type (value_type d))) t.0.1 ∙ ap (λ u. Some (denotes.Value u)) (bits_type t.0.0)

    bits_operands : (t : Operands) → bitwise_11 l r ≡ [] → Bits t.0.0 t.1.0
    bits_operands t none =
        let parts = empty_parts (wants is_bitwise l) (wants (fits_bitwise (value_type l.denotes)) r) none in
        let a = t.0.0 in
        let b = t.1.0 in
        let first : (is_int (kind_type a) || is_boolean (kind_type a)) ≡ true = wanted is_bitwise l a t.0.1 parts.0 in
        let second : (if is_int (kind_type a) then is_int (kind_type b) else (if is_boolean (kind_type a) then is_boolean (kind_type b) else (is_int (kind_type b) || is_boolean (kind_type b)))) ≡ true =
        subst (λ d. IsTrue (fits_bitwise (value_type d) (kind_type b))) t.0.1 (wanted (fits_bitwise (value_type l.denotes)) r b t.1.1 parts.1) in
        bits_of a b
        (ap (λ x. x || bool_kind a) (sym (int_test a)) ∙ ap (λ x. is_int (kind_type a) || x) (sym (bool_test a)) ∙ first)
        (ap (λ x. if x then int_kind b else (if bool_kind a then bool_kind b else (int_kind b || bool_kind b))) (sym (int_test a))
        ∙ ap (λ x. if is_int (kind_type a) then int_kind b else (if x then bool_kind b else (int_kind b || bool_kind b))) (sym (bool_test a))
        ∙ ap (λ x. if is_int (kind_type a) then x else (if is_boolean (kind_type a) then bool_kind b else (x || bool_kind b))) (sym (int_test b))
        ∙ ap (λ x. if is_int (kind_type a) then is_int (kind_type b) else (if is_boolean (kind_type a) then x else (is_int (kind_type b) || x))) (sym (bool_test b))
        ∙ second)

    bits_values : (op : BinaryOp) (a b : Kind) → Bits a b → ((m n : ℤ) → FoldFits (binary_value op (scalar.Int m) (scalar.Int n)) AnInt) → ((m n : Bool) → FoldFits (binary_value op (scalar.Bool m) (scalar.Bool n)) ABool) → (v w : Scalar) → Fits v a → Fits w b → FoldFits (binary_value op v w) (bits_kind a)
    bits_values op AnInt AnInt ok ints bools v w x y = ints_fit op AnInt ints v w x y
    bits_values op ABool ABool ok ints bools v w x y = bools_fit op ABool bools v w x y
    bits_values op _ _ ok ints bools v w x y = absurd ok

    bits_typed : (op : BinaryOp) → ((m n : ℤ) → FoldFits (binary_value op (scalar.Int m) (scalar.Int n)) AnInt) → ((m n : Bool) → FoldFits (binary_value op (scalar.Bool m) (scalar.Bool n)) ABool) → (t : Operands) → bitwise_11 l r ≡ [] → Typed (value (bitwise_type (value_type l.denotes))) (strict_folded op f g)
    bits_typed op ints bools t none =
        (bits_kind t.0.0, bits_said t, strict_fits op f g t.0.0 t.1.0 (bits_kind t.0.0) t.0.2 t.1.2 (bits_values op t.0.0 t.1.0 (bits_operands t none) ints bools))

    equal_operands : (t : Operands) → equality_11 env l r ≡ [] → equality_16 l r ≡ [] → Equates t.0.0 t.1.0
    equal_operands t none_11 none_16 =
        let a = t.0.0 in
        let b = t.1.0 in
        let s11 : (is_string (kind_type a) || (is_string (kind_type b) || rules.is_either_way env.symbols (kind_type a) (kind_type b))) ≡ true =
        unless_empty _ l.at (asked (λ a b. unless (is_string a || (is_string b || rules.is_either_way env.symbols a b)) l.at) l r a b t.0.1 t.1.1 none_11) in
        let s16 : ((is_string (kind_type a) && not (is_null (kind_type b))) || (is_string (kind_type b) && not (is_null (kind_type a)))) ≡ false =
        only_if_empty _ l.at (asked (λ a b. only_if ((is_string a && not (is_null b)) || (is_string b && not (is_null a))) l.at) l r a b t.0.1 t.1.1 none_16) in
        equates_of a b
        (ap (λ x. x || (text_kind b || (widens a b || widens b a))) (sym (text_test a))
        ∙ ap (λ x. is_string (kind_type a) || (x || (widens a b || widens b a))) (sym (text_test b))
        ∙ ap (λ x. is_string (kind_type a) || (is_string (kind_type b) || (x || widens b a))) (sym (widens_test env.symbols classes agree a b))
        ∙ ap (λ x. is_string (kind_type a) || (is_string (kind_type b) || (rules.is_assignable env.symbols (kind_type a) (kind_type b) || x))) (sym (widens_test env.symbols classes agree b a))
        ∙ s11)
        (ap (λ x. (x && not (null_kind b)) || (text_kind b && not (null_kind a))) (sym (text_test a))
        ∙ ap (λ x. (is_string (kind_type a) && not x) || (text_kind b && not (null_kind a))) (sym (null_test b))
        ∙ ap (λ x. (is_string (kind_type a) && not (is_null (kind_type b))) || (x && not (null_kind a))) (sym (text_test b))
        ∙ ap (λ x. (is_string (kind_type a) && not (is_null (kind_type b))) || (is_string (kind_type b) && not x)) (sym (null_test a))
        ∙ s16)

    sum_said : (t : Operands) → result binary.Add ≡ Some (denotes.Value (kind_type (sum_kind t.0.0 t.1.0)))
    sum_said t = ap (λ d. value (binary_type binary.Add (value_type d) (value_type r.denotes))) t.0.1 ∙ ap (λ d. value (binary_type binary.Add (Some (kind_type t.0.0)) (value_type d))) t.1.1 ∙ ap (λ u. Some (denotes.Value u)) (sum_types t.0.0 t.1.0)

    pub sum_operands : (t : Operands) → sum_11 l r ≡ [] → (text_kind t.0.0 || text_kind t.1.0) ≡ false → (t.0.0 ≡ AnInt) × (t.1.0 ≡ AnInt)
    sum_operands t none no_text =
        let a = t.0.0 in
        let b = t.1.0 in
        let is : (is_string (kind_type a) || is_string (kind_type b)) ≡ false = ap (λ x. x || is_string (kind_type b)) (text_test a) ∙ ap (λ x. text_kind a || x) (text_test b) ∙ no_text in
        both_ints t (ap (λ x. if x then [] else both_11 is_int l r) (sym is) ∙ asked (λ a b. if is_string a || is_string b then [] else both_11 is_int l r) l r a b t.0.1 t.1.1 none)

    sum_typed : (t : Operands) → sum_11 l r ≡ [] → Typed (result binary.Add) (strict_folded binary.Add f g)
    sum_typed t none = (sum_kind t.0.0 t.1.0, sum_said t, strict_fits binary.Add f g t.0.0 t.1.0 (sum_kind t.0.0 t.1.0) t.0.2 t.1.2 (sum_fits t.0.0 t.1.0 (sum_operands t none)))

    -- an operator between operands that are evaluated or not
    of_operands : (op : BinaryOp) → Sound l f → Sound r g → (attr_at env s (Expr-F.Binary op l r)).faults ≡ [] → (Operands → Typed (result op) (binary_folded op f g)) → Matches (result op) (folded_at env s (Expr-F.Binary op f g))
    of_operands op sound_l sound_r none typed =
        gated (result op) (list_all is_made (f ∷ g ∷ [])) (binary_folded op f g) (λ made. typed (operands sound_l sound_r (breaks_none env s (Expr-F.Binary op l r) none).below made))

    binary_sound : (op : BinaryOp) → Sound l f → Sound r g → Sound (attr_at env s (Expr-F.Binary op l r)) (folded_at env s (Expr-F.Binary op f g))
    binary_sound binary.Or x y none = of_operands binary.Or x y none (λ t. let is = both_bools t (breaks_none env s (Expr-F.Binary binary.Or l r) none).rule_11 in (ABool, refl, choice_fits f (gives_bool true) g ABool (subst (FoldFits f) is.0 t.0.2) tt (subst (FoldFits g) is.1 t.1.2)))
    binary_sound binary.And x y none = of_operands binary.And x y none (λ t. let is = both_bools t (breaks_none env s (Expr-F.Binary binary.And l r) none).rule_11 in (ABool, refl, choice_fits f g (gives_bool false) ABool (subst (FoldFits f) is.0 t.0.2) (subst (FoldFits g) is.1 t.1.2) tt))
    binary_sound binary.BitOr x y none = of_operands binary.BitOr x y none (λ t. bits_typed binary.BitOr (λ m n. digits_fit _) (λ m n. tt) t (breaks_none env s (Expr-F.Binary binary.BitOr l r) none).rule_11)
    binary_sound binary.BitXor x y none = of_operands binary.BitXor x y none (λ t. bits_typed binary.BitXor (λ m n. digits_fit _) (λ m n. tt) t (breaks_none env s (Expr-F.Binary binary.BitXor l r) none).rule_11)
    binary_sound binary.BitAnd x y none = of_operands binary.BitAnd x y none (λ t. bits_typed binary.BitAnd (λ m n. digits_fit _) (λ m n. tt) t (breaks_none env s (Expr-F.Binary binary.BitAnd l r) none).rule_11)
    binary_sound binary.Equal x y none = of_operands binary.Equal x y none (λ t. let b = breaks_none env s (Expr-F.Binary binary.Equal l r) none in (ABool, refl, strict_fits binary.Equal f g t.0.0 t.1.0 ABool t.0.2 t.1.2 (λ v w p q. (equal_fits t.0.0 t.1.0 (equal_operands t b.rule_11 b.rule_16) v w p q).0)))
    binary_sound binary.NotEqual x y none = of_operands binary.NotEqual x y none (λ t. let b = breaks_none env s (Expr-F.Binary binary.NotEqual l r) none in (ABool, refl, strict_fits binary.NotEqual f g t.0.0 t.1.0 ABool t.0.2 t.1.2 (λ v w p q. (equal_fits t.0.0 t.1.0 (equal_operands t b.rule_11 b.rule_16) v w p q).1)))
    binary_sound binary.Less x y none = of_operands binary.Less x y none (λ t. (ABool, refl, ints_folded binary.Less ABool (λ m n. tt) t (breaks_none env s (Expr-F.Binary binary.Less l r) none).rule_11))
    binary_sound binary.Greater x y none = of_operands binary.Greater x y none (λ t. (ABool, refl, ints_folded binary.Greater ABool (λ m n. tt) t (breaks_none env s (Expr-F.Binary binary.Greater l r) none).rule_11))
    binary_sound binary.LessEqual x y none = of_operands binary.LessEqual x y none (λ t. (ABool, refl, ints_folded binary.LessEqual ABool (λ m n. tt) t (breaks_none env s (Expr-F.Binary binary.LessEqual l r) none).rule_11))
    binary_sound binary.GreaterEqual x y none = of_operands binary.GreaterEqual x y none (λ t. (ABool, refl, ints_folded binary.GreaterEqual ABool (λ m n. tt) t (breaks_none env s (Expr-F.Binary binary.GreaterEqual l r) none).rule_11))
    binary_sound binary.ShiftLeft x y none = of_operands binary.ShiftLeft x y none (λ t. (AnInt, refl, ints_folded binary.ShiftLeft AnInt (λ m n. wrapped _) t (breaks_none env s (Expr-F.Binary binary.ShiftLeft l r) none).rule_11))
    binary_sound binary.ShiftRight x y none = of_operands binary.ShiftRight x y none (λ t. (AnInt, refl, ints_folded binary.ShiftRight AnInt (λ m n. wrapped _) t (breaks_none env s (Expr-F.Binary binary.ShiftRight l r) none).rule_11))
    binary_sound binary.UnsignedShiftRight x y none = of_operands binary.UnsignedShiftRight x y none (λ t. (AnInt, refl, ints_folded binary.UnsignedShiftRight AnInt (λ m n. wrapped _) t (breaks_none env s (Expr-F.Binary binary.UnsignedShiftRight l r) none).rule_11))
    binary_sound binary.Subtract x y none = of_operands binary.Subtract x y none (λ t. (AnInt, refl, ints_folded binary.Subtract AnInt (λ m n. wrapped _) t (breaks_none env s (Expr-F.Binary binary.Subtract l r) none).rule_11))
    binary_sound binary.Multiply x y none = of_operands binary.Multiply x y none (λ t. (AnInt, refl, ints_folded binary.Multiply AnInt (λ m n. wrapped _) t (breaks_none env s (Expr-F.Binary binary.Multiply l r) none).rule_11))
    binary_sound binary.Divide x y none = of_operands binary.Divide x y none (λ t. (AnInt, refl, ints_folded binary.Divide AnInt (λ m n. divided_fits n (int_div m n)) t (breaks_none env s (Expr-F.Binary binary.Divide l r) none).rule_11))
    binary_sound binary.Remainder x y none = of_operands binary.Remainder x y none (λ t. (AnInt, refl, ints_folded binary.Remainder AnInt (λ m n. divided_fits n (int_rem m n)) t (breaks_none env s (Expr-F.Binary binary.Remainder l r) none).rule_11))
    binary_sound binary.Add x y none = of_operands binary.Add x y none (λ t. sum_typed t (breaks_none env s (Expr-F.Binary binary.Add l r) none).rule_11)

  conditional_sound : (c a b : Attr) (fc fa fb : Folded) → Sound c fc → Sound a fa → Sound b fb → Sound (attr_at env s (Expr-F.Conditional c a b)) (folded_at env s (Expr-F.Conditional fc fa fb))
  conditional_sound c a b fc fa fb sound_c sound_a sound_b none =
      let none_of = breaks_none env s (Expr-F.Conditional c a b) none in
      let below = empty_parts (value_faults c) (value_faults a ++ value_faults b) none_of.below in
      let below_both = empty_parts (value_faults a) (value_faults b) below.1 in
      let here = empty_parts (wants is_boolean c) (of_types (λ t u. unless (rules.is_either_way env.symbols t u) b.at) a b) none_of.rule_11 in
      gated (value (choice_type env.symbols (value_type a.denotes) (value_type b.denotes))) (list_all is_made (fc ∷ fa ∷ fb ∷ [])) (choice_folded fc fa fb) (λ made.
      let made_rest = second_so (is_made fc) (list_all is_made (fa ∷ fb ∷ [])) made in
      let made_last = second_so (is_made fa) (list_all is_made (fb ∷ [])) made_rest in
      let t = value_sound c fc sound_c below.0 (first_so (is_made fc) (list_all is_made (fa ∷ fb ∷ [])) made) in
      let u = value_sound a fa sound_a below_both.0 (first_so (is_made fa) (list_all is_made (fb ∷ [])) made_rest) in
      let v = value_sound b fb sound_b below_both.1 (first_so (is_made fb) (list_all is_made []) made_last) in
      let either : rules.is_either_way env.symbols (kind_type u.0) (kind_type v.0) ≡ true = unless_empty _ b.at (asked (λ t u. unless (rules.is_either_way env.symbols t u) b.at) a b u.0 v.0 u.1 v.1 here.1) in
      chosen u.0 v.0 u.1 v.1 (subst (FoldFits fc) (bool_of t.0 (wanted is_boolean c t.0 t.1 here.0)) t.2) u.2 v.2 either
      (widens u.0 v.0) refl (sym (ap (λ x. x || rules.is_assignable env.symbols (kind_type v.0) (kind_type u.0)) (widens_test env.symbols classes agree u.0 v.0) ∙ ap (λ x. widens u.0 v.0 || x) (widens_test env.symbols classes agree v.0 u.0)) ∙ either))
    where
      said : (i j : Kind) → a.denotes ≡ Some (denotes.Value (kind_type i)) → b.denotes ≡ Some (denotes.Value (kind_type j)) → rules.is_either_way env.symbols (kind_type i) (kind_type j) ≡ true → (wider : Bool) → widens i j ≡ wider →
          value (choice_type env.symbols (value_type a.denotes) (value_type b.denotes)) ≡ Some (denotes.Value (kind_type (if wider then j else i)))
      said i j is_a is_b either wider is_wider =
          ap (λ d. value (choice_type env.symbols (value_type d) (value_type b.denotes))) is_a
          ∙ ap (λ d. value (choice_type env.symbols (Some (kind_type i)) (value_type d))) is_b
          ∙ ap (λ x. value (if x then Some (rules.wider env.symbols (kind_type i) (kind_type j)) else None)) either
          ∙ ap (λ x. Some (denotes.Value (if x then kind_type j else kind_type i))) (widens_test env.symbols classes agree i j ∙ is_wider)
          ∙ ap (λ u. Some (denotes.Value u)) (joins wider)
        where
          joins : (x : Bool) → (if x then kind_type j else kind_type i) ≡ kind_type (if x then j else i)
          joins true = refl
          joins false = refl

      chosen : (i j : Kind) → a.denotes ≡ Some (denotes.Value (kind_type i)) → b.denotes ≡ Some (denotes.Value (kind_type j)) → FoldFits fc ABool → FoldFits fa i → FoldFits fb j → rules.is_either_way env.symbols (kind_type i) (kind_type j) ≡ true →
          (wider : Bool) → widens i j ≡ wider → (widens i j || widens j i) ≡ true → Typed (value (choice_type env.symbols (value_type a.denotes) (value_type b.denotes))) (choice_folded fc fa fb)
      chosen i j is_a is_b x y z either true is one = (j, said i j is_a is_b either true is, choice_fits fc fa fb j x (folded_widens i j fa is y) z)
      chosen i j is_a is_b x y z either false is one = (i, said i j is_a is_b either false is, choice_fits fc fa fb i x y (folded_widens j i fb (ap (λ w. w || widens j i) (sym is) ∙ one) z))

  -- ---- all kinds of nodes

  abbrev IsDone : Expr → Type 0
  IsDone e = Sound (attr env s e) (folded_of env s e)

  abbrev Done : Type 0
  Done = (e : Expr) × IsDone e

  number_sound : (at n : ℕ) → Sound (attr_at env s (Expr-F.Number at n)) (folded_at env s (Expr-F.Number at n))
  number_sound at n none =
      let small = unless_empty (nat_le n 2_147_483_648) at (breaks_none env s (Expr-F.Number at n) none).rule_19 in
      subst (λ b. Matches (Some (denotes.Value ty.Int)) (if b then gives_int (wrap (pos n)) else folded.Unknown)) (sym small) (AnInt, refl, wrapped (pos n))

  paren_sound : (at : ℕ) (e : Attr) (f : Folded) → Sound e f → Sound (attr_at env s (Expr-F.Paren at e)) (folded_at env s (Expr-F.Paren at f))
  paren_sound at e f sound none =
      gated (value (value_type e.denotes)) (list_all is_made (f ∷ [])) f (λ made.
      let t = value_sound e f sound (breaks_none env s (Expr-F.Paren at e) none).below (first_so (is_made f) (list_all is_made []) made) in
      (t.0, ap (λ d. value (value_type d)) t.1, t.2))

  field_sound : (o : Attr) (f : Ident) (fo : Folded) → Sound o fo → Sound (attr_at env s (Expr-F.Field o f)) (folded_at env s (Expr-F.Field fo f))
  field_sound o f fo sound none =
      behind_matches o f fo (sound (empty_parts o.faults (of_rule 11 (nothing_11 o) (of_rule 19 (bare_19 o) [])) (breaks_none env s (Expr-F.Field o f) none).below).0)

  node : (y : Expr-F Done) → Sound (attr_at env s (map-Expr Expr Attr (attr env s) (map-Expr Done Expr (λ d. d.0) y))) (folded_at env s (map-Expr Expr Folded (folded_of env s) (map-Expr Done Expr (λ d. d.0) y)))
  node (Expr-F.Number at n) none = number_sound at n none
  node (Expr-F.Text at t) none = matches_of (Some (denotes.Value ty.Text)) (folded_at env s (Expr-F.Text at t)) (AText, refl, text_fits t)
  node (Expr-F.Bool at b) none = (ABool, refl, tt)
  node (Expr-F.Null at) none = (ANull, refl, tt)
  node (Expr-F.Name x) none = name_matches x
  node (Expr-F.Paren at e) none = paren_sound at (attr env s e.0) (folded_of env s e.0) e.1 none
  node (Expr-F.Field o f) none = field_sound (attr env s o.0) f (folded_of env s o.0) o.1 none
  node (Expr-F.Unary at op e) none = unary_sound at op (attr env s e.0) (folded_of env s e.0) e.1 none
  node (Expr-F.Binary op l r) none = binary_sound (attr env s l.0) (attr env s r.0) (folded_of env s l.0) (folded_of env s r.0) op l.1 r.1 none
  node (Expr-F.Conditional c a b) none = conditional_sound (attr env s c.0) (attr env s a.0) (attr env s b.0) (folded_of env s c.0) (folded_of env s a.0) (folded_of env s b.0) c.1 a.1 b.1 none
  node _ none = tt

  rolled : (x : Expr-F Expr) → Sound (attr_at env s (map-Expr Expr Attr (attr env s) x)) (folded_at env s (map-Expr Expr Folded (folded_of env s) x)) → IsDone (roll-Expr x)
  unfolding attr folded_of
  rolled x holds =
      subst (λ a. Sound a (folded_of env s (roll-Expr x))) (sym (fold-roll-Expr Attr (attr_at env s) x))
      (subst (Sound (attr_at env s (map-Expr Expr Attr (attr env s) x))) (sym (fold-roll-Expr Folded (folded_at env s) x)) holds)

  -- what an initialiser that breaks no rule evaluates to fits what it denotes
  pub folded_sound : (e : Expr) → IsDone e
  folded_sound = ind-Expr IsDone step
    where
      step : (x : Expr-F Expr) (y : Expr-F Done) → map-Expr Done Expr (λ d. d.0) y ≡ x → IsDone (roll-Expr x)
      step x y is = subst (λ x. IsDone (roll-Expr x)) is (rolled (map-Expr Done Expr (λ d. d.0) y) (node y))
