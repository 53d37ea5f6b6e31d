-- Members that are read are written.
use Rattle.std.proofs.lemmas.List.{append-nil}
use Rattle.std.proofs.Common.{◌≡◌, ℕ, zero, suc, ◌≤◌, ◌<◌, List, [], ◌∷◌, ◌++◌, length, Option, Some, None, refl, sym, ◌∙◌, ap, subst, arith, append_assoc}
use Rattle.java_tokens.specs.declared.token.Keyword.{Keyword}
use Rattle.java_tokens.specs.declared.token.Keyword.TheVariants as word
use Rattle.java_tokens.specs.declared.token.Operator.TheVariants as o
use Rattle.java_tokens.specs.declared.token.TokenKind.{TokenKind}
use Rattle.java_tokens.specs.declared.token.TokenKind.TheVariants as k
use Rattle.java_syntax.specs.declared.class.MakerTree.{MakerTree}
use Rattle.java_syntax.specs.declared.class.Member.{Member}
use Rattle.java_syntax.specs.declared.class.Member.TheVariants as kinds
use Rattle.java_syntax.specs.declared.class.Modifier.{Modifier}
use Rattle.java_syntax.specs.declared.class.Modifier.TheVariants as modifier
use Rattle.java_syntax.specs.declared.class.Mods.{Mods}
use Rattle.token_reading.specs.declared.name.Ident.{Ident}
use Rattle.token_reading.specs.declared.name.TypeTree.{TypeTree}
use Rattle.token_reading.specs.Lexeme.{Lexeme, lexeme, Then, sees, sees_word}
use Rattle.token_reading.specs.Types.{IsIdent, IsType}
use Rattle.token_reading.specs.Height.{type_height, params_height}
use Rattle.java_syntax.specs.Exprs.{Within}
use Rattle.java_syntax.specs.Stmts.{UnendedWithin, Stmts, StmtWithin}
use Rattle.java_syntax.specs.Classes.{modifier_word, Modifiers, MoreNames, Throws, Answer, Invocable, MemberNode, answer_height, member_type_height, MemberWithin}
use Rattle.token_reading.specs.Outcome.{Outcome}
use Rattle.token_reading.specs.ReadType.{next}
use Rattle.java_reading.specs.ReadStmt.{value, body}
use Rattle.java_reading.specs.ReadClass.{modifier_keyword, modifier_by, modifier_at, on, modifiers, names, throws, mods_of, maker_of, method_of, is_maker, maker, method, field, void_method, constructor, typed, declared, member_node, member}
use Rattle.java_reading.proofs.ArgsFacts.{ArgsFacts}
use Rattle.java_reading.proofs.ExprFacts.{ExprFacts}
use Rattle.java_reading.proofs.SimpleSound.{initial_gives}
use Rattle.token_reading.proofs.Steps.{Gives, gives, gives_none, gives_then, gives_map, gives_if}
use Rattle.java_reading.proofs.StmtSound.{body_gives, stmt_sound}
use Rattle.token_reading.proofs.Lexemes.{then_length, from_sees, from_sees_word}
use Rattle.token_reading.proofs.Given.{Takes, MayTake, op_gives, ident_gives, type_gives, none_gives, params_gives}

-- ---- modifiers

modifier_keyword_is : (v : Keyword) (m : Modifier) → modifier_keyword v ≡ Some m → v ≡ modifier_word m
modifier_keyword_is word.Public m h = let same : modifier.Public ≡ m = cc in ap modifier_word same
modifier_keyword_is word.Protected m h = let same : modifier.Protected ≡ m = cc in ap modifier_word same
modifier_keyword_is word.Private m h = let same : modifier.Private ≡ m = cc in ap modifier_word same
modifier_keyword_is word.Static m h = let same : modifier.Static ≡ m = cc in ap modifier_word same
modifier_keyword_is word.Final m h = let same : modifier.Final ≡ m = cc in ap modifier_word same
modifier_keyword_is _ m h = absurd (cc)

modifier_kind : (x : Lexeme) (xs : List Lexeme) (m : Modifier) (kd : TokenKind) → x.kind ≡ kd → modifier_by kd ≡ Some m
    → Then (k.Word (modifier_word m)) (x ∷ xs) xs
modifier_kind x xs m (k.Word v) is h = (x.at, ap (λ kd. lexeme x.at kd ∷ xs) (is ∙ ap k.Word (modifier_keyword_is v m h)))
modifier_kind x xs m _ is h = absurd (cc)

from_modifier : (m : Modifier) (xs : List Lexeme) → modifier_at xs ≡ Some m → Then (k.Word (modifier_word m)) xs (next xs)
from_modifier m [] h = absurd (cc)
from_modifier m (x ∷ xs) h = modifier_kind x xs m x.kind refl h

gives_on : {A B : Type 0} {P : B → List Lexeme → Type 0} {H : Type 0} (a : Option A) (f : A → Outcome B) {y : Outcome B}
    → ((x : A) → a ≡ Some x → Gives P H (f x)) → (a ≡ None → Gives P H y) → Gives P H (on a f y)
gives_on (Some x) f some none = some x refl
gives_on None f some none = none refl

modifiers_from : (fuel : ℕ) (done : List Modifier) (xs : List Lexeme)
    → MayTake (λ all xs rest. (more : List Modifier) × (all ≡ done ++ more) × Modifiers more xs rest) xs ⊥ (modifiers fuel done xs)
unfolding modifiers
modifiers_from zero done xs = gives_on (modifier_at xs) _ (λ m is. gives_none) (λ h. gives done xs (([], sym (append-nil done), refl), omega arith))
modifiers_from (suc fuel) done xs =
    gives_on (modifier_at xs) _
    (λ m is. let t = from_modifier m xs is in
    gives_map (λ all us v. (
      (m ∷ v.0.0, v.0.1 ∙ append_assoc done (m ∷ []) v.0.0, (next xs, t, v.0.2)),
      omega (arith, v.1, then_length _ xs (next xs) t),
    ))
    (λ h. h) (modifiers_from fuel (done ++ m ∷ []) (next xs)))
    (λ h. gives done xs (([], sym (append-nil done), refl), omega arith))

modifiers_gives : (xs : List Lexeme) → MayTake Modifiers xs ⊥ (modifiers (length xs) [] xs)
modifiers_gives xs =
    gives_map (λ all us v. (subst (λ (l : List Modifier). Modifiers l xs us) (sym v.0.1) v.0.2, v.1)) (λ h. h) (modifiers_from (length xs) [] xs)

-- ---- exceptions

names_gives : (fuel : ℕ) (done : List Ident) (xs : List Lexeme)
    → Takes (λ all xs rest. (x : Ident) × (more : List Ident) × (all ≡ done ++ x ∷ more) × (ys : List Lexeme) × IsIdent x xs ys
    × MoreNames more ys rest) xs ⊥ (names fuel done xs)
unfolding names
names_gives zero done xs = gives_none
names_gives (suc fuel) done xs =
    gives_then (ident_gives xs) (λ h. h) (λ x ys w. gives_if (sees o.Comma ys)
    (λ h. let u = from_sees o.Comma ys h in
    gives_map (λ all us v. (
      (x, v.0.0 ∷ v.0.1, v.0.2 ∙ append_assoc done (x ∷ []) (v.0.0 ∷ v.0.1), ys, w.0, (next ys, u, v.0.3, v.0.4, v.0.5)),
      omega (arith, w.1, v.1, then_length _ ys (next ys) u),
    ))
    (λ h. h) (names_gives fuel (done ++ x ∷ []) (next ys)))
    (λ h. gives (done ++ x ∷ []) ys ((x, [], refl, ys, w.0, refl), w.1)))

throws_gives : (xs : List Lexeme) → MayTake Throws xs ⊥ (throws xs)
unfolding throws
throws_gives xs =
    gives_if (sees_word word.Throws xs)
    (λ h. let t = from_sees_word word.Throws xs h in
    gives_map (λ all us v. (
      subst (λ (l : List Ident). Throws l xs us) (sym v.0.2) (next xs, t, v.0.3, v.0.4, v.0.5),
      omega (arith, v.1, then_length _ xs (next xs) t),
    ))
    (λ h. h) (names_gives (length xs) [] (next xs)))
    (λ h. gives [] xs (refl, omega arith))

-- ---- one production each

module _ (facts : ExprFacts) (args_facts : ArgsFacts) (n : ℕ) where
  body_written : (xs : List Lexeme) → Takes (Stmts (Within n) (UnendedWithin n) (StmtWithin n)) xs (n ≤ length xs) (body n xs)
  unfolding body
  body_written xs = body_gives facts args_facts n (stmt_sound facts args_facts n) xs

  -- what a constructor has after its name
  abbrev Behind : MakerTree → List Lexeme → List Lexeme → Type 0
  Behind t xs rest = Invocable (Within n) (Stmts (Within n) (UnendedWithin n) (StmtWithin n)) t.params t.throws t.body xs rest

  maker_gives : (mods : Mods) (name : Ident) (xs : List Lexeme)
      → Takes (λ t xs rest. (t.mods ≡ mods) × (t.name ≡ name) × Behind t xs rest × (params_height t.params ≤ n)) xs (n ≤ length xs)
      (maker n (value n) (body n) mods name xs)
  unfolding maker
  maker_gives mods name xs =
      gives_then (params_gives n xs) (λ h. omega arith) (λ ps ys w. gives_then (throws_gives ys) (λ h. absurd h) (λ ts zs v.
      gives_then (op_gives o.LeftBrace zs) (λ h. absurd h) (λ _ us u. gives_then (body_written us) (λ h. omega (arith, w.1, v.1, u.1)) (λ all vs x.
      gives (maker_of mods name ps ts all) vs
      ((refl, refl, (w.0.0, w.0.1, ys, w.0.2, zs, v.0, us, u.0, x.0), w.0.3), omega (arith, w.1, v.1, u.1, x.1))))))

  -- one level more
  abbrev Whole : Member → List Lexeme → List Lexeme → Type 0
  Whole t xs rest = MemberNode (Within n) (Stmts (Within n) (UnendedWithin n) (StmtWithin n)) t xs rest × (member_type_height t ≤ n)

  -- a member of these modifiers after them
  abbrev Declared : Mods → Member → List Lexeme → List Lexeme → Type 0
  Declared mods t ys rest = (xs : List Lexeme) → Modifiers mods.words xs ys → Whole t xs rest

  method_gives : (mods : Mods) (answer : Option TypeTree) (name : Ident) (ys zs us : List Lexeme) → Answer answer ys zs → answer_height answer ≤ n
      → IsIdent name zs us → length us < length ys
      → Takes (Declared mods) ys (suc n ≤ length ys) (method n (value n) (body n) mods answer name us)
  unfolding method
  method_gives mods answer name ys zs us w low named less =
      gives_then (maker_gives mods name us) (λ h. omega (arith, less)) (λ t vs v.
      gives (kinds.Method (method_of answer t)) vs (
        λ xs ms. (
          (
            ys,
            subst (λ (m : Mods). Modifiers m.words xs ys) (sym v.0.0) ms,
            zs,
            w,
            us,
            subst (λ (x : Ident). IsIdent x zs us) (sym v.0.1) named,
            v.0.2,
          ),
          omega (arith, low, v.0.3),
        ),
        omega (arith, less, v.1),
      ))

  field_gives : (mods : Mods) (t : TypeTree) (name : Ident) (ys zs us : List Lexeme) → IsType t ys zs → type_height t ≤ n → IsIdent name zs us
      → length us < length ys
      → Takes (Declared mods) ys (suc n ≤ length ys) (field n (value n) (body n) mods t name us)
  unfolding field
  field_gives mods t name ys zs us w low named less =
      gives_then (initial_gives facts n us) (λ h. omega (arith, less)) (λ e vs v. gives_then (op_gives o.Semicolon vs) (λ h. absurd h) (λ _ ws u.
      gives _ ws ((λ xs ms. ((ys, ms, zs, w, us, named, vs, v.0, u.0), low)), omega (arith, less, v.1, u.1))))

  typed_gives : (mods : Mods) (ys : List Lexeme) → Takes (Declared mods) ys (suc n ≤ length ys) (typed n (value n) (body n) mods ys)
  unfolding typed
  typed_gives mods ys =
      gives_then (type_gives n ys) (λ h. omega arith) (λ t zs w. gives_then (ident_gives zs) (λ h. absurd h) (λ x us v. gives_if (sees o.LeftParen us)
      (λ h. method_gives mods (Some t) x ys zs us w.0.0 w.0.1 v.0 (omega (arith, w.1, v.1)))
      (λ h. field_gives mods t x ys zs us w.0.0 w.0.1 v.0 (omega (arith, w.1, v.1)))))

  void_gives : (mods : Mods) (ys zs : List Lexeme) → Then (k.Word word.Void) ys zs
      → Takes (Declared mods) ys (suc n ≤ length ys) (void_method n (value n) (body n) mods zs)
  unfolding void_method
  void_gives mods ys zs t =
      gives_then (ident_gives zs) (λ h. absurd h) (λ x us v. method_gives mods None x ys zs us t (omega arith) v.0 (omega (arith, v.1, then_length _ ys zs t)))

  constructor_gives : (mods : Mods) (ys : List Lexeme) → Takes (Declared mods) ys (suc n ≤ length ys) (constructor n (value n) (body n) mods ys)
  unfolding constructor
  constructor_gives mods ys =
      gives_then (ident_gives ys) (λ h. absurd h) (λ x zs w. gives_then (maker_gives mods x zs) (λ h. omega (arith, w.1)) (λ t us v.
      gives (kinds.Maker t) us (
        λ xs ms. (
          (
            ys,
            subst (λ (m : Mods). Modifiers m.words xs ys) (sym v.0.0) ms,
            zs,
            subst (λ (y : Ident). IsIdent y ys zs) (sym v.0.1) w.0,
            v.0.2,
          ),
          v.0.3,
        ),
        omega (arith, w.1, v.1),
      )))

  declared_gives : (mods : Mods) (ys : List Lexeme) → Takes (Declared mods) ys (suc n ≤ length ys) (declared n (value n) (body n) mods ys)
  unfolding declared
  declared_gives mods ys =
      gives_if (sees_word word.Void ys) (λ h. void_gives mods ys (next ys) (from_sees_word word.Void ys h))
      (λ h. gives_if (is_maker ys) (λ h. constructor_gives mods ys) (λ h. typed_gives mods ys))

  node_gives : (xs : List Lexeme) → Takes Whole xs (suc n ≤ length xs)
      (member_node n (value n) (body n) xs)
  unfolding member_node
  node_gives xs =
      gives_if (sees o.Semicolon xs)
      (λ h. let t = from_sees o.Semicolon xs h in gives kinds.Empty (next xs) ((t, omega arith), omega (arith, then_length _ xs (next xs) t)))
      (λ h. gives_then (modifiers_gives xs) (λ h. absurd h) (λ words ys w.
      gives_map (λ t zs v. (v.0 xs w.0, omega (arith, w.1, v.1))) (λ h. omega (arith, w.1)) (declared_gives (mods_of words) ys)))

-- A member that is read is written; with a budget that is too small there are as many tokens at least.
pub member_sound : ExprFacts → ArgsFacts → (n : ℕ) (xs : List Lexeme) → Takes (MemberWithin n) xs (n ≤ length xs) (member n xs)
unfolding member
member_sound facts args_facts zero xs = gives_map (λ t ys w. w) (λ h. omega arith) (none_gives xs)
member_sound facts args_facts (suc n) xs = node_gives facts args_facts n xs
