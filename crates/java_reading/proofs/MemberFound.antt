-- Members that are written are found.
use Rattle.std.proofs.lemmas.List.{append-nil}
use Rattle.std.proofs.Common.{◌≡◌, ℕ, zero, suc, ◌+◌, ◌≤◌, ◌<◌, List, [], ◌∷◌, ◌++◌, length, true, false, Option, Some, None, Ok, refl, ap, subst, arith, append_assoc}
use Rattle.java_tokens.specs.declared.token.Keyword.TheVariants as word
use Rattle.java_tokens.specs.declared.token.Operator.{Operator}
use Rattle.java_tokens.specs.declared.token.Operator.TheVariants as o
use Rattle.java_tokens.specs.declared.token.TokenKind.TheVariants as k
use Rattle.java_syntax.specs.declared.class.FieldTree.{FieldTree}
use Rattle.java_syntax.specs.declared.class.Member.{Member}
use Rattle.java_syntax.specs.declared.class.Member.TheVariants as kinds
use Rattle.java_syntax.specs.declared.class.MethodTree.{MethodTree}
use Rattle.java_syntax.specs.declared.class.Modifier.{Modifier}
use Rattle.java_syntax.specs.declared.class.Modifier.TheVariants as modifier
use Rattle.java_syntax.specs.declared.class.Mods.{Mods}
use Rattle.token_reading.specs.declared.name.ParamTree.{ParamTree}
use Rattle.java_syntax.specs.declared.expression.Expr.{Expr}
use Rattle.token_reading.specs.declared.name.BaseType.{BaseType}
use Rattle.token_reading.specs.declared.name.BaseType.TheVariants as base
use Rattle.token_reading.specs.declared.name.Ident.{Ident}
use Rattle.token_reading.specs.declared.name.TypeTree.{TypeTree}
use Rattle.java_syntax.specs.declared.statement.Stmt.{Stmt}
use Rattle.token_reading.specs.Lexeme.{Lexeme, lexeme, Then, sees, sees_word, same_operator, same_keyword}
use Rattle.token_reading.specs.Types.{IsIdent, Brackets, IsBase}
use Rattle.token_reading.specs.Height.{params_height}
use Rattle.java_syntax.specs.Exprs.{Within}
use Rattle.java_syntax.specs.Stmts.{Initial, UnendedWithin, Stmts, StmtWithin}
use Rattle.java_syntax.specs.Classes.{modifier_word, Modifiers, MoreNames, Throws, Answer, Invocable, MemberNode, answer_height, member_type_height, MemberWithin}
use Rattle.java_reading.specs.ReadStmt.{value, body}
use Rattle.java_reading.specs.ReadClass.{modifier_at, modifiers, names, throws, maker_of, is_maker, maker, method, field, void_method, constructor, typed, declared, member_node, member}
use Rattle.java_reading.proofs.ArgsFacts.{ArgsFacts}
use Rattle.java_reading.proofs.ExprFacts.{ExprFacts}
use Rattle.java_reading.proofs.SimpleFound.{semicolon_closes, initial_or}
use Rattle.java_reading.proofs.StmtBegins.{initial_length}
use Rattle.java_reading.proofs.StmtFound.{stmt_found, body_or}
use Rattle.java_reading.proofs.StmtLengths.{stmts_length, stmt_length}
use Rattle.token_reading.proofs.Steps.{Or, found, or_then, raise}
use Rattle.token_reading.proofs.Lexemes.{then_length, sees_it, sees_word_it, type_length}
use Rattle.token_reading.proofs.Found.{params_length, op_or, ident_or, named_type_or, none_or, params_or}

-- ---- lengths

pub modifiers_length : (all : List Modifier) (xs rest : List Lexeme) → Modifiers all xs rest → length all + length rest ≤ length xs
modifiers_length [] xs rest w = omega (arith, ap length w)
modifiers_length (m ∷ more) xs rest w = omega (arith, then_length _ xs w.0 w.1, modifiers_length more w.0 rest w.2)

pub more_names_length : (all : List Ident) (xs rest : List Lexeme) → MoreNames all xs rest → length all + length rest ≤ length xs
more_names_length [] xs rest w = omega (arith, ap length w)
more_names_length (x ∷ more) xs rest w = omega (arith, then_length _ xs w.0 w.1, ap length w.3, more_names_length more w.2 rest w.4)

pub throws_length : (all : List Ident) (xs rest : List Lexeme) → Throws all xs rest → length rest ≤ length xs
throws_length [] xs rest w = omega (arith, ap length w)
throws_length (x ∷ more) xs rest w = omega (arith, then_length _ xs w.0 w.1, ap length w.3, more_names_length more w.2 rest w.4)

pub answer_length : (t : Option TypeTree) (xs rest : List Lexeme) → Answer t xs rest → length rest < length xs
answer_length None xs rest t = omega (arith, then_length _ xs rest t)
answer_length (Some t) xs rest w = omega (arith, type_length t xs rest w)

module _ (facts : ExprFacts) (n : ℕ) where
  invocable_length : (params : List ParamTree) (throws : List Ident) (body : List Stmt) (xs rest : List Lexeme)
      → Invocable (Within n) (Stmts (Within n) (UnendedWithin n) (StmtWithin n)) params throws body xs rest → length rest < length xs
  invocable_length params throws body xs rest w =
      omega (
        arith,
        then_length _ xs w.0 w.1,
        params_length params w.0 w.2 w.3,
        throws_length throws w.2 w.4 w.5,
        then_length _ w.4 w.6 w.7,
        stmts_length facts n (stmt_length facts n) body w.6 rest w.8,
      )

  node_length : (t : Member) (xs rest : List Lexeme) → MemberNode (Within n) (Stmts (Within n) (UnendedWithin n) (StmtWithin n)) t xs rest
      → length rest < length xs
  node_length (kinds.Field t) xs rest w =
      omega (
        arith,
        modifiers_length t.mods.words xs w.0 w.1,
        type_length t.ty w.0 w.2 w.3,
        ap length w.5,
        initial_length (Within n) (facts.shorter n) t.value w.4 w.6 w.7,
        then_length _ w.6 rest w.8,
      )
  node_length (kinds.Method t) xs rest w =
      omega (
        arith,
        modifiers_length t.mods.words xs w.0 w.1,
        answer_length t.answer w.0 w.2 w.3,
        ap length w.5,
        invocable_length t.params t.throws t.body w.4 rest w.6,
      )
  node_length (kinds.Maker t) xs rest w =
      omega (arith, modifiers_length t.mods.words xs w.0 w.1, ap length w.3, invocable_length t.params t.throws t.body w.2 rest w.4)
  node_length kinds.Empty xs rest t = omega (arith, then_length _ xs rest t)

pub member_length : ExprFacts → (n : ℕ) (t : Member) (xs rest : List Lexeme) → MemberWithin n t xs rest → length rest < length xs
member_length facts zero t xs rest w = absurd w
member_length facts (suc n) t xs rest w = node_length facts n t xs rest w.0

-- ---- first tokens

modifier_it : (m : Modifier) (at : ℕ) (xs : List Lexeme) → modifier_at (lexeme at (k.Word (modifier_word m)) ∷ xs) ≡ Some m
modifier_it modifier.Public at xs = refl
modifier_it modifier.Protected at xs = refl
modifier_it modifier.Private at xs = refl
modifier_it modifier.Static at xs = refl
modifier_it modifier.Final at xs = refl

-- what may stand after modifiers: no modifier, and no operator
pub record Declares (xs : List Lexeme) : Type 0 where
  pub no_modifier : modifier_at xs ≡ None
  pub no_operator : (s : Operator) → sees s xs ≡ false

base_declares : (b : BaseType) (xs ys : List Lexeme) → IsBase b xs ys → Declares xs
base_declares base.Int xs ys t = rw t.1 (record { no_modifier = refl; no_operator = λ s. refl })
base_declares base.Boolean xs ys t = rw t.1 (record { no_modifier = refl; no_operator = λ s. refl })
base_declares (base.Class x) xs ys w = rw w (record { no_modifier = refl; no_operator = λ s. refl })

answer_declares : (t : Option TypeTree) (xs ys : List Lexeme) → Answer t xs ys → Declares xs
answer_declares None xs ys t = rw t.1 (record { no_modifier = refl; no_operator = λ s. refl })
answer_declares (Some t) xs ys w = base_declares t.base xs w.0 w.1

ident_declares : (x : Ident) (xs ys : List Lexeme) → IsIdent x xs ys → Declares xs
ident_declares x xs ys w = rw w (record { no_modifier = refl; no_operator = λ s. refl })

modifiers_other : (s : Operator) (all : List Modifier) (xs ys : List Lexeme) → Modifiers all xs ys → Declares ys → sees s xs ≡ false
modifiers_other s [] xs ys w d = rw w (d.no_operator s)
modifiers_other s (m ∷ more) xs ys w d = rw w.1.1 refl

-- ---- one production each

-- a type and a name begin no constructor
brackets_no_maker : (x t : Ident) (d : ℕ) (ys zs us : List Lexeme) → Brackets d ys zs → IsIdent t zs us
    → is_maker (lexeme x.at (k.Ident x.name) ∷ ys) ≡ false
unfolding same_operator
brackets_no_maker x t zero ys zs us w named = rw (w, named) refl
brackets_no_maker x t (suc d) ys zs us w named = rw w.1.1 refl

base_no_maker : (b : BaseType) (t : Ident) (d : ℕ) (xs ys zs us : List Lexeme) → IsBase b xs ys → Brackets d ys zs → IsIdent t zs us
    → is_maker xs ≡ false
base_no_maker base.Int t d xs ys zs us v w named = rw v.1 refl
base_no_maker base.Boolean t d xs ys zs us v w named = rw v.1 refl
base_no_maker (base.Class x) t d xs ys zs us v w named = rw v (brackets_no_maker x t d ys zs us w named)

base_no_void : (b : BaseType) (xs ys : List Lexeme) → IsBase b xs ys → sees_word word.Void xs ≡ false
unfolding same_keyword
base_no_void base.Int xs ys t = rw t.1 refl
base_no_void base.Boolean xs ys t = rw t.1 refl
base_no_void (base.Class x) xs ys w = rw w refl

ident_no_void : (x : Ident) (xs ys : List Lexeme) → IsIdent x xs ys → sees_word word.Void xs ≡ false
ident_no_void x xs ys w = rw w refl

ident_maker : (x : Ident) (xs ys : List Lexeme) → IsIdent x xs ys → sees o.LeftParen ys ≡ true → is_maker xs ≡ true
ident_maker x xs ys w h = rw w h

module _ (n b : ℕ) where
  modifiers_or : (all : List Modifier) (fuel : ℕ) (done : List Modifier) (xs rest : List Lexeme) → length all ≤ fuel → Modifiers all xs rest
      → Declares rest
      → Or n b (modifiers fuel done xs) (Ok (done ++ all, rest))
  unfolding modifiers
  modifiers_or [] zero done xs rest room w d = rw (w, d.no_modifier, append-nil) (found refl)
  modifiers_or [] (suc fuel) done xs rest room w d = rw (w, d.no_modifier, append-nil) (found refl)
  modifiers_or (m ∷ more) zero done xs rest room w d = absurd (omega arith)
  modifiers_or (m ∷ more) (suc fuel) done xs rest room w d =
      let h = modifiers_or more fuel (done ++ m ∷ []) w.0 rest (omega arith) w.2 d in
      rw (w.1.1, modifier_it m w.1.0 w.0) (rw append_assoc at h)

  names_or : (more : List Ident) (fuel : ℕ) (done : List Ident) (x : Ident) (xs ys rest : List Lexeme) → length more < fuel → IsIdent x xs ys
      → MoreNames more ys rest
      → sees o.Comma rest ≡ false → Or n b (names fuel done xs) (Ok (done ++ x ∷ more, rest))
  unfolding names
  names_or more zero done x xs ys rest room w ws stop = absurd (omega arith)
  names_or [] (suc fuel) done x xs ys rest room w ws stop = or_then _ (ident_or n b x xs ys w) (rw (ws, stop) (found refl))
  names_or (y ∷ more) (suc fuel) done x xs ys rest room w ws stop =
      let h = names_or more fuel (done ++ x ∷ []) y ws.0 ws.2 rest (omega arith) ws.3 ws.4 stop in
      or_then _ (ident_or n b x xs ys w) (rw (ws.1.1, sees_it o.Comma ws.1.0 ws.0) (rw append_assoc at h))

  throws_or : (all : List Ident) (xs rest us : List Lexeme) → Throws all xs rest → Then (k.Op o.LeftBrace) rest us
      → Or n b (throws xs) (Ok (all, rest))
  unfolding throws same_operator
  throws_or [] xs rest us w t = rw (w, t.1) (found refl)
  throws_or (x ∷ more) xs rest us w t =
      rw (w.1.1, sees_word_it word.Throws w.1.0 w.0)
      (names_or more (suc (length w.0)) [] x w.0 w.2 rest (omega (arith, ap length w.3, more_names_length more w.2 rest w.4)) w.3 w.4 (rw t.1 refl))

module _ (facts : ExprFacts) (args_facts : ArgsFacts) (n b : ℕ) where
  in_body : (all : List Stmt) (xs rest : List Lexeme) → Stmts (Within n) (UnendedWithin n) (StmtWithin n) all xs rest
      → Or n b (body b xs) (Ok (all, rest))
  unfolding body
  in_body all xs rest w = body_or facts args_facts n b (stmt_found facts args_facts n b) all xs rest w

  maker_or : (mods : Mods) (name : Ident) (ps : List ParamTree) (ts : List Ident) (all : List Stmt) (xs rest : List Lexeme)
      → params_height ps ≤ n → Invocable (Within n) (Stmts (Within n) (UnendedWithin n) (StmtWithin n)) ps ts all xs rest
      → Or n b (maker b (value b) (body b) mods name xs) (Ok (maker_of mods name ps ts all, rest))
  unfolding maker
  maker_or mods name ps ts all xs rest fit w =
      or_then _ (params_or n b ps xs w.0 w.2 w.1 w.3 fit) (or_then _ (throws_or n b ts w.2 w.4 w.6 w.5 w.7)
      (or_then _ (op_or n b o.LeftBrace w.4 w.6 w.7) (or_then _ (in_body all w.6 rest w.8) (found refl))))

  method_or : (t : MethodTree) (xs rest : List Lexeme) → params_height t.params ≤ n
      → Invocable (Within n) (Stmts (Within n) (UnendedWithin n) (StmtWithin n)) t.params t.throws t.body xs rest
      → Or n b (method b (value b) (body b) t.mods t.answer t.name xs) (Ok (kinds.Method t, rest))
  unfolding method
  method_or t xs rest fit w = or_then _ (maker_or t.mods t.name t.params t.throws t.body xs rest fit w) (found refl)

  field_or : (t : FieldTree) (xs ys rest : List Lexeme) → Initial (Within n) t.value xs ys → Then (k.Op o.Semicolon) ys rest
      → Or n b (field b (value b) (body b) t.mods t.ty t.name xs) (Ok (kinds.Field t, rest))
  unfolding field
  field_or t xs ys rest w u =
      or_then _ (initial_or facts n b t.value xs ys w (semicolon_closes ys rest u)) (or_then _ (op_or n b o.Semicolon ys rest u) (found refl))

  invocable_paren : (ps : List ParamTree) (ts : List Ident) (all : List Stmt) (xs rest : List Lexeme)
      → Invocable (Within n) (Stmts (Within n) (UnendedWithin n) (StmtWithin n)) ps ts all xs rest → sees o.LeftParen xs ≡ true
  invocable_paren ps ts all xs rest w = rw w.1.1 (sees_it o.LeftParen w.1.0 w.0)

  initial_no_paren : (e : Option Expr) (xs ys rest : List Lexeme) → Initial (Within n) e xs ys → Then (k.Op o.Semicolon) ys rest
      → sees o.LeftParen xs ≡ false
  unfolding same_operator
  initial_no_paren None xs ys rest w u = rw (w, u.1) refl
  initial_no_paren (Some e) xs ys rest w u = rw w.1.1 refl

  -- a method after its modifiers
  answered_or : (t : MethodTree) (answer : Option TypeTree) (ys zs us rest : List Lexeme) → t.answer ≡ answer → Answer answer ys zs
      → IsIdent t.name zs us → answer_height answer ≤ n → params_height t.params ≤ n
      → Invocable (Within n) (Stmts (Within n) (UnendedWithin n) (StmtWithin n)) t.params t.throws t.body us rest
      → Or n b (declared b (value b) (body b) t.mods ys) (Ok (kinds.Method t, rest))
  unfolding declared void_method typed
  answered_or t None ys zs us rest is w named low fit inv =
      let h = subst (λ (a : Option TypeTree). Or n b (method b (value b) (body b) t.mods a t.name us) (Ok (kinds.Method t, rest))) is
      (method_or t us rest fit inv) in
      rw (w.1, sees_word_it word.Void w.0 zs) (or_then _ (ident_or n b t.name zs us named) h)
  answered_or t (Some a) ys zs us rest is w named low fit inv =
      let h = subst (λ (a : Option TypeTree). Or n b (method b (value b) (body b) t.mods a t.name us) (Ok (kinds.Method t, rest))) is
      (method_or t us rest fit inv) in
      rw (base_no_void a.base ys w.0 w.1, base_no_maker a.base t.name a.dimensions ys w.0 zs us w.1 w.2 named)
      (or_then _ (named_type_or n b a t.name ys zs us w low named) (or_then _ (ident_or n b t.name zs us named)
      (rw (invocable_paren t.params t.throws t.body us rest inv) h)))

  node_or : (t : Member) (xs rest : List Lexeme) → member_type_height t ≤ n → MemberNode (Within n) (Stmts (Within n) (UnendedWithin n) (StmtWithin n)) t xs rest
      → Or n b (member_node b (value b) (body b) xs) (Ok (t, rest))
  unfolding member_node declared typed constructor
  node_or (kinds.Field t) xs rest fit w =
      let d = base_declares t.ty.base w.0 w.3.0 w.3.1 in
      rw (modifiers_other o.Semicolon t.mods.words xs w.0 w.1 d)
      (or_then _ (modifiers_or n b t.mods.words (length xs) [] xs w.0 (omega (arith, modifiers_length t.mods.words xs w.0 w.1)) w.1 d)
      (rw (base_no_void t.ty.base w.0 w.3.0 w.3.1, base_no_maker t.ty.base t.name t.ty.dimensions w.0 w.3.0 w.2 w.4 w.3.1 w.3.2 w.5)
      (or_then _ (named_type_or n b t.ty t.name w.0 w.2 w.4 w.3 fit w.5) (or_then _ (ident_or n b t.name w.2 w.4 w.5)
      (rw (initial_no_paren t.value w.4 w.6 rest w.7 w.8) (field_or t w.4 w.6 rest w.7 w.8))))))
  node_or (kinds.Method t) xs rest fit w =
      let d = answer_declares t.answer w.0 w.2 w.3 in
      rw (modifiers_other o.Semicolon t.mods.words xs w.0 w.1 d)
      (or_then _ (modifiers_or n b t.mods.words (length xs) [] xs w.0 (omega (arith, modifiers_length t.mods.words xs w.0 w.1)) w.1 d)
      (answered_or t t.answer w.0 w.2 w.4 rest refl w.3 w.5 (omega arith) (omega arith) w.6))
  node_or (kinds.Maker t) xs rest fit w =
      let d = ident_declares t.name w.0 w.2 w.3 in
      rw (modifiers_other o.Semicolon t.mods.words xs w.0 w.1 d)
      (or_then _ (modifiers_or n b t.mods.words (length xs) [] xs w.0 (omega (arith, modifiers_length t.mods.words xs w.0 w.1)) w.1 d)
      (rw (ident_no_void t.name w.0 w.2 w.3, ident_maker t.name w.0 w.2 w.3 (invocable_paren t.params t.throws t.body w.2 rest w.4))
      (or_then _ (ident_or n b t.name w.0 w.2 w.3) (or_then _ (maker_or t.mods t.name t.params t.throws t.body w.2 rest fit w.4) (found refl)))))
  node_or kinds.Empty xs rest fit t = rw (t.1, sees_it o.Semicolon t.0 rest) (found refl)

-- A member that is written is found, or it is higher than the budget.
pub member_found : ExprFacts → ArgsFacts → (n b : ℕ) (t : Member) (xs rest : List Lexeme) → MemberWithin n t xs rest
    → Or n b (member b xs) (Ok (t, rest))
unfolding member
member_found facts args_facts zero b t xs rest w = absurd w
member_found facts args_facts (suc n) zero t xs rest w = none_or n xs (Ok (t, rest)) (omega (arith, member_length facts (suc n) t xs rest w))
member_found facts args_facts (suc n) (suc b) t xs rest w = raise (node_or facts args_facts n b t xs rest w.1 w.0)

-- a member doesn't begin with another operator than `;`
pub member_other : (n : ℕ) (s : Operator) (t : Member) (xs rest : List Lexeme) → MemberWithin n t xs rest → same_operator o.Semicolon s ≡ false
    → sees s xs ≡ false
member_other zero s t xs rest w other = absurd w
member_other (suc n) s (kinds.Field t) xs rest w other = modifiers_other s t.mods.words xs w.0.0 w.0.1 (base_declares t.ty.base w.0.0 w.0.3.0 w.0.3.1)
member_other (suc n) s (kinds.Method t) xs rest w other = modifiers_other s t.mods.words xs w.0.0 w.0.1 (answer_declares t.answer w.0.0 w.0.2 w.0.3)
member_other (suc n) s (kinds.Maker t) xs rest w other = modifiers_other s t.mods.words xs w.0.0 w.0.1 (ident_declares t.name w.0.0 w.0.2 w.0.3)
member_other (suc n) s kinds.Empty xs rest w other = rw w.0.1 other
