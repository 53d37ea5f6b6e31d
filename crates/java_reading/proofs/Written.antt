-- What makes a left operand of what is read, and the token that stands after one.
use Rattle.std.proofs.Common.{◌≡◌, ℕ, suc, ◌+◌, ◌≤◌, ◌<◌, List, [], ◌∷◌, length, Ok, refl, sym, ◌∙◌, ap, subst, arith}
use Rattle.java_tokens.specs.declared.token.Keyword.{Keyword}
use Rattle.java_tokens.specs.declared.token.Keyword.TheVariants as w
use Rattle.java_tokens.specs.declared.token.Operator.{Operator}
use Rattle.java_tokens.specs.declared.token.Operator.TheVariants as o
use Rattle.java_tokens.specs.declared.token.TokenKind.{TokenKind}
use Rattle.java_tokens.specs.declared.token.TokenKind.TheVariants as k
use Rattle.java_syntax.specs.declared.expression.Expr.{Expr, out-Expr, roll-Expr}
use Rattle.java_syntax.specs.declared.expression.Expr.TheViews.{out-roll-Expr}
use Rattle.token_reading.specs.Lexeme.{Lexeme, lexeme, Then}
use Rattle.java_syntax.specs.Exprs.{Layer, binary_sign, level, Node, inner_type_height, Within}
use Rattle.java_reading.specs.declared.infix.Infix.{Infix}
use Rattle.java_reading.specs.declared.infix.Infix.TheVariants as i
use Rattle.token_reading.specs.ReadType.{next}
use Rattle.java_reading.specs.ReadExpr.{infix_operator, infix_keyword, infix_of, first_infix, follows}
use Rattle.java_reading.proofs.Levels.{after}
use Rattle.java_reading.proofs.Growing.{made}
use Rattle.java_reading.proofs.Claims.{Written, Left}

pub wrote : (b n h : ℕ) (f : Layer) (e : Expr) (l : ℕ) (xs rest : List Lexeme) → roll-Expr f ≡ e → inner_type_height f ≤ n
    → n < h → h ≤ b
    → h + length rest ≤ length xs → l ≤ level f → follows rest ≤ after f → Node (Within n) f xs rest → Written b l xs (e, h) rest
wrote b n h f e l xs rest is fit up low taken lv stop w = record {
  tree = made n h f e l xs rest up is lv fit w;
  low = low;
  taken = taken;
  stop = let back : f ≡ out-Expr e = sym (out-roll-Expr f) ∙ ap out-Expr is in
      let P : Layer → Type 0 = λ g. follows rest ≤ after g in subst P back stop;
}

-- a leaf, which is one token
pub leaf : (b : ℕ) (f : Layer) (e : Expr) (x : Lexeme) (l : ℕ) (xs rest : List Lexeme) → roll-Expr f ≡ e → inner_type_height f ≤ 0
    → xs ≡ x ∷ rest → l ≤ level f
    → follows rest ≤ after f → Node (Within 0) f xs rest → Left (suc b) l xs (Ok ((e, 1), rest))
leaf b f e x l xs rest is fit one lv stop w =
    wrote (suc b) 0 1 f e l xs rest is fit (omega arith) (omega arith) (omega (arith, ap length one)) lv stop w

-- the token that stands after an operand
abbrev pub Leads : Infix → List Lexeme → Type 0
Leads (i.Binary op) xs = Then (k.Op (binary_sign op)) xs (next xs)
Leads i.InstanceOf xs = Then (k.Word w.Instanceof) xs (next xs)
Leads i.Question xs = Then (k.Op o.Question) xs (next xs)
Leads i.Dot xs = Then (k.Op o.Dot) xs (next xs)
Leads i.Bracket xs = Then (k.Op o.LeftBracket) xs (next xs)
Leads i.Paren xs = Unit {0}
Leads i.Other xs = Unit {0}

leads_operator : (x : Lexeme) (xs : List Lexeme) (s : Operator) → x.kind ≡ k.Op s → Leads (infix_operator s) (x ∷ xs)
leads_operator x xs o.OrOr is = (x.at, ap (λ kd. lexeme x.at kd ∷ xs) is)
leads_operator x xs o.AndAnd is = (x.at, ap (λ kd. lexeme x.at kd ∷ xs) is)
leads_operator x xs o.Or is = (x.at, ap (λ kd. lexeme x.at kd ∷ xs) is)
leads_operator x xs o.Xor is = (x.at, ap (λ kd. lexeme x.at kd ∷ xs) is)
leads_operator x xs o.And is = (x.at, ap (λ kd. lexeme x.at kd ∷ xs) is)
leads_operator x xs o.Equal is = (x.at, ap (λ kd. lexeme x.at kd ∷ xs) is)
leads_operator x xs o.NotEqual is = (x.at, ap (λ kd. lexeme x.at kd ∷ xs) is)
leads_operator x xs o.Less is = (x.at, ap (λ kd. lexeme x.at kd ∷ xs) is)
leads_operator x xs o.Greater is = (x.at, ap (λ kd. lexeme x.at kd ∷ xs) is)
leads_operator x xs o.LessEqual is = (x.at, ap (λ kd. lexeme x.at kd ∷ xs) is)
leads_operator x xs o.GreaterEqual is = (x.at, ap (λ kd. lexeme x.at kd ∷ xs) is)
leads_operator x xs o.ShiftLeft is = (x.at, ap (λ kd. lexeme x.at kd ∷ xs) is)
leads_operator x xs o.ShiftRight is = (x.at, ap (λ kd. lexeme x.at kd ∷ xs) is)
leads_operator x xs o.UnsignedShiftRight is = (x.at, ap (λ kd. lexeme x.at kd ∷ xs) is)
leads_operator x xs o.Plus is = (x.at, ap (λ kd. lexeme x.at kd ∷ xs) is)
leads_operator x xs o.Minus is = (x.at, ap (λ kd. lexeme x.at kd ∷ xs) is)
leads_operator x xs o.Star is = (x.at, ap (λ kd. lexeme x.at kd ∷ xs) is)
leads_operator x xs o.Slash is = (x.at, ap (λ kd. lexeme x.at kd ∷ xs) is)
leads_operator x xs o.Percent is = (x.at, ap (λ kd. lexeme x.at kd ∷ xs) is)
leads_operator x xs o.Question is = (x.at, ap (λ kd. lexeme x.at kd ∷ xs) is)
leads_operator x xs o.Dot is = (x.at, ap (λ kd. lexeme x.at kd ∷ xs) is)
leads_operator x xs o.LeftBracket is = (x.at, ap (λ kd. lexeme x.at kd ∷ xs) is)
leads_operator x xs _ is = tt

leads_keyword : (x : Lexeme) (xs : List Lexeme) (s : Keyword) → x.kind ≡ k.Word s → Leads (infix_keyword s) (x ∷ xs)
leads_keyword x xs w.Instanceof is = (x.at, ap (λ kd. lexeme x.at kd ∷ xs) is)
leads_keyword x xs _ is = tt

leads_kind : (x : Lexeme) (xs : List Lexeme) (kd : TokenKind) → x.kind ≡ kd → Leads (infix_of kd) (x ∷ xs)
leads_kind x xs (k.Op s) is = leads_operator x xs s is
leads_kind x xs (k.Word s) is = leads_keyword x xs s is
leads_kind x xs _ is = tt

pub leads : (xs : List Lexeme) → Leads (first_infix xs) xs
leads [] = tt
leads (x ∷ xs) = leads_kind x xs x.kind refl
