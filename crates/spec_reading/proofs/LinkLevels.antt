-- What may stand after a relation of a level.
use Rattle.std.proofs.Common.{◌≡◌, ℕ, ◌≤◌, ◌<◌, List, [], ◌∷◌, Option, Some, None, refl, ap, arith}
use Rattle.java_tokens.specs.declared.token.Operator.{Operator}
use Rattle.java_tokens.specs.declared.token.Operator.TheVariants as o
use Rattle.java_tokens.specs.declared.token.TokenKind.{TokenKind}
use Rattle.java_tokens.specs.declared.token.TokenKind.TheVariants as k
use Rattle.token_reading.specs.Lexeme.{Lexeme, lexeme, Then}
use Rattle.token_reading.specs.ReadType.{next}
use Rattle.spec_trees.specs.declared.link.LinkTree.TheOpen.{LinkTree-F}
use Rattle.spec_trees.specs.declared.operator.LinkOp.{LinkOp}
use Rattle.spec_trees.specs.declared.operator.LinkOp.TheVariants as op
use Rattle.spec_trees.specs.Links.{LinkLayer, link_sign, link_op_level, link_level}
use Rattle.spec_reading.specs.ReadLink.{link_operator, link_op_of, link_op_at, link_binds, link_follows}

-- how tightly the token after a relation may bind at most
abbrev pub link_after : LinkLayer → ℕ
link_after (LinkTree-F.Binary p r s) = link_op_level p
link_after _ = 3

pub link_op_range : (p : LinkOp) → (1 ≤ link_op_level p) × (link_op_level p ≤ 3)
link_op_range op.Union = (omega arith, omega arith)
link_op_range _ = (omega arith, omega arith)

pub link_level_range : (f : LinkLayer) → (1 ≤ link_level f) × (link_level f ≤ 4)
link_level_range (LinkTree-F.Binary p r s) = (omega (arith, (link_op_range p).0), omega (arith, (link_op_range p).1))
link_level_range _ = (omega arith, omega arith)

-- a token that ends a relation of the level
pub link_ends : (f : LinkLayer) (l c : ℕ) → l ≤ link_level f → c < l → c ≤ link_after f
link_ends (LinkTree-F.Binary p r s) l c h low = omega arith
link_ends _ l c h low = omega arith

-- an operator after its left operand
pub link_joins : (f : LinkLayer) (c : ℕ) → c ≤ link_level f → c ≤ 3 → c ≤ link_after f
link_joins (LinkTree-F.Binary p r s) c h low = omega arith
link_joins _ c h low = omega arith

-- the other way round
pub link_lifts : (f : LinkLayer) (c : ℕ) → c ≤ link_after f → c ≤ link_level f
link_lifts (LinkTree-F.Binary p r s) c h = omega arith
link_lifts _ c h = omega arith

-- ---- how tightly tokens bind

pub link_binds_most : (p : Option LinkOp) → link_binds p ≤ 3
link_binds_most None = omega arith
link_binds_most (Some p) = (link_op_range p).1

-- no token binds more tightly than 3
pub link_follows_most : (xs : List Lexeme) → link_follows xs ≤ 3
link_follows_most xs = link_binds_most (link_op_at xs)

pub link_sign_read : (p : LinkOp) → link_operator (link_sign p) ≡ Some p
link_sign_read op.Union = refl
link_sign_read _ = refl

-- the token that stands after a relation
abbrev pub LinkLeads : Option LinkOp → List Lexeme → Type 0
LinkLeads (Some p) xs = Then (k.Op (link_sign p)) xs (next xs)
LinkLeads None xs = Unit {0}

leads_operator : (x : Lexeme) (xs : List Lexeme) (s : Operator) → x.kind ≡ k.Op s → LinkLeads (link_operator s) (x ∷ xs)
leads_operator x xs o.Plus is = (x.at, ap (λ kd. lexeme x.at kd ∷ xs) is)
leads_operator x xs o.Minus is = (x.at, ap (λ kd. lexeme x.at kd ∷ xs) is)
leads_operator x xs o.And is = (x.at, ap (λ kd. lexeme x.at kd ∷ xs) is)
leads_operator x xs o.Dot is = (x.at, ap (λ kd. lexeme x.at kd ∷ xs) is)
leads_operator x xs _ is = tt

leads_kind : (x : Lexeme) (xs : List Lexeme) (kd : TokenKind) → x.kind ≡ kd → LinkLeads (link_op_of kd) (x ∷ xs)
leads_kind x xs (k.Op s) is = leads_operator x xs s is
leads_kind x xs _ is = tt

pub link_leads : (xs : List Lexeme) → LinkLeads (link_op_at xs) xs
link_leads [] = tt
link_leads (x ∷ xs) = leads_kind x xs x.kind refl
