-- Tokens, identifiers, types and parameters that are written are found.
use Rattle.std.proofs.Common.{◌≡◌, ℕ, zero, suc, ◌+◌, ◌≤◌, ◌<◌, nat_lt, List, [], ◌∷◌, ◌++◌, length, false, Ok, refl, ap, arith, append_assoc}
use Rattle.java_tokens.specs.declared.token.Keyword.{Keyword}
use Rattle.java_tokens.specs.declared.token.Operator.{Operator}
use Rattle.java_tokens.specs.declared.token.Operator.TheVariants as o
use Rattle.java_tokens.specs.declared.token.TokenKind.TheVariants as k
use Rattle.token_reading.specs.declared.name.BaseType.{BaseType}
use Rattle.token_reading.specs.declared.name.BaseType.TheVariants as base
use Rattle.token_reading.specs.declared.name.Ident.{Ident}
use Rattle.token_reading.specs.declared.name.ParamTree.{ParamTree}
use Rattle.token_reading.specs.declared.name.TypeTree.{TypeTree}
use Rattle.token_reading.specs.Lexeme.{Lexeme, Then, sees, same_operator}
use Rattle.token_reading.specs.Types.{IsIdent, Brackets, IsBase, IsType, Param, MoreParams, Params}
use Rattle.token_reading.specs.Height.{type_height, param_height, params_height}
use Rattle.token_reading.specs.Outcome.{Outcome}
use Rattle.token_reading.specs.ReadType.{expect, expect_word, none_fits, ident, pairs, type_tree, param, more_params, params}
use Rattle.token_reading.proofs.Steps.{Or, found, higher, or_then, limit_or}
use Rattle.token_reading.proofs.Lexemes.{then_length, sees_it, expect_it, expect_word_it, ident_read, brackets_read, brackets_length, base_read, type_length}

-- ---- lengths

pub param_length : (t : ParamTree) (xs rest : List Lexeme) → Param t xs rest → length rest < length xs
param_length t xs rest w = omega (arith, type_length t.ty xs w.0 w.1, ap length w.2)

pub more_params_length : (all : List ParamTree) (xs rest : List Lexeme) → MoreParams all xs rest
    → length all + length rest < length xs
more_params_length [] xs rest t = omega (arith, then_length _ xs rest t)
more_params_length (t ∷ more) xs rest w =
    omega (arith, then_length _ xs w.0 w.1, param_length t w.0 w.2 w.3, more_params_length more w.2 rest w.4)

pub params_length : (all : List ParamTree) (xs rest : List Lexeme) → Params all xs rest
    → length all + length rest < length xs
params_length [] xs rest t = omega (arith, then_length _ xs rest t)
params_length (t ∷ more) xs rest w = omega (arith, param_length t xs w.0 w.1, more_params_length more w.0 rest w.2)

-- ---- single tokens and identifiers

pub op_or : (n b : ℕ) (s : Operator) (xs ys : List Lexeme) → Then (k.Op s) xs ys → Or n b (expect s xs) (Ok (tt, ys))
op_or n b s xs ys t = found (rw t.1 (expect_it s t.0 ys))

pub word_or : (n b : ℕ) (s : Keyword) (xs ys : List Lexeme) → Then (k.Word s) xs ys
    → Or n b (expect_word s xs) (Ok (tt, ys))
word_or n b s xs ys t = found (rw t.1 (expect_word_it s t.0 ys))

pub ident_or : (n b : ℕ) (x : Ident) (xs ys : List Lexeme) → IsIdent x xs ys → Or n b (ident xs) (Ok (x, ys))
ident_or n b x xs ys w = found (ident_read x xs ys w)

-- with no budget left, a list that isn't empty is too high
pub none_or : {A : Type 0} (n : ℕ) (xs : List Lexeme) (good : Outcome A) → 0 < length xs
    → Or (suc n) 0 (none_fits xs) good
unfolding none_fits
none_or n [] good h = absurd (omega arith)
none_or n (x ∷ xs) good h = higher (omega arith) refl

-- ---- types

pub pairs_or : (n b d : ℕ) (xs rest : List Lexeme) → Brackets d xs rest → sees o.LeftBracket rest ≡ false → d ≤ n
    → Or n b (pairs b xs) (Ok (d, rest))
unfolding pairs
pairs_or n b d xs rest w shut low =
    rw (brackets_read d (length xs) 0 d xs rest (omega arith) (omega (arith, brackets_length d xs rest w)) w shut)
    (limit_or n b d (Ok (d, rest)) (nat_lt b d) refl low)

pub type_or : (n b : ℕ) (t : TypeTree) (xs rest : List Lexeme) → IsType t xs rest → sees o.LeftBracket rest ≡ false
    → type_height t ≤ n
    → Or n b (type_tree b xs) (Ok (t, rest))
unfolding type_tree
type_or n b t xs rest w shut low =
    rw (base_read t.base xs w.0 w.1) (or_then _ (pairs_or n b t.dimensions w.0 rest w.2 shut low) (found refl))

-- a type before a name
pub named_type_or : (n b : ℕ) (t : TypeTree) (x : Ident) (xs ys zs : List Lexeme) → IsType t xs ys → type_height t ≤ n
    → IsIdent x ys zs
    → Or n b (type_tree b xs) (Ok (t, ys))
unfolding same_operator
named_type_or n b t x xs ys zs w low named = type_or n b t xs ys w (rw named refl) low

-- ---- parameters

-- a type begins with no operator
pub base_other : (s : Operator) (b : BaseType) (xs ys : List Lexeme) → IsBase b xs ys → sees s xs ≡ false
base_other s base.Int xs ys t = rw t.1 refl
base_other s base.Boolean xs ys t = rw t.1 refl
base_other s (base.Class x) xs ys w = rw w refl

module _ (n b : ℕ) where
  param_or : (t : ParamTree) (xs rest : List Lexeme) → Param t xs rest → param_height t ≤ n
      → Or n b (param b xs) (Ok (t, rest))
  unfolding param
  param_or t xs rest w low =
      or_then _ (named_type_or n b t.ty t.name xs w.0 rest w.1 low w.2)
      (or_then _ (ident_or n b t.name w.0 rest w.2) (found refl))

  more_params_or : (more : List ParamTree) (fuel : ℕ) (done : List ParamTree) (t : ParamTree) (xs ys rest : List Lexeme)
      → length more < fuel
      → params_height (t ∷ more) ≤ n → Param t xs ys → MoreParams more ys rest
      → Or n b (more_params b fuel done xs) (Ok (done ++ t ∷ more, rest))
  unfolding more_params same_operator
  more_params_or more zero done t xs ys rest room low w ws = absurd (omega arith)
  more_params_or [] (suc fuel) done t xs ys rest room low w ws =
      or_then _ (param_or t xs ys w (omega arith))
      (rw ws.1 (or_then _ (op_or n b o.RightParen _ rest (ws.0, refl)) (found refl)))
  more_params_or (u ∷ more) (suc fuel) done t xs ys rest room low w ws =
      let h = more_params_or more fuel (done ++ t ∷ []) u ws.0 ws.2 rest (omega arith) (omega arith) ws.3 ws.4 in
      or_then _ (param_or t xs ys w (omega arith)) (rw ws.1.1 (rw append_assoc at h))

  pub params_or : (all : List ParamTree) (xs ys rest : List Lexeme) → Then (k.Op o.LeftParen) xs ys → Params all ys rest
      → params_height all ≤ n
      → Or n b (params b xs) (Ok (all, rest))
  unfolding params
  params_or [] xs ys rest t u low =
      or_then _ (op_or n b o.LeftParen xs ys t) (rw (u.1, sees_it o.RightParen u.0 rest) (found refl))
  params_or (p ∷ more) xs ys rest t w low =
      or_then _ (op_or n b o.LeftParen xs ys t)
      (rw (base_other o.RightParen p.ty.base ys w.1.1.0 w.1.1.1)
      (more_params_or more (length ys) [] p ys w.0 rest
      (omega (arith, param_length p ys w.0 w.1, more_params_length more w.0 rest w.2)) low w.1 w.2))
