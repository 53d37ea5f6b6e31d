-- Tokens, identifiers, types and parameters that are read are written, and take tokens.
use Rattle.std.proofs.Common.{◌≡◌, ℕ, zero, suc, ◌≤◌, ◌<◌, List, [], ◌∷◌, ◌++◌, length, refl, sym, ◌∙◌, ap, subst, arith, append_assoc}
use Rattle.java_tokens.specs.declared.token.Keyword.{Keyword}
use Rattle.java_tokens.specs.declared.token.Operator.{Operator}
use Rattle.java_tokens.specs.declared.token.Operator.TheVariants as o
use Rattle.java_tokens.specs.declared.token.TokenKind.TheVariants as k
use Rattle.token_reading.specs.declared.name.ParamTree.{ParamTree}
use Rattle.token_reading.specs.Lexeme.{Lexeme, Then, sees}
use Rattle.token_reading.specs.Types.{IsIdent, Param, MoreParams, Params}
use Rattle.token_reading.specs.Height.{param_height, params_height}
use Rattle.token_reading.specs.Outcome.{Outcome}
use Rattle.token_reading.specs.ReadType.{next, expect, expect_word, none_fits, ident, type_tree, param_of, param, more_params, params}
use Rattle.token_reading.proofs.Steps.{Gives, gives, gives_none, gives_high, gives_then, gives_map, gives_if, limited}
use Rattle.token_reading.proofs.Lexemes.{then_length, type_length, from_sees, expected, expected_word, ident_written, TypeWithin, type_written}

-- What a reader gives is written by R, and takes a token.
abbrev pub Takes : {A : Type 0} → (A → List Lexeme → List Lexeme → Type 0) → List Lexeme → Type 0 → Outcome A → Type 0
Takes R xs H o = Gives (λ a ys. R a xs ys × (length ys < length xs)) H o

-- the same, where it may take none
abbrev pub MayTake : {A : Type 0} → (A → List Lexeme → List Lexeme → Type 0) → List Lexeme → Type 0 → Outcome A → Type 0
MayTake R xs H o = Gives (λ a ys. R a xs ys × (length ys ≤ length xs)) H o

-- ---- single tokens, identifiers and types

pub op_gives : (s : Operator) (xs : List Lexeme) → Takes (λ _ xs ys. Then (k.Op s) xs ys) xs ⊥ (expect s xs)
op_gives s xs = gives_map (λ a ys t. (t, omega (arith, then_length _ xs ys t)))
    (λ h. h) (limited (λ _ ys zs. Then (k.Op s) ys zs) ⊥ xs (expect s xs) (expected s xs))

pub word_gives : (s : Keyword) (xs : List Lexeme) → Takes (λ _ xs ys. Then (k.Word s) xs ys) xs ⊥ (expect_word s xs)
word_gives s xs = gives_map (λ a ys t. (t, omega (arith, then_length _ xs ys t)))
    (λ h. h) (limited (λ _ ys zs. Then (k.Word s) ys zs) ⊥ xs (expect_word s xs) (expected_word s xs))

pub ident_gives : (xs : List Lexeme) → Takes IsIdent xs ⊥ (ident xs)
ident_gives xs =
    gives_map (λ x ys w. (w, omega (arith, ap length w))) (λ h. h) (limited IsIdent ⊥ xs (ident xs) (ident_written xs))

pub type_gives : (n : ℕ) (xs : List Lexeme) → Takes (TypeWithin n) xs (n < length xs) (type_tree n xs)
type_gives n xs =
    gives_map (λ t ys w. (w, omega (arith, type_length t xs ys w.0))) (λ h. h)
    (limited (TypeWithin n) (n < length xs) xs (type_tree n xs) (type_written n xs))

-- ---- with no budget left

pub none_gives : {A : Type 0} {P : A → List Lexeme → Type 0} (xs : List Lexeme) → Gives P (0 < length xs) (none_fits xs)
unfolding none_fits
none_gives [] = gives_none
none_gives (x ∷ xs) = gives_high (omega arith)

-- ---- parameters

module _ (n : ℕ) where
  param_gives : (xs : List Lexeme)
      → Takes (λ t xs rest. Param t xs rest × (param_height t ≤ n)) xs (n < length xs) (param n xs)
  unfolding param
  param_gives xs =
      gives_then (type_gives n xs) (λ h. h) (λ t ys w. gives_then (ident_gives ys) (λ h. absurd h)
      (λ x zs v. gives (param_of t x) zs (((ys, w.0.0, v.0), w.0.1), omega (arith, w.1, v.1))))

  more_params_gives : (fuel : ℕ) (done : List ParamTree) (xs : List Lexeme)
      → Takes (λ all xs rest. (t : ParamTree) × (more : List ParamTree) × (all ≡ done ++ t ∷ more)
      × (ys : List Lexeme) × Param t xs ys × MoreParams more ys rest × (params_height (t ∷ more) ≤ n))
      xs (n < length xs) (more_params n fuel done xs)
  unfolding more_params
  more_params_gives zero done xs = gives_none
  more_params_gives (suc fuel) done xs =
      gives_then (param_gives xs) (λ h. h) (λ t ys w. gives_if (sees o.Comma ys)
      (λ h. let u = from_sees o.Comma ys h in
      gives_map (λ all us v. (
        (
          t,
          v.0.0 ∷ v.0.1,
          v.0.2 ∙ append_assoc done (t ∷ []) (v.0.0 ∷ v.0.1),
          ys,
          w.0.0,
          (next ys, u, v.0.3, v.0.4, v.0.5),
          omega (arith, w.0.1, v.0.6),
        ),
        omega (arith, w.1, v.1, then_length _ ys (next ys) u),
      ))
      (λ h. omega (arith, w.1, then_length _ ys (next ys) u)) (more_params_gives fuel (done ++ t ∷ []) (next ys)))
      (λ h. gives_then (op_gives o.RightParen ys) (λ h. absurd h) (λ _ zs u. gives (done ++ t ∷ []) zs (
        (t, [], refl, ys, w.0.0, u.0, omega (arith, w.0.1)),
        omega (arith, w.1, u.1),
      ))))

  -- parameters in their parentheses, whose types have at most this height
  abbrev pub ParamsWithin : List ParamTree → List Lexeme → List Lexeme → Type 0
  ParamsWithin all xs rest =
      (ys : List Lexeme) × Then (k.Op o.LeftParen) xs ys × Params all ys rest × (params_height all ≤ n)

  pub params_gives : (xs : List Lexeme) → Takes ParamsWithin xs (n < length xs) (params n xs)
  unfolding params
  params_gives xs =
      gives_then (op_gives o.LeftParen xs) (λ h. absurd h) (λ _ ys t. gives_if (sees o.RightParen ys)
      (λ h. let u = from_sees o.RightParen ys h in
      gives [] (next ys) ((ys, t.0, u, omega arith), omega (arith, t.1, then_length _ ys (next ys) u)))
      (λ h. gives_map (λ all us v.
      let w =
      subst (λ (l : List ParamTree). Params l ys us × (params_height l ≤ n)) (sym v.0.2)
      ((v.0.3, v.0.4, v.0.5), v.0.6) in
      ((ys, t.0, w.0, w.1), omega (arith, t.1, v.1)))
      (λ h. omega (arith, t.1)) (more_params_gives (length ys) [] ys)))
