-- A spec method that is written is read.
use Rattle.std.proofs.Common.{◌≡◌, ℕ, zero, suc, ◌≤◌, ◌<◌, List, ◌∷◌, length, Ok, codes, refl, ap, arith}
use Rattle.java_tokens.specs.declared.token.Operator.TheVariants as o
use Rattle.java_tokens.specs.declared.token.TokenKind.TheVariants as k
use Rattle.token_reading.specs.Height.{type_height, params_height}
use Rattle.token_reading.specs.Lexeme.{Lexeme, lexeme, Then}
use Rattle.token_reading.specs.Types.{IsIdent, IsType, Params}
use Rattle.token_reading.proofs.Found.{op_or, ident_or, named_type_or, params_or, none_or}
use Rattle.token_reading.proofs.Steps.{Or, found, or_then, raise}
use Rattle.spec_trees.specs.declared.contract.SpecTree.{SpecTree}
use Rattle.spec_trees.specs.declared.term.TermTree.{TermTree}
use Rattle.spec_trees.specs.Clauses.{SpecWithin}
use Rattle.spec_trees.specs.Terms.{TermWithin}
use Rattle.spec_reading.specs.ReadContract.{expect_text, definition, defined, declared, spec_node, read_spec}
use Rattle.spec_reading.specs.ReadTerm.{term_follows}
use Rattle.spec_reading.proofs.ContractFound.{term_or}

semicolon_ends : (at : ℕ) (xs : List Lexeme) → term_follows (lexeme at (k.Op o.Semicolon) ∷ xs) < 1
semicolon_ends at xs = omega arith

module _ (n b : ℕ) where
  definition_or : (e : TermTree) (xs ys zs rest : List Lexeme) → Then (k.Op o.Assign) xs ys → TermWithin n e 1 ys zs
      → Then (k.Op o.Semicolon) zs rest → Or n b (definition b xs) (Ok (e, rest))
  unfolding definition
  definition_or e xs ys zs rest u w v =
      or_then _ (op_or n b o.Assign xs ys u)
      (or_then _ (term_or n b e 1 ys zs w (omega arith) (omega arith) (rw v.1 (semicolon_ends v.0 rest)))
      (or_then _ (op_or n b o.Semicolon zs rest v) (found refl)))

  spec_by : (t : SpecTree) (xs ys zs us vs ws ds es rest : List Lexeme) → xs ≡ lexeme t.at (k.Ident (codes "spec")) ∷ ys → IsType t.ty ys zs
      → IsIdent t.name zs us → Then (k.Op o.LeftParen) us vs → Params t.params vs ws → Then (k.Op o.Assign) ws ds
      → TermWithin n t.term 1 ds es → Then (k.Op o.Semicolon) es rest → type_height t.ty ≤ n → params_height t.params ≤ n
      → Or n b (spec_node b xs) (Ok (t, rest))
  unfolding spec_node declared defined expect_text
  spec_by t xs ys zs us vs ws ds es rest is wt wx u wp v w s lowt lowp =
      rw is (or_then _ (named_type_or n b t.ty t.name ys zs us wt lowt wx)
      (or_then _ (ident_or n b t.name zs us wx)
      (or_then _ (params_or n b t.params us vs ws u wp lowp)
      (or_then _ (definition_or t.term ws ds es rest v w s) (found refl)))))

nonempty : (t : SpecTree) (xs ys : List Lexeme) → xs ≡ lexeme t.at (k.Ident (codes "spec")) ∷ ys → 0 < length xs
nonempty t xs ys is = omega (arith, ap length is)

pub spec_or : (n b : ℕ) (t : SpecTree) (xs rest : List Lexeme) → SpecWithin n t xs rest → Or n b (read_spec b xs) (Ok (t, rest))
unfolding SpecWithin read_spec
spec_or zero b t xs rest w = absurd w
spec_or (suc n) zero t xs rest w = none_or n xs (Ok (t, rest)) (nonempty t xs w.0.0 w.0.1)
spec_or (suc n) (suc b) t xs rest w =
    let s = w.0 in
    raise (spec_by n b t xs s.0 s.2 s.4 s.6 s.8 s.10 s.12 rest s.1 s.3 s.5 s.7 s.9 s.11 s.13 s.14 w.1 w.2)
