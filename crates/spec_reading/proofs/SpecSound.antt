-- A spec method that is read is written.
use Rattle.std.proofs.Common.{ℕ, zero, suc, ◌≤◌, ◌<◌, List, length, codes, arith}
use Rattle.java_tokens.specs.declared.token.Operator.TheVariants as o
use Rattle.java_tokens.specs.declared.token.TokenKind.TheVariants as k
use Rattle.token_reading.specs.Height.{type_height, params_height}
use Rattle.token_reading.specs.Lexeme.{Lexeme, place, Then}
use Rattle.token_reading.proofs.Given.{Takes, op_gives, ident_gives, type_gives, params_gives, none_gives}
use Rattle.token_reading.proofs.Steps.{Gives, gives, gives_then, gives_map}
use Rattle.spec_trees.specs.Clauses.{IsSpec, SpecWithin}
use Rattle.spec_trees.specs.Terms.{TermWithin}
use Rattle.spec_reading.specs.ReadContract.{spec_of, definition, defined, declared, spec_node, read_spec}
use Rattle.spec_reading.proofs.ContractSound.{text_gives, term_gives}

module _ (n : ℕ) where
  definition_gives : (xs : List Lexeme)
      → Takes (λ t us rest. (ys : List Lexeme) × Then (k.Op o.Assign) us ys × (zs : List Lexeme) × TermWithin n t 1 ys zs × Then (k.Op o.Semicolon) zs rest)
      xs (n < length xs) (definition n xs)
  unfolding definition
  definition_gives xs =
      gives_then (op_gives o.Assign xs) (λ h. absurd h) (λ _ ys u.
      gives_then (term_gives n 1 ys (omega arith) (omega arith)) (λ h. omega (arith, u.1)) (λ t zs w.
      gives_then (op_gives o.Semicolon zs) (λ h. absurd h) (λ _ us v.
      gives t us ((ys, u.0, zs, w.0.0, v.0), omega (arith, u.1, w.1, v.1)))))

  spec_node_gives : (xs : List Lexeme)
      → Gives (λ t rest. IsSpec (TermWithin n) t xs rest × (type_height t.ty ≤ n) × (params_height t.params ≤ n)) (n < length xs) (spec_node n xs)
  unfolding spec_node declared defined
  spec_node_gives xs =
      gives_then (text_gives (codes "spec") xs) (λ h. absurd h) (λ _ ys u.
      gives_then (type_gives n ys) (λ h. omega (arith, u.1)) (λ ty zs wt.
      gives_then (ident_gives zs) (λ h. absurd h) (λ x us wx.
      gives_then (params_gives n us) (λ h. omega (arith, u.1, wt.1, wx.1)) (λ ps vs wp.
      gives_then (definition_gives vs) (λ h. omega (arith, u.1, wt.1, wx.1, wp.1)) (λ t ws wd.
      gives (spec_of (place xs) ty x ps t) ws (
        (ys, u.0, zs, wt.0.0, us, wx.0, wp.0.0, wp.0.1, vs, wp.0.2, wd.0.0, wd.0.1, wd.0.2, wd.0.3, wd.0.4),
        wt.0.1,
        wp.0.3,
      ))))))

-- what is read of a spec method, or that there are too many tokens for the height that is allowed
pub spec_sound : (n : ℕ) (xs : List Lexeme) → Gives (λ t rest. SpecWithin n t xs rest) (n ≤ length xs) (read_spec n xs)
unfolding SpecWithin read_spec
spec_sound zero xs = gives_map (λ t rest w. w) (λ h. omega arith) (none_gives {P = λ t rest. SpecWithin zero t xs rest} xs)
spec_sound (suc n) xs = gives_map (λ t rest w. w) (λ h. omega arith) (spec_node_gives n xs)
