-- What the answers for contracts and spec methods say of the tokens. Tokens are counted from 0.
use Rattle.std.specs.Prelude.{◌≡◌, ℕ, ◌+◌, ◌≤◌, ◌<◌, if◌then◌else◌, List, drop, length, true, Ok, Err}
use Rattle.java_tokens.specs.declared.token.Operator.TheVariants as o
use Rattle.java_tokens.specs.declared.token.Token.{Token}
use Rattle.token_reading.specs.declared.error.ParseError.{ParseError}
use Rattle.token_reading.specs.declared.error.ParseError.TheVariants as errors
use Rattle.token_reading.specs.declared.refusal.Refusal.{Refusal}
use Rattle.token_reading.specs.declared.refusal.Refusal.TheVariants as refusal
use Rattle.token_reading.specs.Lexeme.{Lexeme, numbered, sees}
use Rattle.token_reading.specs.Outcome.{no_tree, Parser, ◌>>=◌}
use Rattle.spec_trees.specs.declared.contract.ContractTree.{ContractTree}
use Rattle.spec_trees.specs.declared.contract.SpecTree.{SpecTree}
use Rattle.spec_trees.specs.Clauses.{ContractWithin, SpecWithin}
use Rattle.spec_trees.specs.Height.{contract_height, spec_height}
use Rattle.spec_reading.specs.ReadContract.{read_contract}

-- the tokens from this one on
abbrev pub tokens_from : ℕ → List Token → List Lexeme
tokens_from n tokens = drop n (numbered 0 tokens)

-- ---- contracts

-- The contract spells the tokens from `from` to before `to`, where a `{` stands.
abbrev pub SpellsContract : ContractTree → List Token → ℕ → ℕ → Type 0
SpellsContract c tokens from to =
    (n : ℕ) × ContractWithin n c (tokens_from from tokens) (tokens_from to tokens) × (sees o.LeftBrace (tokens_from to tokens) ≡ true)

-- Each contract that stands there before a `{`, of whatever height, is this one, and that `{` is this token.
abbrev pub IsOnlyContract : ContractTree → ℕ → List Token → ℕ → Type 0
IsOnlyContract c to tokens from = (d : ContractTree) (m : ℕ) → SpellsContract d tokens from m → (d ≡ c) × (m ≡ to)

-- why there is no contract: none stands there, or only such as are higher than 200 nodes, on at least 200 tokens, or
-- memory ran out, which may always be
abbrev pub HasContractCause : ParseError → List Token → ℕ → Type 0
HasContractCause (errors.Syntax at) tokens from =
    ((c : ContractTree) (to : ℕ) → SpellsContract c tokens from to → ⊥) × (at ≤ length tokens)
HasContractCause errors.TooDeep tokens from =
    ((c : ContractTree) (to : ℕ) → SpellsContract c tokens from to → 200 < contract_height c) × (from + 200 ≤ length tokens)
HasContractCause errors.OutOfMemory tokens from = Unit {0}

-- a contract of at most this height that stands directly before a `{`
unfoldable pub read_before_body : ℕ → Parser ContractTree
read_before_body n xs = read_contract n xs >>= (λ c ys. if sees o.LeftBrace ys then Ok (c, ys) else Err no_tree)

-- ---- spec methods

-- The spec method spells the tokens from `from` to before `to`, which is at most the number of tokens.
abbrev pub SpellsSpec : SpecTree → List Token → ℕ → ℕ → Type 0
SpellsSpec t tokens from to = (n : ℕ) × SpecWithin n t (tokens_from from tokens) (tokens_from to tokens) × (to ≤ length tokens)

-- Each spec method that begins there, of whatever height, is this one, and ends before this token.
abbrev pub IsOnlySpec : SpecTree → ℕ → List Token → ℕ → Type 0
IsOnlySpec t to tokens from = (s : SpecTree) (m : ℕ) → SpellsSpec s tokens from m → (s ≡ t) × (m ≡ to)

-- the same of spec methods
abbrev pub HasSpecCause : ParseError → List Token → ℕ → Type 0
HasSpecCause (errors.Syntax at) tokens from =
    ((t : SpecTree) (to : ℕ) → SpellsSpec t tokens from to → ⊥) × (at ≤ length tokens)
HasSpecCause errors.TooDeep tokens from =
    ((t : SpecTree) (to : ℕ) → SpellsSpec t tokens from to → 200 < spec_height t) × (from + 200 ≤ length tokens)
HasSpecCause errors.OutOfMemory tokens from = Unit {0}

-- ---- refusals

abbrev pub refused : Refusal → ℕ → ParseError
refused refusal.NoTree at = errors.Syntax at
refused refusal.TooHigh at = errors.TooDeep
refused refusal.OutOfMemory at = errors.OutOfMemory
