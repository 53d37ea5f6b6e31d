-- What reading says of the tokens from a number on.
use Rattle.std.proofs.Common.{◌≡◌, ◌∙◌, ℕ, ◌+◌, ◌-◌, ◌≤◌, ◌<◌, if◌then◌else◌, List, [], ◌∷◌, length, Bool, true, false, Ok, Err, refl, ap, arith}
use Rattle.std.proofs.lemmas.List.{length-drop}
use Rattle.java_tokens.specs.declared.token.Operator.TheVariants as o
use Rattle.java_tokens.specs.declared.token.Token.{Token}
use Rattle.token_reading.specs.Lexeme.{Lexeme, numbered, sees}
use Rattle.token_reading.specs.Outcome.{no_tree, too_high, Outcome, ◌>>=◌}
use Rattle.token_reading.specs.Reads.{Fails}
use Rattle.token_reading.specs.declared.refusal.Refusal.{Refusal}
use Rattle.token_reading.specs.declared.refusal.Refusal.TheVariants as refusal
use Rattle.token_reading.proofs.Cursor.{length_numbered}
use Rattle.token_reading.proofs.Lexemes.{from_sees}
use Rattle.spec_trees.specs.declared.contract.ContractTree.{ContractTree}
use Rattle.spec_trees.specs.declared.contract.SpecTree.{SpecTree}
use Rattle.spec_trees.specs.Height.{contract_height, spec_height}
use Rattle.spec_reading.specs.ReadContract.{read_contract, read_spec}
use Rattle.spec_reading.specs.ReadTerm.{term_follows}
use Rattle.spec_reading.proofs.ContractTrees.{contract_at_most, spec_at_most}
use Rattle.spec_reading.proofs.ContractWhole.{one_contract, gives_contracts, refuses_contracts, refuses_high_contracts}
use Rattle.spec_reading.proofs.SpecWhole.{one_spec, gives_specs, refuses_specs, refuses_high_specs}
use Rattle.spec_syntax.specs.Answer.{tokens_from, SpellsContract, IsOnlyContract, HasContractCause, read_before_body, SpellsSpec, IsOnlySpec, HasSpecCause, refused}
use Rattle.spec_syntax.proofs.Suffixes.{Ends, contract_end, spec_end, counted}

-- ---- numbers of tokens

-- Where the tokens after a tree are the end of all, they are those from this number on.
end_at : (tokens : List Token) (from : ℕ) (rest : List Lexeme) → Ends (tokens_from from tokens) rest
    → tokens_from (length tokens - length rest) tokens ≡ rest
end_at tokens from rest e =
    let count : length (numbered 0 tokens) ≡ length tokens = length_numbered 0 tokens in
    rw count at (counted from (numbered 0 tokens) rest e)

-- as many tokens as there are from a number on
from_length : (tokens : List Token) (n : ℕ) → length (tokens_from n tokens) ≡ length tokens - n
from_length tokens n = length-drop n (numbered 0 tokens) ∙ ap (λ k. k - n) (length_numbered 0 tokens)

brace_nonempty : (xs : List Lexeme) → sees o.LeftBrace xs ≡ true → 0 < length xs
brace_nonempty [] h = absurd (cc)
brace_nonempty (x ∷ xs) h = omega arith

brace_ends : (xs : List Lexeme) → sees o.LeftBrace xs ≡ true → term_follows xs ≡ 0
brace_ends xs h = rw (from_sees o.LeftBrace xs h).1 refl

-- ---- contracts

abbrev tree_of : ContractTree → Outcome ContractTree → ContractTree
tree_of c (Ok p) = p.0
tree_of c (Err f) = c

abbrev rest_of : Outcome ContractTree → List Lexeme
rest_of (Ok p) = p.1
rest_of (Err f) = []

-- a contract before a `{`, where the test for the `{` has this outcome
abbrev body : ContractTree → List Lexeme → Bool → Outcome ContractTree
body c ys t = if t then Ok (c, ys) else Err no_tree

no_brace : (c : ContractTree) (ys : List Lexeme) → sees o.LeftBrace ys ≡ true → body c ys (sees o.LeftBrace ys) ≡ Err no_tree → ⊥
no_brace c ys is r = let same : body c ys true ≡ Err no_tree = rw is at r in cc

brace_low : (c : ContractTree) (ys : List Lexeme) (t : Bool) → body c ys t ≡ Err too_high → ⊥
brace_low c ys true r = cc
brace_low c ys false r = cc

body_by : (c : ContractTree) (ys : List Lexeme) (t : Bool) (d : ContractTree) (zs : List Lexeme) → sees o.LeftBrace ys ≡ t
    → body c ys t ≡ Ok (d, zs) → (c ≡ d) × (ys ≡ zs) × (sees o.LeftBrace ys ≡ true)
body_by c ys true d zs is r = (ap (tree_of d) r, ap rest_of r, is)
body_by c ys false d zs is r = absurd (cc)

given_by : (xs : List Lexeme) (r : Outcome ContractTree) (c : ContractTree) (rest : List Lexeme) → read_contract 200 xs ≡ r
    → (r >>= (λ d ys. body d ys (sees o.LeftBrace ys))) ≡ Ok (c, rest)
    → (read_contract 200 xs ≡ Ok (c, rest)) × (sees o.LeftBrace rest ≡ true)
given_by xs (Ok p) c rest is r =
    let b = body_by p.0 p.1 (sees o.LeftBrace p.1) c rest refl r in
    (is ∙ ap (λ d. Ok (d, p.1)) b.0 ∙ ap (λ ys. Ok (c, ys)) b.1, rw b.1 at b.2)
given_by xs (Err f) c rest is r = absurd (cc)

-- what is read before a `{`
given : (xs : List Lexeme) (c : ContractTree) (rest : List Lexeme) → read_before_body 200 xs ≡ Ok (c, rest)
    → (read_contract 200 xs ≡ Ok (c, rest)) × (sees o.LeftBrace rest ≡ true)
unfolding read_before_body
given xs c rest is = given_by xs (read_contract 200 xs) c rest refl is

pub spelled : (tokens : List Token) (from : ℕ) (c : ContractTree) (rest : List Lexeme) → read_before_body 200 (tokens_from from tokens) ≡ Ok (c, rest)
    → SpellsContract c tokens from (length tokens - length rest)
spelled tokens from c rest is =
    let g = given (tokens_from from tokens) c rest is in
    let w = (gives_contracts 200 c (tokens_from from tokens) rest g.0).0 in
    let end = end_at tokens from rest (contract_end 200 c (tokens_from from tokens) rest w) in
    (200, rw end w, rw end g.1)

pub low : (tokens : List Token) (from : ℕ) (c : ContractTree) (rest : List Lexeme) → read_before_body 200 (tokens_from from tokens) ≡ Ok (c, rest)
    → contract_height c ≤ 200
low tokens from c rest is =
    let xs = tokens_from from tokens in
    contract_at_most 200 c xs rest (gives_contracts 200 c xs rest (given xs c rest is).0).0

pub only : (tokens : List Token) (from : ℕ) (c : ContractTree) (rest : List Lexeme) → read_before_body 200 (tokens_from from tokens) ≡ Ok (c, rest)
    → IsOnlyContract c (length tokens - length rest) tokens from
only tokens from c rest is = λ d m s.
    let xs = tokens_from from tokens in
    let g = given xs c rest is in
    let w = gives_contracts 200 c xs rest g.0 in
    let same = one_contract d c xs (tokens_from m tokens) rest (s.0, s.1, brace_ends (tokens_from m tokens) s.2) (200, w.0, w.1) in
    (same.0, omega (arith, ap length same.1, from_length tokens m, brace_nonempty (tokens_from m tokens) s.2))

nothing_by : (tokens : List Token) (from : ℕ) (r : Outcome ContractTree) → read_contract 200 (tokens_from from tokens) ≡ r
    → (r >>= (λ d ys. body d ys (sees o.LeftBrace ys))) ≡ Err no_tree
    → (c : ContractTree) (to : ℕ) → SpellsContract c tokens from to → ⊥
nothing_by tokens from (Ok p) is r c to s =
    let xs = tokens_from from tokens in
    let w = gives_contracts 200 p.0 xs p.1 is in
    let same = one_contract c p.0 xs (tokens_from to tokens) p.1 (s.0, s.1, brace_ends (tokens_from to tokens) s.2) (200, w.0, w.1) in
    let brace : sees o.LeftBrace p.1 ≡ true = rw same.1 at s.2 in
    no_brace p.0 p.1 brace r
nothing_by tokens from (Err no_tree) is r c to s =
    refuses_contracts 200 c (tokens_from from tokens) (tokens_from to tokens) is (s.0, s.1, brace_ends (tokens_from to tokens) s.2)
nothing_by tokens from (Err too_high) is r c to s = cc

pub nothing : (tokens : List Token) (from : ℕ) → read_before_body 200 (tokens_from from tokens) ≡ Err no_tree
    → (c : ContractTree) (to : ℕ) → SpellsContract c tokens from to → ⊥
unfolding read_before_body
nothing tokens from is = nothing_by tokens from (read_contract 200 (tokens_from from tokens)) refl is

high_by : (xs : List Lexeme) (r : Outcome ContractTree) → read_contract 200 xs ≡ r
    → (r >>= (λ d ys. body d ys (sees o.LeftBrace ys))) ≡ Err too_high → read_contract 200 xs ≡ Err too_high
high_by xs (Ok p) is r = absurd (brace_low p.0 p.1 (sees o.LeftBrace p.1) r)
high_by xs (Err no_tree) is r = absurd (cc)
high_by xs (Err too_high) is r = is

high : (xs : List Lexeme) → read_before_body 200 xs ≡ Err too_high → read_contract 200 xs ≡ Err too_high
unfolding read_before_body
high xs is = high_by xs (read_contract 200 xs) refl is

pub high_ones : (tokens : List Token) (from : ℕ) → read_before_body 200 (tokens_from from tokens) ≡ Err too_high
    → (c : ContractTree) (to : ℕ) → SpellsContract c tokens from to → 200 < contract_height c
high_ones tokens from is = λ c to s.
    (refuses_high_contracts 200 (tokens_from from tokens) (high (tokens_from from tokens) is)).0 c (tokens_from to tokens)
    (s.0, s.1, brace_ends (tokens_from to tokens) s.2)

pub long_enough : (tokens : List Token) (from : ℕ) → read_before_body 200 (tokens_from from tokens) ≡ Err too_high
    → from + 200 ≤ length tokens
long_enough tokens from is =
    omega (
      arith,
      (refuses_high_contracts 200 (tokens_from from tokens) (high (tokens_from from tokens) is)).1,
      from_length tokens from,
    )

-- ---- spec methods

pub spec_spelled : (tokens : List Token) (from : ℕ) (t : SpecTree) (rest : List Lexeme) → read_spec 200 (tokens_from from tokens) ≡ Ok (t, rest)
    → SpellsSpec t tokens from (length tokens - length rest)
spec_spelled tokens from t rest is =
    let w = gives_specs 200 t (tokens_from from tokens) rest is in
    let end = end_at tokens from rest (spec_end 200 t (tokens_from from tokens) rest w) in
    (200, rw end w, omega arith)

pub spec_low : (tokens : List Token) (from : ℕ) (t : SpecTree) (rest : List Lexeme) → read_spec 200 (tokens_from from tokens) ≡ Ok (t, rest)
    → spec_height t ≤ 200
spec_low tokens from t rest is =
    spec_at_most 200 t (tokens_from from tokens) rest (gives_specs 200 t (tokens_from from tokens) rest is)

pub spec_only : (tokens : List Token) (from : ℕ) (t : SpecTree) (rest : List Lexeme) → read_spec 200 (tokens_from from tokens) ≡ Ok (t, rest)
    → IsOnlySpec t (length tokens - length rest) tokens from
spec_only tokens from t rest is = λ s m v.
    let xs = tokens_from from tokens in
    let same = one_spec s t xs (tokens_from m tokens) rest (v.0, v.1) (200, gives_specs 200 t xs rest is) in
    (same.0, omega (arith, ap length same.1, from_length tokens m, v.2))

pub spec_nothing : (tokens : List Token) (from : ℕ) → read_spec 200 (tokens_from from tokens) ≡ Err no_tree
    → (t : SpecTree) (to : ℕ) → SpellsSpec t tokens from to → ⊥
spec_nothing tokens from is = λ t to v. refuses_specs 200 t (tokens_from from tokens) (tokens_from to tokens) is (v.0, v.1)

pub spec_high_ones : (tokens : List Token) (from : ℕ) → read_spec 200 (tokens_from from tokens) ≡ Err too_high
    → (t : SpecTree) (to : ℕ) → SpellsSpec t tokens from to → 200 < spec_height t
spec_high_ones tokens from is = λ t to v.
    (refuses_high_specs 200 (tokens_from from tokens) is).0 t (tokens_from to tokens) (v.0, v.1)

pub spec_long_enough : (tokens : List Token) (from : ℕ) → read_spec 200 (tokens_from from tokens) ≡ Err too_high
    → from + 200 ≤ length tokens
spec_long_enough tokens from is =
    omega (arith, (refuses_high_specs 200 (tokens_from from tokens) is).1, from_length tokens from)

-- ---- refusals

pub contract_cause : (tokens : List Token) (from at : ℕ) (e : Refusal) → Fails (read_before_body 200 (tokens_from from tokens)) e → at ≤ length tokens
    → HasContractCause (refused e at) tokens from
contract_cause tokens from at refusal.NoTree is fits = (nothing tokens from is, fits)
contract_cause tokens from at refusal.TooHigh is fits = (high_ones tokens from is, long_enough tokens from is)
contract_cause tokens from at refusal.OutOfMemory is fits = tt

pub spec_cause : (tokens : List Token) (from at : ℕ) (e : Refusal) → Fails (read_spec 200 (tokens_from from tokens)) e → at ≤ length tokens
    → HasSpecCause (refused e at) tokens from
spec_cause tokens from at refusal.NoTree is fits = (spec_nothing tokens from is, fits)
spec_cause tokens from at refusal.TooHigh is fits = (spec_high_ones tokens from is, spec_long_enough tokens from is)
spec_cause tokens from at refusal.OutOfMemory is fits = tt
