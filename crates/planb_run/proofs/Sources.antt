-- No source is both accepted and refused, and what refuses a source is one.
use Rattle.std.proofs.Common.{◌≡◌, ◌≢◌, inl, inr, ℕ, suc, ◌<◌, ◌≤◌, List, length, replicate, refl, sym, ◌∙◌, ap, subst, arith}
use Rattle.std.proofs.lemmas.List.{length-replicate}
use Rattle.core_tree.specs.declared.program.Program.{Program}
use Rattle.java_tokens.specs.declared.token.Token.{Token}
use Rattle.java_tokens.specs.declared.error.TokenError.{TokenError}
use Rattle.java_tokens.specs.declared.error.TokenError.TheVariants as token
use Rattle.java_tokens.specs.Tokens.{AreTokens}
use Rattle.java_tokens.specs.Faults.{HasFault}
use Rattle.java_tokens.proofs.OneReading.{one_list, one_fault, no_list_with_fault}
use Rattle.token_reading.specs.declared.fault.Fault.{Fault}
use Rattle.java_syntax.specs.declared.class.FileTree.{FileTree}
use Rattle.java_syntax.specs.Spells.{Spells}
use Rattle.java_names.specs.Refusals.{Has}
use Rattle.java_source.specs.declared.refusal.SourceRefusal.{SourceRefusal}
use Rattle.java_source.specs.declared.refusal.SourceRefusal.TheVariants as refusal
use Rattle.java_source.specs.declared.refusal.TokenKindError.{TokenKindError}
use Rattle.java_source.specs.declared.refusal.TokenKindError.TheVariants as kinds
use Rattle.java_source.specs.Accepted.{Accepted, BreaksNoRule, IsBroken, most_bytes}
use Rattle.java_source.specs.Refused.{RefusesFor, lexical_error}

-- ---- lexical faults

-- none is a memory that runs out
lexical_known : (kind : TokenKindError) (at : ℕ) → lexical_error kind at ≢ token.OutOfMemory
lexical_known kinds.Utf8 at is = cc
lexical_known kinds.Character at is = cc
lexical_known kinds.Number at is = cc
lexical_known kinds.Unclosed at is = cc

-- the refusal of an error
abbrev refusal_of : TokenError → SourceRefusal
refusal_of (token.BadUtf8 at) = refusal.Lexical kinds.Utf8 at
refusal_of (token.BadChar at) = refusal.Lexical kinds.Character at
refusal_of (token.BadNumber at) = refusal.Lexical kinds.Number at
refusal_of (token.Unclosed at) = refusal.Lexical kinds.Unclosed at
refusal_of token.OutOfMemory = refusal.TooLong

refusal_of-lexical : (kind : TokenKindError) (at : ℕ) → refusal_of (lexical_error kind at) ≡ refusal.Lexical kind at
refusal_of-lexical kinds.Utf8 at = refl
refusal_of-lexical kinds.Character at = refl
refusal_of-lexical kinds.Number at = refl
refusal_of-lexical kinds.Unclosed at = refl

-- two that are one error are of one kind at one byte
same_lexical : (one other : TokenKindError) (at place : ℕ) → lexical_error one at ≡ lexical_error other place
    → refusal.Lexical one at ≡ refusal.Lexical other place
same_lexical one other at place same = sym (refusal_of-lexical one at) ∙ ap refusal_of same ∙ refusal_of-lexical other place

-- a source with tokens has no lexical fault
faultless : (source : List ℕ) (tokens : List Token) (kind : TokenKindError) (at : ℕ) → AreTokens source tokens
    → HasFault source (lexical_error kind at) → ⊥
faultless source tokens kind at read fault = no_list_with_fault source tokens (lexical_error kind at) (lexical_known kind at) read fault

-- ---- a source that is longer, or has a lexical fault, is refused for that

pub refused_long : (source : List ℕ) (why : SourceRefusal) → RefusesFor source why → most_bytes < length source
    → why ≡ refusal.TooLong
refused_long source refusal.TooLong refused long = refl
refused_long source (refusal.Lexical kind at) refused long = absurd (omega (arith, refused.few))
refused_long source (refusal.Syntax line column) refused long = absurd (omega (arith, refused.few))
refused_long source refusal.TooDeep refused long = absurd (omega (arith, refused.few))
refused_long source (refusal.Fault rule line column) refused long = absurd (omega (arith, refused.few))

pub refused_lexical : (source : List ℕ) (why : SourceRefusal) (kind : TokenKindError) (at : ℕ) → RefusesFor source why
    → length source ≤ most_bytes → HasFault source (lexical_error kind at) → why ≡ refusal.Lexical kind at
refused_lexical source refusal.TooLong kind at refused few fault = absurd (omega (arith, refused))
refused_lexical source (refusal.Lexical other place) kind at refused few fault =
    same_lexical other kind place at
    (one_fault source (lexical_error other place) (lexical_error kind at) (lexical_known other place) (lexical_known kind at) refused.fault fault)
refused_lexical source (refusal.Syntax line column) kind at refused few fault = absurd (faultless source refused.tokens kind at refused.read fault)
refused_lexical source refusal.TooDeep kind at refused few fault = absurd (faultless source refused.tokens kind at refused.read fault)
refused_lexical source (refusal.Fault rule line column) kind at refused few fault = absurd (faultless source refused.tokens kind at refused.read fault)

pub accepted_faultless : (source : List ℕ) (program : Program) (kind : TokenKindError) (at : ℕ)
    → Accepted source program → HasFault source (lexical_error kind at) → ⊥
accepted_faultless source program kind at accepted fault = faultless source accepted.tokens kind at accepted.read fault

-- ---- no source is both accepted and refused

not_broken : (tree : FileTree) (f : Fault) → BreaksNoRule tree → IsBroken tree f → ⊥
not_broken tree f clear (inl breaks) = clear.classes.none f breaks
not_broken tree f clear (inr (none, inl has)) = subst (λ faults. Has faults f) clear.types has
not_broken tree f clear (inr (none, inr (typed, has))) = subst (λ faults. Has faults f) clear.throws has

-- the tree of an accepted source spells the tokens, as these are the only ones
spelled_by : (source : List ℕ) (program : Program) (tokens : List Token) → (accepted : Accepted source program)
    → AreTokens source tokens → Spells accepted.program_is.tree tokens
spelled_by source program tokens accepted read =
    subst (Spells accepted.program_is.tree) (one_list source accepted.tokens tokens accepted.read read) accepted.program_is.spelled

pub refused_unaccepted : (source : List ℕ) (why : SourceRefusal) (program : Program) → RefusesFor source why
    → Accepted source program → ⊥
refused_unaccepted source refusal.TooLong program refused accepted = omega (arith, refused, accepted.few)
refused_unaccepted source (refusal.Lexical kind at) program refused accepted = accepted_faultless source program kind at accepted refused.fault
refused_unaccepted source (refusal.Syntax line column) program refused accepted =
    refused.none accepted.program_is.tree (spelled_by source program refused.tokens accepted refused.read)
refused_unaccepted source refusal.TooDeep program refused accepted =
    let high = refused.high accepted.program_is.tree (spelled_by source program refused.tokens accepted refused.read) in
    omega (arith, high, accepted.program_is.low)
refused_unaccepted source (refusal.Fault rule line column) program refused accepted =
    let same = refused.only accepted.program_is.tree (spelled_by source program refused.tokens accepted refused.read) in
    not_broken refused.tree refused.fault (subst BreaksNoRule same accepted.program_is.clear) refused.broken

-- ---- a long source

-- there is a longer list
pub some_longer : (n : ℕ) → (source : List ℕ) × (n < length source)
some_longer n = (replicate (suc n) 0, rw length-replicate (omega arith))
