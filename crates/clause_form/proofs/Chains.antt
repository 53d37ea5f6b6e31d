-- What a chain keeps: a property of clauses that each resolvent has where its two clauses have it.
use Rattle.std.proofs.Common.{◌≡◌, ℕ, zero, suc, ◌+◌, Bool, true, ◌&&◌, ℤ, List, [], ◌∷◌, ◌++◌, length, refl, ap, subst, ◌⊎◌, inl, inr, Option, Some, None, Err}
use Rattle.std.specs.Prelude.{neg_ℤ, slice_get}
use Rattle.std.specs.List.{list_any, All}
use Rattle.std.proofs.lemmas.Bool.{cases_Bool, and_parts}
use Rattle.std.proofs.lemmas.List.Elements.{All-head, All-tail, All-append, All-push}
use Rattle.clause_form.specs.declared.derivation.Cut.{Cut}
use Rattle.clause_form.specs.declared.derivation.Line.{Line}
use Rattle.clause_form.specs.Clauses.{has, value, Holds}
use Rattle.clause_form.specs.Derivation.{resolvent, numbered, cut_with, after_cut, after_cuts, clause_of, derived_after, option_cases}
use Rattle.clause_form.proofs.Members.{resolvent-follows}

pub some_or_none : {A : Type 0} (o : Option A) → ((x : A) × (o ≡ Some x)) ⊎ (o ≡ None)
some_or_none None = inr refl
some_or_none (Some x) = inl (x, refl)

pub get-All : (P : List ℤ → Type 0) (cs : List (List ℤ)) (k : ℕ) (c : List ℤ) → All P cs → slice_get cs k ≡ Some c → P c
get-All P [] k c h e = absurd (cc)
get-All P (d ∷ cs) zero c h e = let same : d ≡ c = cc in subst P same (All-head P d cs h)
get-All P (d ∷ cs) (suc k) c h e = get-All P cs k c (All-tail P d cs h) e

pub numbered-All : (P : List ℤ → Type 0) (cs : List (List ℤ)) (k : ℕ) (c : List ℤ) → All P cs → numbered cs k ≡ Some c → P c
numbered-All P cs zero c h e = absurd (cc)
numbered-All P cs (suc k) c h e = get-All P cs k c h e

-- a cut that can be made has the pivot here, its negation there, and gives the resolvent
pub cut_with-Some : (c : List ℤ) (p : ℤ) (d e : List ℤ) → cut_with c p d ≡ Some e → (has p c ≡ true) × (has (neg_ℤ p) d ≡ true) × (resolvent c p d ≡ e)
cut_with-Some c p d e h = elim (cases_Bool (has p c && has (neg_ℤ p) d)) [
  | inl t ↦ let both = and_parts _ _ t in let same : resolvent c p d ≡ e = let g : Some (resolvent c p d) ≡ Some e = rw t at h in cc in (both.0, both.1, same)
  | inr f ↦ let g : None ≡ Some e = rw f at h in absurd (cc)
]

module _ (P : List ℤ → Type 0) (kept : (c : List ℤ) (p : ℤ) (d : List ℤ) → has p c ≡ true → has (neg_ℤ p) d ≡ true → P c → P d → P (resolvent c p d)) (clauses : List (List ℤ)) (all : All P clauses) where
  pub after_cut-keeps : (c : List ℤ) (cut : Cut) (e : List ℤ) → P c → after_cut clauses c cut ≡ Some e → P e
  after_cut-keeps c cut e h eq = elim (some_or_none (numbered clauses cut.with)) [
    | inl r ↦
        let g = rw r.1 at eq in
        let s = cut_with-Some c cut.pivot r.0 e g in
        subst P s.2 (kept c cut.pivot r.0 s.0 s.1 h (numbered-All P clauses cut.with r.0 all r.1))
    | inr n ↦ let g : None ≡ Some e = rw n at eq in absurd (cc)
  ]

  pub after_cuts-keep : (cuts : List Cut) (c e : List ℤ) → P c → after_cuts clauses c cuts ≡ Some e → P e
  after_cuts-keep [] c e h eq = let same : c ≡ e = cc in subst P same h
  after_cuts-keep (cut ∷ cuts) c e h eq = elim (some_or_none (after_cut clauses c cut)) [
    | inl r ↦ after_cuts-keep cuts r.0 e (after_cut-keeps c cut r.0 h r.1) (rw r.1 at eq)
    | inr n ↦ let g : None ≡ Some e = rw n at eq in absurd (cc)
  ]

  pub clause_of-keeps : (line : Line) (e : List ℤ) → clause_of clauses line ≡ Some e → P e
  clause_of-keeps line e eq = elim (some_or_none (numbered clauses line.first)) [
    | inl r ↦ after_cuts-keep line.cuts.items r.0 e (numbered-All P clauses line.first r.0 all r.1) (rw r.1 at eq)
    | inr n ↦ let g : None ≡ Some e = rw n at eq in absurd (cc)
  ]

pub clause_of-follows : (a : ℕ → Bool) (clauses : List (List ℤ)) (line : Line) (e : List ℤ) → Holds clauses a → clause_of clauses line ≡ Some e → list_any (value a) e ≡ true
clause_of-follows a clauses line e h eq =
    clause_of-keeps (λ c. list_any (value a) c ≡ true) (λ c p d _ _ x y. resolvent-follows a c p d x y) clauses h line e eq

-- one more clause
pub Holds-push : (a : ℕ → Bool) (given made : List (List ℤ)) (line : Line) (e : List ℤ) → Holds given a → Holds made a → clause_of (given ++ made) line ≡ Some e → Holds (made ++ e ∷ []) a
Holds-push a given made line e h k eq =
    let P : List ℤ → Type 0 = λ c. list_any (value a) c ≡ true in
    All-push P made e k (clause_of-follows a (given ++ made) line e (All-append P given made h k) eq)

pub derived_after-made : (given made : List (List ℤ)) (line : Line) (log : List Line) (e : List ℤ) → clause_of (given ++ made) line ≡ Some e → derived_after given made (line ∷ log) ≡ derived_after given (made ++ e ∷ []) log
derived_after-made given made line log e h = ap (λ o. option_cases o (Err (length made + 1)) (λ c. derived_after given (made ++ c ∷ []) log)) h
