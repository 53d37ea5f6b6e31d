-- Paths by way of ever more objects (Warshall).
use Rattle.std.proofs.Common.{◌≡◌, ◌<◌, ◌+◌, ℕ, zero, suc, Bool, ◌||◌, ◌&&◌, ◌↔◌, sym, ◌∙◌, arith, subst, inl, inr, ◌⊎◌}
use Rattle.std.specs.Prelude.{IsTrue}
use Rattle.std.proofs.lemmas.Bool.{cases_lt, or_cases, or_left, or_right, and_parts, and_from}
use Rattle.relation_gates.specs.Relations.{Leads, IsPath}

path-cons : (edges : ℕ → ℕ → Bool) (below x y z : ℕ) → IsTrue (edges x y) → y < below → IsPath edges below y z
    → IsPath edges below x z
path-cons edges below x y z e h p = (suc p.0, (y, h, e, p.1))

leads-wider : (edges : ℕ → ℕ → Bool) (below more x z : ℕ) → Leads edges below more x z
    → Leads edges (below + 1) more x z
leads-wider edges below zero x z p = p
leads-wider edges below (suc more) x z p = (p.0, omega (arith, p.1), p.2, leads-wider edges below more p.0 z p.3)

path-wider : (edges : ℕ → ℕ → Bool) (below x z : ℕ) → IsPath edges below x z → IsPath edges (below + 1) x z
path-wider edges below x z p = (p.0, leads-wider edges below p.0 x z p.1)

-- a path, and then another from its end, which is below the bound
leads-then : (edges : ℕ → ℕ → Bool) (below more x y z : ℕ) → Leads edges below more x y → y < below
    → IsPath edges below y z → IsPath edges below x z
leads-then edges below zero x y z p h q = path-cons edges below x y z p h q
leads-then edges below (suc more) x y z p h q = path-cons edges below x p.0 z p.2 p.1 (leads-then edges below more p.0 y z p.3 h q)

-- a path by way of one more object goes without it, or to it and on from it
split : (edges : ℕ → ℕ → Bool) (below more x z : ℕ) → Leads edges (below + 1) more x z
    → IsPath edges below x z ⊎ (IsPath edges below x below × IsPath edges below below z)
split edges below zero x z p = inl (zero, p)
split edges below (suc more) x z p =
    let rest = split edges below more p.0 z p.3 in
    elim (cases_lt p.0 below) [
      | inl under ↦ elim rest [
        | inl q ↦ inl (path-cons edges below x p.0 z p.2 under q)
        | inr q ↦ inr (path-cons edges below x p.0 below p.2 under q.0, q.1)
      ]
      | inr past ↦
          let here : p.0 ≡ below = omega (arith, p.1) in
          let first : IsPath edges below x below = (zero, subst (λ y. IsTrue (edges x y)) here p.2) in
          elim rest [
            | inl q ↦ inr (first, subst (λ y. IsPath edges below y z) here q)
            | inr q ↦ inr (first, q.1)
          ]
    ]

only : (edges : ℕ → ℕ → Bool) (x z more : ℕ) → Leads edges 0 more x z → IsTrue (edges x z)
only edges x z zero p = p
only edges x z (suc more) p = absurd (omega (arith, p.1))

-- at first there are the edges alone
pub path-none : (edges : ℕ → ℕ → Bool) (x z : ℕ) → IsTrue (edges x z) ↔ IsPath edges 0 x z
path-none edges x z = (λ t. (zero, t), λ p. only edges x z p.0 p.1)

-- one more object on the way
pub path-next : (edges : ℕ → ℕ → Bool) (k x z : ℕ) (old to from new : Bool) → (IsTrue old ↔ IsPath edges k x z)
    → (IsTrue to ↔ IsPath edges k x k) → (IsTrue from ↔ IsPath edges k k z) → new ≡ (old || (to && from))
    → IsTrue new ↔ IsPath edges (k + 1) x z
path-next edges k x z old to from new o t f e = (
  λ h. elim (or_cases old (to && from) (sym e ∙ h)) [
    | inl a ↦ path-wider edges k x z (o.0 a)
    | inr b ↦
        let parts = and_parts to from b in
        let first = path-wider edges k x k (t.0 parts.0) in
        let second = path-wider edges k k z (f.0 parts.1) in
        leads-then edges (k + 1) first.0 x k z first.1 (omega arith) second
  ],
  λ p. e ∙ elim (split edges k p.0 x z p.1) [
    | inl a ↦ or_left old (to && from) (o.1 a)
    | inr b ↦ or_right old (to && from) (and_from to from (t.1 b.0) (f.1 b.1))
  ],
)
