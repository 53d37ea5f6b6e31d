-- The table of separators and operators has each of them, and no longer one after a shorter one.
use Rattle.std.proofs.Common.{◌≡◌, inl, inr, ℕ, zero, suc, ◌<◌, ◌≤◌, Bool, true, false, ◌&&◌, nat_le, List, [], ◌∷◌, length, get_or, bytes_eq, refl, sym, ap, ◌∙◌, subst, arith}
use Rattle.std.specs.List.{list_all, position_or_len}
use Rattle.std.proofs.lemmas.Bool.{and_parts, leb-true, cases_lt}
use Rattle.java_tokens.specs.declared.operator.TheConstants.{OPERATORS}
use Rattle.java_tokens.specs.declared.token.Operator.{Operator}
use Rattle.java_tokens.specs.declared.token.Operator.TheVariants.{LeftParen}
use Rattle.java_tokens.specs.Spelling.{operator_text}
use Rattle.java_tokens.specs.Reading.{starts_with, IsLongestOperator}

abbrev size : Operator → ℕ
size o = length (operator_text o)

abbrev pub operator_at : ℕ → Operator
operator_at i = get_or OPERATORS i LeftParen

abbrev index_of : Operator → ℕ
index_of o = position_or_len (λ p. bytes_eq (operator_text p) (operator_text o)) OPERATORS

operator_at-index : (o : Operator) → operator_at (index_of o) ≡ o
operator_at-index LeftParen = refl
operator_at-index o = refl

index_of-below : (o : Operator) → index_of o < 50
index_of-below LeftParen = omega arith
index_of-below o = omega arith

-- none after is longer
abbrev falling : List Operator → Bool
falling [] = true
falling (o ∷ os) = list_all (λ p. nat_le (size p) (size o)) os && falling os

table-falling : falling OPERATORS ≡ true
table-falling = refl

all-at : (p : Operator → Bool) (os : List Operator) → list_all p os ≡ true → (j : ℕ) → j < length os → p (get_or os j LeftParen) ≡ true
all-at p [] passes j below = absurd (omega arith)
all-at p (o ∷ os) passes zero below = (and_parts (p o) (list_all p os) passes).0
all-at p (o ∷ os) passes (suc j) below = all-at p os (and_parts (p o) (list_all p os) passes).1 j (omega arith)

falling-at : (os : List Operator) → falling os ≡ true → (i j : ℕ) → i ≤ j → j < length os → size (get_or os j LeftParen) ≤ size (get_or os i LeftParen)
falling-at [] falls i j order below = absurd (omega arith)
falling-at (o ∷ os) falls zero zero order below = omega arith
falling-at (o ∷ os) falls zero (suc j) order below =
    leb-true (size (get_or os j LeftParen)) (size o) (all-at (λ p. nat_le (size p) (size o)) os (and_parts _ _ falls).0 j (omega arith))
falling-at (o ∷ os) falls (suc i) zero order below = absurd (omega arith)
falling-at (o ∷ os) falls (suc i) (suc j) order below = falling-at os (and_parts _ _ falls).1 i j (omega arith) (omega arith)

module _ (xs : List ℕ) where
  at-index : (o : Operator) → starts_with xs (operator_text (operator_at (index_of o))) ≡ starts_with xs (operator_text o)
  at-index o = ap (λ p. starts_with xs (operator_text p)) (operator_at-index o)

  pub found_longest : (i : ℕ) → i < 50 → starts_with xs (operator_text (operator_at i)) ≡ true → ((j : ℕ) → j < i → starts_with xs (operator_text (operator_at j)) ≡ false) → IsLongestOperator xs (operator_at i)
  found_longest i below starts none = record { starts = starts; longest = longest } where
    longest : (other : Operator) → starts_with xs (operator_text other) ≡ true → length (operator_text other) ≤ length (operator_text (operator_at i))
    longest other starts' =
        elim (cases_lt (index_of other) i) [
          | inl before ↦ let not = none (index_of other) before in let same = at-index other in absurd (cc)
          | inr behind ↦ subst (λ o. size o ≤ size (operator_at i)) (operator_at-index other) (falling-at OPERATORS table-falling i (index_of other) behind (index_of-below other))
        ]

  pub found_none : ((j : ℕ) → j < 50 → starts_with xs (operator_text (operator_at j)) ≡ false) → (o : Operator) → starts_with xs (operator_text o) ≡ false
  found_none none o = sym (at-index o) ∙ none (index_of o) (index_of-below o)
