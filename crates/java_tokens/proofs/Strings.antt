-- Where the characters of a string end, and which they are.
use Rattle.std.proofs.Common.{◌≡◌, ℕ, inl, inr, Bool, true, false, cond, ◌==◌, List, [], ◌∷◌, ◌++◌, Option, Some, None, refl, sym, ap, ◌∙◌, arith, append_assoc}
use Rattle.std.proofs.lemmas.Bool.{cond-true, cond-false}
use Rattle.std.proofs.lemmas.Bool.Decides.{nat_tests}
use Rattle.std.proofs.lemmas.List.{append-nil}
use Rattle.java_tokens.specs.Characters.{is_plain, escaped}
use Rattle.java_tokens.specs.Spelling.{SpellsCharacter, SpellsCharacters}

-- what an escape leaves: all, where it is none
abbrev left_by : Option ℕ → List ℕ → List ℕ → List ℕ
left_by None all rest = all
left_by (Some c) all rest = rest

abbrev meant_by : Option ℕ → List ℕ → List ℕ
meant_by None rest = []
meant_by (Some c) rest = c ∷ rest

-- what stands after the characters of a string, which may begin after a backslash
abbrev pub strip : List ℕ → Bool → List ℕ
strip [] true = 92 ∷ []
strip [] false = []
strip (c ∷ cs) true = left_by (escaped c) (92 ∷ c ∷ cs) (strip cs false)
strip (c ∷ cs) false = cond (c == 92) (strip cs true) (cond (is_plain c) (strip cs false) (c ∷ cs))

-- the characters that stand in front of it
abbrev pub meant : List ℕ → Bool → List ℕ
meant [] behind_backslash = []
meant (c ∷ cs) true = meant_by (escaped c) (meant cs false)
meant (c ∷ cs) false = cond (c == 92) (meant cs true) (cond (is_plain c) (c ∷ meant cs false) [])

plain_no_backslash : (c : ℕ) → is_plain c ≡ true → (c == 92) ≡ false
plain_no_backslash c plain = grind (arith, nat_tests)

module _ (c : ℕ) (u : List ℕ) where
  strip-plain : is_plain c ≡ true → strip (c ∷ u) false ≡ strip u false
  strip-plain plain = cond-false _ _ _ (plain_no_backslash c plain) ∙ cond-true _ _ _ plain

  meant-plain : is_plain c ≡ true → meant (c ∷ u) false ≡ c ∷ meant u false
  meant-plain plain = cond-false _ _ _ (plain_no_backslash c plain) ∙ cond-true _ _ _ plain

  strip-escape : (m : ℕ) → escaped c ≡ Some m → strip (92 ∷ c ∷ u) false ≡ strip u false
  strip-escape m is = ap (λ o. left_by o (92 ∷ c ∷ u) (strip u false)) is

  meant-escape : (m : ℕ) → escaped c ≡ Some m → meant (92 ∷ c ∷ u) false ≡ m ∷ meant u false
  meant-escape m is = ap (λ o. meant_by o (meant u false)) is

  pub strip-bad : escaped c ≡ None → strip (92 ∷ c ∷ u) false ≡ 92 ∷ c ∷ u
  strip-bad is = ap (λ o. left_by o (92 ∷ c ∷ u) (strip u false)) is

strip-character : (c : ℕ) (first u : List ℕ) → SpellsCharacter c first → strip (first ++ u) false ≡ strip u false
strip-character c first u (inl plain) = ap (λ f. strip (f ++ u) false) plain.0 ∙ strip-plain c u plain.1
strip-character c first u (inr escape) = ap (λ f. strip (f ++ u) false) escape.1 ∙ strip-escape escape.0 u c escape.2

meant-character : (c : ℕ) (first u : List ℕ) → SpellsCharacter c first → meant (first ++ u) false ≡ c ∷ meant u false
meant-character c first u (inl plain) = ap (λ f. meant (f ++ u) false) plain.0 ∙ meant-plain c u plain.1
meant-character c first u (inr escape) = ap (λ f. meant (f ++ u) false) escape.1 ∙ meant-escape escape.0 u c escape.2

-- after characters that are spelled
pub strip-spelled : (cs body u : List ℕ) → SpellsCharacters cs body → strip (body ++ u) false ≡ strip u false
strip-spelled [] body u spelled = ap (λ b. strip (b ++ u) false) spelled
strip-spelled (c ∷ cs) body u spelled =
    ap (λ b. strip (b ++ u) false) spelled.2 ∙ ap (λ b. strip b false) (append_assoc spelled.0 spelled.1 u)
    ∙ strip-character c spelled.0 (spelled.1 ++ u) spelled.3 ∙ strip-spelled cs spelled.1 u spelled.4

pub meant-spelled : (cs body u : List ℕ) → SpellsCharacters cs body → meant (body ++ u) false ≡ cs ++ meant u false
meant-spelled [] body u spelled = ap (λ b. meant (b ++ u) false) spelled
meant-spelled (c ∷ cs) body u spelled =
    ap (λ b. meant (b ++ u) false) spelled.2 ∙ ap (λ b. meant b false) (append_assoc spelled.0 spelled.1 u)
    ∙ meant-character c spelled.0 (spelled.1 ++ u) spelled.3 ∙ ap (λ r. c ∷ r) (meant-spelled cs spelled.1 u spelled.4)

-- one more character
pub spelled-push : (cs body : List ℕ) (c : ℕ) (last : List ℕ) → SpellsCharacters cs body → SpellsCharacter c last → SpellsCharacters (cs ++ c ∷ []) (body ++ last)
spelled-push [] body c last spelled more = (last, [], ap (λ b. b ++ last) spelled ∙ sym (append-nil last), more, refl)
spelled-push (d ∷ cs) body c last spelled more =
    (spelled.0, spelled.1 ++ last, ap (λ b. b ++ last) spelled.2 ∙ append_assoc spelled.0 spelled.1 last, spelled.3, spelled-push cs spelled.1 c last spelled.4 more)

-- what can stand after the characters of a string, where a text ends with them
pub data Ending (u : List ℕ) : Type 0 where
  over : u ≡ [] → Ending u
  closed : u ≡ 34 ∷ [] → Ending u
  backslash : u ≡ 92 ∷ [] → Ending u
  bad : (letter : ℕ) → u ≡ 92 ∷ letter ∷ [] → escaped letter ≡ None → Ending u

pub strip-ending : (u : List ℕ) → Ending u → strip u false ≡ u
strip-ending u (over is) = rw is refl
strip-ending u (closed is) = rw is refl
strip-ending u (backslash is) = rw is refl
strip-ending u (bad letter is no_escape) = rw is (strip-bad letter [] no_escape)
