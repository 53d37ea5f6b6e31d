-- What word a text is.
use Rattle.std.proofs.Common.{◌≡◌, ℕ, zero, suc, ◌+◌, ◌<◌, List, [], ◌∷◌, length, drop, get_or, arith, Bool, true, false, Option, Some, find, cond, refl, sym, subst}
use Rattle.std.specs.Cmp.Lexicographic.{same_text}
use Rattle.spec_trees.specs.declared.word.ContractWord.{ContractWord}
use Rattle.spec_trees.specs.declared.word.ContractWord.TheVariants as word
use Rattle.spec_trees.specs.Words.{word_text, all_words, is_word, word_of}

-- Each word's text is that word.
pub word_read : (w : ContractWord) → word_of (word_text w) ≡ Some w
unfolding word_of
word_read word.Requires = refl
word_read _ = refl

passes_by : (p : ContractWord → Bool) (v : ContractWord) (o : Option ContractWord) (w : ContractWord) (t : Bool) → p v ≡ t
    → (o ≡ Some w → p w ≡ true) → cond t (Some v) o ≡ Some w → p w ≡ true
passes_by p v o w true is later h = let same : v ≡ w = cc in subst (λ (u : ContractWord). p u ≡ true) same is
passes_by p v o w false is later h = later h

-- what `find` gives passes the test
passes : (p : ContractWord → Bool) (ws : List ContractWord) (w : ContractWord) → find p ws ≡ Some w → p w ≡ true
passes p [] w h = absurd (cc)
passes p (v ∷ ws) w h = passes_by p v (find p ws) w (p v) refl (passes p ws w) h

-- What is a word is spelled as it.
pub word_spelled : (x : List ℕ) (w : ContractWord) → word_of x ≡ Some w → word_text w ≡ x
unfolding word_of
word_spelled x w h = sym (same_text x (word_text w) (sym (passes (λ v. is_word x v) all_words w h)))

-- ---- a search that goes on

skipped : (p : ContractWord → Bool) (v : ContractWord) (o : Option ContractWord) (t : Bool) → p v ≡ t → t ≡ false → cond (p v) (Some v) o ≡ o
skipped p v o t is none = rw (is, none) refl

-- An element that doesn't pass is passed over.
pub find_on : (p : ContractWord → Bool) (ws : List ContractWord) (at : ℕ) (other : ContractWord) → at < length ws
    → p (get_or ws at other) ≡ false → find p (drop at ws) ≡ find p (drop (at + 1) ws)
find_on p [] at other room none = absurd (omega arith)
find_on p (v ∷ ws) zero other room none = skipped p v (find p ws) (p v) refl none
find_on p (v ∷ ws) (suc at) other room none =
    let turn : suc at + 1 ≡ suc (at + 1) = omega arith in rw turn (find_on p ws at other (omega arith) none)
