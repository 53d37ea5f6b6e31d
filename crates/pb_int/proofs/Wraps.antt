-- Lemmas on `wrap`: it gives an `int` that is congruent to the number, and there is one such `int` alone.
use Rattle.std.proofs.Common.{◌≡◌, ℕ, suc, ◌+◌, ◌-◌, ◌*◌, ◌/◌, ◌%◌, ◌^◌, ◌<◌, ◌≤◌, sym, ◌∙◌, ap, arith, w32}
use Rattle.std.proofs.Math.Logic.{⊎_elim}
use Rattle.std.specs.Prelude.{ℤ, pos, negsuc, ◌+ℤ◌, unsigned_abs, FitsSigned}
use Rattle.std.specs.Int.{int_wrap, cast_signed, cast_unsigned}
use Rattle.std.proofs.lemmas.Int.{ints, int_wrap_fits, int_wrap-add_right, SFits-int_wrap}
use Rattle.std.proofs.lemmas.Bool.{cases_lt}
use Rattle.pb_int.specs.Int32.{wrap, modulo}
use Rattle.pb_int.specs.Laws.{IsCongruent, IsWrapped}

-- the machine's word of an `int` is the number modulo 2 ^ 32
pub word_is : (a : ℤ) → FitsSigned w32 a → cast_unsigned w32 a ≡ modulo a (2 ^ 32)
word_is (pos n) f = let small : n < 2 ^ 31 = omega (arith, ints) in omega arith
word_is (negsuc n) f = let small : n < 2 ^ 31 = omega (arith, ints) in omega arith

pub word_below : (a : ℤ) → FitsSigned w32 a → cast_unsigned w32 a < 2 ^ 32
word_below (pos n) f = let small : n < 2 ^ 31 = omega (arith, ints) in omega arith
word_below (negsuc n) f = omega arith

-- `wrap` of a number below 2 ^ 32 is the `int` of that word
pub wrap_word : (n : ℕ) → n < 2 ^ 32 → wrap (pos n) ≡ cast_signed w32 n
unfolding int_wrap
wrap_word n h = let same : n % 4294967296 ≡ n = omega arith in ap (cast_signed w32) same

-- a number at most 2 ^ 31 away from 0, which the machine keeps in a word
pub wrap_near : (z : ℤ) → unsigned_abs z ≤ 2 ^ 31 → cast_signed w32 (cast_unsigned w32 z) ≡ wrap z
unfolding int_wrap
wrap_near (pos n) h = let same : n ≡ n % 4294967296 = omega arith in ap (cast_signed w32) same
wrap_near (negsuc n) h =
    let same : 4294967296 - suc n ≡ 4294967295 - n % 4294967296 = omega arith in
    ap (cast_signed w32) same

-- the `int` of a word lies a multiple of 2 ^ 32 below the word
word_congruent : (r : ℕ) → r < 2 ^ 32 → (j : ℕ) × (cast_signed w32 r +ℤ pos (j * 2 ^ 32) ≡ pos r)
word_congruent r h =
    ⊎_elim (λ low. (0, omega (arith, ints))) (λ high. (1, grind (arith, ints))) (cases_lt r (2 ^ 31))

pub wrap_congruent : (n : ℤ) → IsCongruent (2 ^ 32) (wrap n) n
unfolding int_wrap
wrap_congruent (pos a) =
    let small : a % 4294967296 < 4294967296 = omega arith in
    let w = word_congruent (a % 4294967296) small in
    (w.0 + a / 4294967296, (0, omega (arith, ints, w.1)))
wrap_congruent (negsuc a) =
    let small : 4294967295 - a % 4294967296 < 4294967296 = omega arith in
    let w = word_congruent (4294967295 - a % 4294967296) small in
    (w.0, (a / 4294967296 + 1, omega (arith, ints, w.1)))

pub wrap_wraps : (n : ℤ) → IsWrapped n (wrap n)
wrap_wraps n =
    let fits : FitsSigned w32 (wrap n) = SFits-int_wrap w32 n in
    record { at_least = omega (arith, ints); below = omega (arith, ints); congruent = wrap_congruent n }

-- a multiple of 2 ^ 32 doesn't count
wrap_multiple : (j : ℕ) → wrap (pos (j * 2 ^ 32)) ≡ pos 0
unfolding int_wrap
wrap_multiple j = let none : (j * 4294967296) % 4294967296 ≡ 0 = omega arith in ap (cast_signed w32) none

wrap_with_multiple : (z : ℤ) (j : ℕ) → wrap (z +ℤ pos (j * 2 ^ 32)) ≡ wrap z
wrap_with_multiple z j =
    let none : z +ℤ pos 0 ≡ z = omega (arith, ints) in
    sym (int_wrap-add_right w32 z (pos (j * 2 ^ 32))) ∙ ap (λ y. wrap (z +ℤ y)) (wrap_multiple j) ∙ ap wrap none

pub wrap_only : (n r : ℤ) → IsWrapped n r → r ≡ wrap n
wrap_only n r h =
    let fits : FitsSigned w32 r = omega (arith, ints) in
    sym (int_wrap_fits w32 r fits) ∙ sym (wrap_with_multiple r h.congruent.0)
    ∙ ap wrap h.congruent.1.1 ∙ wrap_with_multiple n h.congruent.1.0
