-- Lemmas on shifts.
use Rattle.std.proofs.Common.{◌≡◌, ℕ, ◌*◌, ◌/◌, ◌%◌, ◌^◌, ◌<◌, refl, sym, ◌∙◌, ap, arith, w32}
use Rattle.std.proofs.Math.Nat.{div-le_self}
use Rattle.std.specs.Prelude.{ℤ, pos, negsuc, ◌*ℤ◌, FitsSigned}
use Rattle.std.specs.Int.{int_wrap, cast_signed, cast_unsigned, int_shl}
use Rattle.std.proofs.lemmas.Int.{ints, to_z-of_z, int_wrap-mul_left}
use Rattle.pb_int.specs.Int32.{wrap, modulo, distance}
use Rattle.pb_int.proofs.Wraps.{word_is, word_below, wrap_word}

-- the machine takes the distance modulo 32 of the second operand's word
pub distance_is : (b : ℤ) → FitsSigned w32 b → cast_unsigned w32 b % 32 ≡ distance b
distance_is (pos n) f = refl
distance_is (negsuc n) f = let small : n < 2 ^ 31 = omega (arith, ints) in omega arith

-- the product of a word, cut to 32 bits, is the wrapped product of the number
pub product_is : (a : ℤ) (n : ℕ) → FitsSigned w32 a → cast_signed w32 ((cast_unsigned w32 a * n) % 2 ^ 32) ≡ wrap (a *ℤ pos n)
unfolding int_wrap
product_is a n f =
    let word = cast_unsigned w32 a in
    let back : wrap (pos word) ≡ a = wrap_word word (word_below a f) ∙ to_z-of_z w32 a f in
    sym (int_wrap-mul_left w32 (pos word) (pos n)) ∙ ap (λ z. wrap (z *ℤ pos n)) back

pub shl_is : (a b : ℤ) → FitsSigned w32 a → FitsSigned w32 b → int_shl w32 a (cast_unsigned w32 b % 32) ≡ wrap (a *ℤ pos (2 ^ distance b))
shl_is a b f g = product_is a (2 ^ (cast_unsigned w32 b % 32)) f ∙ ap (λ k. wrap (a *ℤ pos (2 ^ k))) (distance_is b g)

pub ushr_is : (a b : ℤ) → FitsSigned w32 a → FitsSigned w32 b → cast_signed w32 (cast_unsigned w32 a / 2 ^ (cast_unsigned w32 b % 32)) ≡ wrap (pos (modulo a (2 ^ 32) / 2 ^ distance b))
ushr_is a b f g =
    let word = cast_unsigned w32 a in
    let far = 2 ^ (cast_unsigned w32 b % 32) in
    let small : word / far < 2 ^ 32 = omega (arith, div-le_self word far, word_below a f) in
    sym (wrap_word (word / far) small)
    ∙ ap (λ n. wrap (pos (n / far))) (word_is a f)
    ∙ ap (λ k. wrap (pos (modulo a (2 ^ 32) / 2 ^ k))) (distance_is b g)
