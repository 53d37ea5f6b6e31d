-- How the classes of characters lie to one another.
use Rattle.std.proofs.Common.{◌≡◌, ℕ, ◌<◌, Bool, true, false, cond, ◌==◌, arith, refl, ◌∙◌}
use Rattle.std.proofs.lemmas.Bool.{cond-true, cond-false}
use Rattle.std.proofs.lemmas.Bool.Decides.{nat_tests}
use Rattle.unicode_ident.proofs.Computing.{unicode_ident}
use Rattle.unicode_ident.proofs.IdentLemmas.{is_xid_start-ascii, is_xid_continue-ascii, is_xid_start-is_xid_continue}
use Rattle.java_tokens.specs.Characters.{is_white, is_digit, is_identifier_start, is_identifier_part}

below-digit : (c : ℕ) → is_digit c ≡ true → c < 128
below-digit c digit = grind (arith, nat_tests)

below-white : (c : ℕ) → is_white c ≡ true → c < 128
below-white c white = grind (arith, nat_tests)

pub part-digit : (c : ℕ) → is_digit c ≡ true → is_identifier_part c ≡ true
part-digit c digit = let below = below-digit c digit in let same = is_xid_continue-ascii c below in grind (arith, nat_tests)

pub part-start : (c : ℕ) → is_identifier_start c ≡ true → is_identifier_part c ≡ true
part-start c start = let more = is_xid_start-is_xid_continue c in let same = is_xid_continue-ascii 95 (omega arith) in grind (arith, nat_tests)

white-digit : (c : ℕ) → is_digit c ≡ true → is_white c ≡ false
white-digit c digit = grind (arith, nat_tests)

start-digit : (c : ℕ) → is_digit c ≡ true → is_identifier_start c ≡ false
start-digit c digit = let below = below-digit c digit in let same = is_xid_start-ascii c below in grind (arith, nat_tests)

start-white : (c : ℕ) → is_white c ≡ true → is_identifier_start c ≡ false
start-white c white = let below = below-white c white in let same = is_xid_start-ascii c below in grind (arith, nat_tests)

-- if p excludes q, then q excludes p
excluded : (p q : ℕ → Bool) → ((c : ℕ) → p c ≡ true → q c ≡ false) → (c : ℕ) → q c ≡ true → p c ≡ false
excluded p q excludes c holds = by_test (p c) refl where
  by_test : (b : Bool) → p c ≡ b → p c ≡ false
  by_test false is = is
  by_test true is = let not = excludes c is in absurd (cc)

-- what can begin with a character
pub data Class : Type 0 where
  white : Class
  digit : Class
  start : Class
  quote : Class
  sign : Class
  none : Class

abbrev pub class_of : ℕ → Class
class_of c = cond (is_white c) white (cond (is_digit c) digit (cond (is_identifier_start c) start (cond (c == 34) quote sign)))

pub class-white : (c : ℕ) → is_white c ≡ true → class_of c ≡ white
class-white c is = cond-true _ _ _ is

pub class-digit : (c : ℕ) → is_digit c ≡ true → class_of c ≡ digit
class-digit c is = cond-false _ _ _ (white-digit c is) ∙ cond-true _ _ _ is

pub class-start : (c : ℕ) → is_identifier_start c ≡ true → class_of c ≡ start
class-start c is =
    cond-false _ _ _ (excluded is_white is_identifier_start start-white c is)
    ∙ cond-false _ _ _ (excluded is_digit is_identifier_start start-digit c is)
    ∙ cond-true _ _ _ is

pub class-quote : class_of 34 ≡ quote
unfolding unicode_ident
class-quote = refl

pub class-slash : class_of 47 ≡ sign
unfolding unicode_ident
class-slash = refl

pub class-other : (c : ℕ) → is_white c ≡ false → is_digit c ≡ false → is_identifier_start c ≡ false → (c ≡ 34 → ⊥) → class_of c ≡ sign
class-other c not_white not_digit not_start not_quote =
    let differs : (c == 34) ≡ false = grind (arith, nat_tests) in
    cond-false _ _ _ not_white ∙ cond-false _ _ _ not_digit ∙ cond-false _ _ _ not_start ∙ cond-false _ _ _ differs
