-- Lists.
use Rattle.std.proofs.Common.{◌≡◌, ◌<◌, ℕ, List, [], drop, length, arith, sym}
use Rattle.std.proofs.lemmas.List.{drop_all}

pub nothing_left : {A : Type 0} (xs : List A) (n : ℕ) → length xs < n → [] ≡ drop n xs
nothing_left xs n h = sym (drop_all n xs (omega (arith, h)))

pub ruleset none_left = (nothing_left)
