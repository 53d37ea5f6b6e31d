-- The height of a file is the least number with which it is written, and it is written with each greater one.
use Rattle.std.proofs.Common.{ℕ, zero, suc, ◌≤◌, List, [], ◌∷◌, map, arith}
use Rattle.java_syntax.specs.declared.class.ClassTree.{ClassTree}
use Rattle.java_syntax.specs.declared.class.FileTree.{FileTree}
use Rattle.java_syntax.specs.declared.class.Member.{Member}
use Rattle.java_syntax.specs.declared.class.Member.TheVariants as kinds
use Rattle.token_reading.specs.Lexeme.{Lexeme}
use Rattle.java_syntax.specs.Classes.{MemberWithin, Members, ClassWithin}
use Rattle.java_syntax.specs.Spells.{ClassesWithin, FileWithin}
use Rattle.java_syntax.specs.Height.{member_height, class_height, file_height}
use Rattle.java_reading.proofs.StmtGrowing.{initial_low, body_at_most, initial_fit, body_fit}
use Rattle.token_reading.specs.Height.{highest}

-- ---- no lower than its height

member_low : (n : ℕ) (t : Member) (xs rest : List Lexeme) → MemberWithin n t xs rest → member_height t ≤ n
member_low zero t xs rest w = absurd w
member_low (suc n) (kinds.Field t) xs rest w = omega (arith, initial_low n t.value w.0.4 w.0.6 w.0.7, w.1)
member_low (suc n) (kinds.Method t) xs rest w = omega (arith, body_at_most n t.body w.0.6.6 rest w.0.6.8, w.1)
member_low (suc n) (kinds.Maker t) xs rest w = omega (arith, body_at_most n t.body w.0.4.6 rest w.0.4.8, w.1)
member_low (suc n) kinds.Empty xs rest w = omega arith

members_low : (n : ℕ) (all : List Member) (xs rest : List Lexeme) → Members (MemberWithin n) all xs rest → highest (map member_height all) ≤ n
members_low n [] xs rest w = omega arith
members_low n (t ∷ more) xs rest w = omega (arith, member_low n t xs w.0 w.1, members_low n more w.0 rest w.2)

class_low : (n : ℕ) (t : ClassTree) (xs rest : List Lexeme) → ClassWithin n t xs rest → class_height t ≤ n
class_low zero t xs rest w = absurd w
class_low (suc n) t xs rest w = omega (arith, members_low n t.members w.8 rest w.10)

classes_low : (n : ℕ) (all : List ClassTree) (xs rest : List Lexeme) → ClassesWithin n all xs rest → highest (map class_height all) ≤ n
classes_low n [] xs rest w = omega arith
classes_low n (t ∷ more) xs rest w = omega (arith, class_low n t xs w.0 w.1, classes_low n more w.0 rest w.2)

pub file_at_most : (n : ℕ) (t : FileTree) (xs : List Lexeme) → FileWithin n t.classes xs → file_height t ≤ n
file_at_most n t xs w = classes_low n t.classes xs [] w

-- ---- with each number that is no less than its height

member_fit : (n m : ℕ) (t : Member) (xs rest : List Lexeme) → member_height t ≤ m → MemberWithin n t xs rest → MemberWithin m t xs rest
member_fit zero m t xs rest low w = absurd w
member_fit (suc n) zero (kinds.Field t) xs rest low w = absurd (omega arith)
member_fit (suc n) zero (kinds.Method t) xs rest low w = absurd (omega arith)
member_fit (suc n) zero (kinds.Maker t) xs rest low w = absurd (omega arith)
member_fit (suc n) zero kinds.Empty xs rest low w = absurd (omega arith)
member_fit (suc n) (suc m) (kinds.Field t) xs rest low w =
    ((w.0.0, w.0.1, w.0.2, w.0.3, w.0.4, w.0.5, w.0.6, initial_fit n m t.value w.0.4 w.0.6 (omega arith) w.0.7, w.0.8), omega arith)
member_fit (suc n) (suc m) (kinds.Method t) xs rest low w = (
  (
    w.0.0,
    w.0.1,
    w.0.2,
    w.0.3,
    w.0.4,
    w.0.5,
    (w.0.6.0, w.0.6.1, w.0.6.2, w.0.6.3, w.0.6.4, w.0.6.5, w.0.6.6, w.0.6.7, body_fit n m t.body w.0.6.6 rest (omega arith) w.0.6.8),
  ),
  omega arith,
)
member_fit (suc n) (suc m) (kinds.Maker t) xs rest low w = (
  (
    w.0.0,
    w.0.1,
    w.0.2,
    w.0.3,
    (w.0.4.0, w.0.4.1, w.0.4.2, w.0.4.3, w.0.4.4, w.0.4.5, w.0.4.6, w.0.4.7, body_fit n m t.body w.0.4.6 rest (omega arith) w.0.4.8),
  ),
  omega arith,
)
member_fit (suc n) (suc m) kinds.Empty xs rest low w = (w.0, omega arith)

members_fit : (n m : ℕ) (all : List Member) (xs rest : List Lexeme) → highest (map member_height all) ≤ m → Members (MemberWithin n) all xs rest
    → Members (MemberWithin m) all xs rest
members_fit n m [] xs rest low w = w
members_fit n m (t ∷ more) xs rest low w = (w.0, member_fit n m t xs w.0 (omega arith) w.1, members_fit n m more w.0 rest (omega arith) w.2)

class_fit : (n m : ℕ) (t : ClassTree) (xs rest : List Lexeme) → class_height t ≤ m → ClassWithin n t xs rest → ClassWithin m t xs rest
class_fit zero m t xs rest low w = absurd w
class_fit (suc n) zero t xs rest low w = absurd (omega arith)
class_fit (suc n) (suc m) t xs rest low w =
    (w.0, w.1, w.2, w.3, w.4, w.5, w.6, w.7, w.8, w.9, members_fit n m t.members w.8 rest (omega arith) w.10)

classes_fit : (n m : ℕ) (all : List ClassTree) (xs rest : List Lexeme) → highest (map class_height all) ≤ m → ClassesWithin n all xs rest
    → ClassesWithin m all xs rest
classes_fit n m [] xs rest low w = w
classes_fit n m (t ∷ more) xs rest low w = (w.0, class_fit n m t xs w.0 (omega arith) w.1, classes_fit n m more w.0 rest (omega arith) w.2)

pub file_fit : (n m : ℕ) (t : FileTree) (xs : List Lexeme) → file_height t ≤ m → FileWithin n t.classes xs → FileWithin m t.classes xs
file_fit n m t xs low w = classes_fit n m t.classes xs [] low w
