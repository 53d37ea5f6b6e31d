-- Classes and files that are written are found.
use Rattle.std.proofs.lemmas.List.{append-nil}
use Rattle.std.proofs.Common.{◌≡◌, ℕ, zero, suc, ◌+◌, ◌≤◌, ◌<◌, List, [], ◌∷◌, ◌++◌, length, Bool, true, false, Option, Some, None, Ok, refl, arith, ap, append_assoc}
use Rattle.java_tokens.specs.declared.token.Keyword.TheVariants as word
use Rattle.java_tokens.specs.declared.token.Operator.TheVariants as o
use Rattle.java_tokens.specs.declared.token.TokenKind.TheVariants as k
use Rattle.java_syntax.specs.declared.class.ClassTree.{ClassTree}
use Rattle.java_syntax.specs.declared.class.Member.{Member}
use Rattle.token_reading.specs.declared.name.Ident.{Ident}
use Rattle.token_reading.specs.Lexeme.{Lexeme, Then, same_operator, same_keyword}
use Rattle.java_syntax.specs.Classes.{MemberWithin, Public, Extends, Members, IsClass, ClassWithin}
use Rattle.java_syntax.specs.Spells.{ClassesWithin, FileWithin}
use Rattle.java_reading.specs.ReadClass.{member, public, extends, members, class_node, class, sees_end, classes, file}
use Rattle.java_reading.proofs.ArgsFacts.{ArgsFacts}
use Rattle.java_reading.proofs.ExprFacts.{ExprFacts}
use Rattle.java_reading.proofs.MemberFound.{member_length, member_found, member_other}
use Rattle.token_reading.proofs.Steps.{Or, found, or_then, raise}
use Rattle.token_reading.proofs.Lexemes.{then_length, sees_word_it}
use Rattle.token_reading.proofs.Found.{op_or, word_or, ident_or, none_or}

-- ---- lengths

public_length : (p : Bool) (xs rest : List Lexeme) → Public p xs rest → length rest ≤ length xs
public_length false xs rest w = omega (arith, ap length w)
public_length true xs rest t = omega (arith, then_length _ xs rest t)

extends_length : (x : Option Ident) (xs rest : List Lexeme) → Extends x xs rest → length rest ≤ length xs
extends_length None xs rest w = omega (arith, ap length w)
extends_length (Some x) xs rest w = omega (arith, then_length _ xs w.0 w.1, ap length w.2)

module _ (facts : ExprFacts) (n : ℕ) where
  members_length : (all : List Member) (xs rest : List Lexeme) → Members (MemberWithin n) all xs rest → length all + length rest < length xs
  members_length [] xs rest t = omega (arith, then_length _ xs rest t)
  members_length (t ∷ more) xs rest w = omega (arith, member_length facts n t xs w.0 w.1, members_length more w.0 rest w.2)

  node_length : (t : ClassTree) (xs rest : List Lexeme) → IsClass (MemberWithin n) t xs rest → length rest < length xs
  node_length t xs rest w =
      omega (
        arith,
        public_length t.is_public xs w.0 w.1,
        then_length _ w.0 w.2 w.3,
        ap length w.5,
        extends_length t.parent w.4 w.6 w.7,
        then_length _ w.6 w.8 w.9,
        members_length t.members w.8 rest w.10,
      )

pub class_length : ExprFacts → (n : ℕ) (t : ClassTree) (xs rest : List Lexeme) → ClassWithin n t xs rest → length rest < length xs
class_length facts zero t xs rest w = absurd w
class_length facts (suc n) t xs rest w = node_length facts n t xs rest w

classes_length : ExprFacts → (n : ℕ) (all : List ClassTree) (xs rest : List Lexeme) → ClassesWithin n all xs rest
    → length all + length rest < length xs
classes_length facts n [] xs rest t = omega (arith, then_length _ xs rest t)
classes_length facts n (t ∷ more) xs rest w = omega (arith, class_length facts n t xs w.0 w.1, classes_length facts n more w.0 rest w.2)

-- ---- classes

module _ (n b : ℕ) where
  public_or : (p : Bool) (xs rest us : List Lexeme) → Public p xs rest → Then (k.Word word.Class) rest us → Or n b (public xs) (Ok (p, rest))
  unfolding public same_keyword
  public_or false xs rest us w t = rw (w, t.1) (found refl)
  public_or true xs rest us u t = rw u.1 (found refl)

  extends_or : (x : Option Ident) (xs rest us : List Lexeme) → Extends x xs rest → Then (k.Op o.LeftBrace) rest us
      → Or n b (extends xs) (Ok (x, rest))
  unfolding extends
  extends_or None xs rest us w t = rw (w, t.1) (found refl)
  extends_or (Some x) xs rest us w t = rw (w.1.1, sees_word_it word.Extends w.1.0 w.0) (or_then _ (ident_or n b x w.0 rest w.2) (found refl))

module _ (facts : ExprFacts) (args_facts : ArgsFacts) (n b : ℕ) where
  members_or : (all : List Member) (fuel : ℕ) (done : List Member) (xs rest : List Lexeme) → length all < fuel → Members (MemberWithin n) all xs rest
      → Or n b (members (member b) fuel done xs) (Ok (done ++ all, rest))
  unfolding members same_operator
  members_or all zero done xs rest room w = absurd (omega arith)
  members_or [] (suc fuel) done xs rest room t = rw (t.1, append-nil) (found refl)
  members_or (t ∷ more) (suc fuel) done xs rest room w =
      let h = members_or more fuel (done ++ t ∷ []) w.0 rest (omega arith) w.2 in
      rw (member_other n o.RightBrace t xs w.0 w.1 refl) (or_then _ (member_found facts args_facts n b t xs w.0 w.1) (rw append_assoc at h))

  node_or : (t : ClassTree) (xs rest : List Lexeme) → IsClass (MemberWithin n) t xs rest → Or n b (class_node (member b) xs) (Ok (t, rest))
  unfolding class_node
  node_or t xs rest w =
      or_then _ (public_or n b t.is_public xs w.0 w.2 w.1 w.3)
      (or_then _ (word_or n b word.Class w.0 w.2 w.3) (or_then _ (ident_or n b t.name w.2 w.4 w.5)
      (or_then _ (extends_or n b t.parent w.4 w.6 w.8 w.7 w.9) (or_then _ (op_or n b o.LeftBrace w.6 w.8 w.9)
      (or_then _ (members_or t.members (length w.8) [] w.8 rest (omega (arith, members_length facts n t.members w.8 rest w.10)) w.10)
      (found refl))))))

-- A class that is written is found, or it is higher than the budget.
pub class_found : ExprFacts → ArgsFacts → (n b : ℕ) (t : ClassTree) (xs rest : List Lexeme) → ClassWithin n t xs rest
    → Or n b (class b xs) (Ok (t, rest))
unfolding class
class_found facts args_facts zero b t xs rest w = absurd w
class_found facts args_facts (suc n) zero t xs rest w = none_or n xs (Ok (t, rest)) (omega (arith, class_length facts (suc n) t xs rest w))
class_found facts args_facts (suc n) (suc b) t xs rest w = raise (node_or facts args_facts n b t xs rest w)

-- ---- files

class_no_end_by : (p : Bool) (xs ys zs : List Lexeme) → Public p xs ys → Then (k.Word word.Class) ys zs → sees_end xs ≡ false
class_no_end_by false xs ys zs w t = rw (w, t.1) refl
class_no_end_by true xs ys zs u t = rw u.1 refl

class_no_end : (n : ℕ) (t : ClassTree) (xs rest : List Lexeme) → ClassWithin n t xs rest → sees_end xs ≡ false
class_no_end zero t xs rest w = absurd w
class_no_end (suc n) t xs rest w = class_no_end_by t.is_public xs w.0 w.2 w.1 w.3

module _ (facts : ExprFacts) (args_facts : ArgsFacts) (n b : ℕ) where
  classes_or : (all : List ClassTree) (fuel : ℕ) (done : List ClassTree) (xs rest : List Lexeme) → length all < fuel → ClassesWithin n all xs rest
      → Or n b (classes b fuel done xs) (Ok (done ++ all, rest))
  unfolding classes
  classes_or all zero done xs rest room w = absurd (omega arith)
  classes_or [] (suc fuel) done xs rest room t = rw (t.1, append-nil) (found refl)
  classes_or (t ∷ more) (suc fuel) done xs rest room w =
      let h = classes_or more fuel (done ++ t ∷ []) w.0 rest (omega arith) w.2 in
      rw (class_no_end n t xs w.0 w.1) (or_then _ (class_found facts args_facts n b t xs w.0 w.1) (rw append_assoc at h))

  -- The classes of a file that is written are found, or it is higher than the budget.
  pub file_found : (all : List ClassTree) (xs : List Lexeme) → FileWithin n all xs → Or n b (file b xs) (Ok (all, []))
  unfolding file
  file_found all xs w = or_then _ (classes_or all (length xs) [] xs [] (omega (arith, classes_length facts n all xs [] w)) w) (found refl)
