-- Classes and files that are read are written.
use Rattle.std.proofs.lemmas.List.{append-nil}
use Rattle.std.proofs.Common.{◌≡◌, ℕ, zero, suc, ◌≤◌, List, [], ◌∷◌, ◌++◌, length, true, false, Some, None, refl, sym, ◌∙◌, ap, subst, arith, append_assoc}
use Rattle.java_tokens.specs.declared.token.Keyword.TheVariants as word
use Rattle.java_tokens.specs.declared.token.Operator.TheVariants as o
use Rattle.java_tokens.specs.declared.token.TokenKind.{TokenKind}
use Rattle.java_tokens.specs.declared.token.TokenKind.TheVariants as k
use Rattle.java_syntax.specs.declared.class.ClassTree.{ClassTree}
use Rattle.java_syntax.specs.declared.class.Member.{Member}
use Rattle.token_reading.specs.Lexeme.{Lexeme, lexeme, Then, sees, sees_word}
use Rattle.java_syntax.specs.Classes.{MemberWithin, Public, Extends, Members, IsClass, ClassWithin}
use Rattle.java_syntax.specs.Spells.{ClassesWithin, FileWithin}
use Rattle.token_reading.specs.ReadType.{next}
use Rattle.java_reading.specs.ReadClass.{member, public, extends, class_of, members, class_node, class, is_end, sees_end, classes, whole, file}
use Rattle.java_reading.proofs.ArgsFacts.{ArgsFacts}
use Rattle.java_reading.proofs.ExprFacts.{ExprFacts}
use Rattle.java_reading.proofs.MemberSound.{member_sound}
use Rattle.token_reading.proofs.Steps.{Gives, gives, gives_none, gives_then, gives_map, gives_if}
use Rattle.token_reading.proofs.Lexemes.{then_length, from_sees, from_sees_word}
use Rattle.token_reading.proofs.Given.{Takes, MayTake, op_gives, word_gives, ident_gives, none_gives}

public_gives : (xs : List Lexeme) → MayTake Public xs ⊥ (public xs)
unfolding public
public_gives xs =
    gives_if (sees_word word.Public xs)
    (λ h. let t = from_sees_word word.Public xs h in gives true (next xs) (t, omega (arith, then_length _ xs (next xs) t)))
    (λ h. gives false xs (refl, omega arith))

extends_gives : (xs : List Lexeme) → MayTake Extends xs ⊥ (extends xs)
unfolding extends
extends_gives xs =
    gives_if (sees_word word.Extends xs)
    (λ h. let t = from_sees_word word.Extends xs h in
    gives_then (ident_gives (next xs)) (λ h. h) (λ x ys w. gives (Some x) ys ((next xs, t, w.0), omega (arith, w.1, then_length _ xs (next xs) t))))
    (λ h. gives None xs (refl, omega arith))

-- ---- classes

module _ (facts : ExprFacts) (args_facts : ArgsFacts) (n : ℕ) where
  members_from : (fuel : ℕ) (done : List Member) (xs : List Lexeme)
      → Takes (λ all xs rest. (more : List Member) × (all ≡ done ++ more) × Members (MemberWithin n) more xs rest) xs (n ≤ length xs)
      (members (member n) fuel done xs)
  unfolding members
  members_from zero done xs = gives_none
  members_from (suc fuel) done xs =
      gives_if (sees o.RightBrace xs)
      (λ h. let t = from_sees o.RightBrace xs h in gives done (next xs) (([], sym (append-nil done), t), omega (arith, then_length _ xs (next xs) t)))
      (λ h. gives_then (member_sound facts args_facts n xs) (λ h. h) (λ a ys w.
      gives_map (λ all us v. ((a ∷ v.0.0, v.0.1 ∙ append_assoc done (a ∷ []) v.0.0, (ys, w.0, v.0.2)), omega (arith, w.1, v.1)))
      (λ h. omega (arith, w.1)) (members_from fuel (done ++ a ∷ []) ys)))

  members_gives : (xs : List Lexeme) → Takes (Members (MemberWithin n)) xs (n ≤ length xs) (members (member n) (length xs) [] xs)
  members_gives xs =
      gives_map (λ all us v. (subst (λ (l : List Member). Members (MemberWithin n) l xs us) (sym v.0.1) v.0.2, v.1)) (λ h. h)
      (members_from (length xs) [] xs)

  class_gives : (xs : List Lexeme) → Takes (IsClass (MemberWithin n)) xs (suc n ≤ length xs) (class_node (member n) xs)
  unfolding class_node
  class_gives xs =
      gives_then (public_gives xs) (λ h. absurd h) (λ p ys w. gives_then (word_gives word.Class ys) (λ h. absurd h) (λ _ zs t.
      gives_then (ident_gives zs) (λ h. absurd h) (λ name us x. gives_then (extends_gives us) (λ h. absurd h) (λ parent vs e.
      gives_then (op_gives o.LeftBrace vs) (λ h. absurd h) (λ _ ws b. gives_then (members_gives ws) (λ h. omega (arith, w.1, t.1, x.1, e.1, b.1))
      (λ all ts m.
      gives (class_of p name parent all) ts ((ys, w.0, zs, t.0, us, x.0, vs, e.0, ws, b.0, m.0), omega (arith, w.1, t.1, x.1, e.1, b.1, m.1))))))))

-- A class that is read is written; with a budget that is too small there are as many tokens at least.
pub class_sound : ExprFacts → ArgsFacts → (n : ℕ) (xs : List Lexeme) → Takes (ClassWithin n) xs (n ≤ length xs) (class n xs)
unfolding class
class_sound facts args_facts zero xs = gives_map (λ t ys w. w) (λ h. omega arith) (none_gives xs)
class_sound facts args_facts (suc n) xs = class_gives facts args_facts n xs

-- ---- files

end_kind : (x : Lexeme) (xs : List Lexeme) (kd : TokenKind) → x.kind ≡ kd → is_end kd ≡ true → Then k.End (x ∷ xs) xs
end_kind x xs k.End is h = (x.at, ap (λ kd. lexeme x.at kd ∷ xs) is)
end_kind x xs _ is h = absurd (cc)

from_end : (xs : List Lexeme) → sees_end xs ≡ true → Then k.End xs (next xs)
from_end [] h = absurd (cc)
from_end (x ∷ xs) h = end_kind x xs x.kind refl h

module _ (facts : ExprFacts) (args_facts : ArgsFacts) (n : ℕ) where
  classes_from : (fuel : ℕ) (done : List ClassTree) (xs : List Lexeme)
      → Takes (λ all xs rest. (more : List ClassTree) × (all ≡ done ++ more)
      × ClassesWithin n more xs rest) xs (n ≤ length xs) (classes n fuel done xs)
  unfolding classes
  classes_from zero done xs = gives_none
  classes_from (suc fuel) done xs =
      gives_if (sees_end xs)
      (λ h. let t = from_end xs h in gives done (next xs) (([], sym (append-nil done), t), omega (arith, then_length _ xs (next xs) t)))
      (λ h. gives_then (class_sound facts args_facts n xs) (λ h. h) (λ a ys w.
      gives_map (λ all us v. ((a ∷ v.0.0, v.0.1 ∙ append_assoc done (a ∷ []) v.0.0, (ys, w.0, v.0.2)), omega (arith, w.1, v.1)))
      (λ h. omega (arith, w.1)) (classes_from fuel (done ++ a ∷ []) ys)))

  whole_gives : (xs : List Lexeme) (all : List ClassTree) (ys : List Lexeme) → ClassesWithin n all xs ys
      → Gives (λ all rest. FileWithin n all xs × (rest ≡ [])) (n ≤ length xs) (whole all ys)
  whole_gives xs all [] w = gives all [] (w, refl)
  whole_gives xs all (y ∷ ys) w = gives_none

  -- A file that is read is written; with a budget that is too small there are as many tokens at least.
  pub file_sound : (xs : List Lexeme) → Gives (λ all rest. FileWithin n all xs × (rest ≡ [])) (n ≤ length xs) (file n xs)
  unfolding file
  file_sound xs =
      gives_then (classes_from (length xs) [] xs) (λ h. h) (λ all ys w.
      whole_gives xs all ys (subst (λ (l : List ClassTree). ClassesWithin n l xs ys) (sym w.0.1) w.0.2))
