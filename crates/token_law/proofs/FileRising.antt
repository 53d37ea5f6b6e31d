-- In a file that is spelled the names of fields rise.
use Rattle.std.proofs.Common.{ℕ, zero, suc, ◌+◌, ◌≤◌, List, [], ◌∷◌, arith}
use Rattle.java_tokens.specs.declared.token.Token.{Token}
use Rattle.java_syntax.specs.declared.class.ClassTree.{ClassTree}
use Rattle.java_syntax.specs.declared.class.FileTree.{FileTree}
use Rattle.java_syntax.specs.declared.class.Member.{Member}
use Rattle.java_syntax.specs.declared.class.Member.TheVariants as member
use Rattle.token_reading.specs.Lexeme.{Lexeme, numbered}
use Rattle.java_syntax.specs.Exprs.{Within}
use Rattle.java_syntax.specs.Classes.{MemberWithin, Members, ClassWithin}
use Rattle.java_syntax.specs.Spells.{ClassesWithin, Spells}
use Rattle.class_table.specs.BuiltIn.{built_in}
use Rattle.class_table.specs.Declarations.{declarations, declared_of}
use Rattle.class_table.specs.Members.{fields_in}
use Rattle.class_table.specs.Names.{Name, class_names}
use Rattle.token_law.proofs.Onward.{From, ◌>>◌, token, past, then_onward, type_onward, numbered_from}
use Rattle.token_law.proofs.OnwardExprs.{expr_onward}
use Rattle.token_law.proofs.OnwardStmts.{initial_onward}
use Rattle.token_law.proofs.OnwardMembers.{modifiers_onward, answer_onward, invocable_onward, public_onward, extends_onward}
use Rattle.token_law.proofs.Rising.{Rising, RisingAll, sooner, all_sooner, same_type}
use Rattle.token_law.specs.Tokens.{HasOwnTokens}

-- after a member the names rise on, and its own stands before
abbrev Continues : ℕ → ℕ → Member → List Member → List Lexeme → Type 0
Continues at c t more rest =
    (to : ℕ) × ((end : ℕ) → Rising to (fields_in c more) end → Rising at (fields_in c (t ∷ more)) end) × From to rest

member_continues : (n at c : ℕ) (t : Member) (more : List Member) (xs rest : List Lexeme) → MemberWithin n t xs rest → From at xs
    → Continues at c t more rest
member_continues zero at c t more xs rest w from = absurd w
member_continues (suc n) at c (member.Field t) more xs rest w from =
    let name = (modifiers_onward t.mods.words xs w.0.0 w.0.1 >> type_onward t.ty w.0.0 w.0.2 w.0.3).go at from in
    let own = past w.0.5 name.0 name.2 in
    let behind = (initial_onward (Within n) (expr_onward n) t.value w.0.4 w.0.6 w.0.7 >> then_onward _ w.0.6 rest w.0.8).go (name.0 + 1) own.1 in (
      behind.0,
      λ end later. (omega (arith, own.0, name.1), sooner (t.name.at + 1) behind.0 end (fields_in c more) (omega (arith, own.0, behind.1)) later),
      behind.2,
    )
member_continues (suc n) at c (member.Method t) more xs rest w from =
    let behind = (modifiers_onward t.mods.words xs w.0.0 w.0.1 >> answer_onward t.answer w.0.0 w.0.2 w.0.3 >> token w.0.5 >> invocable_onward n t.params t.throws t.body w.0.4 rest w.0.6).go at from in
    (behind.0, λ end later. sooner at behind.0 end (fields_in c more) behind.1 later, behind.2)
member_continues (suc n) at c (member.Maker t) more xs rest w from =
    let behind = (modifiers_onward t.mods.words xs w.0.0 w.0.1 >> token w.0.3 >> invocable_onward n t.params t.throws t.body w.0.2 rest w.0.4).go at from in
    (behind.0, λ end later. sooner at behind.0 end (fields_in c more) behind.1 later, behind.2)
member_continues (suc n) at c member.Empty more xs rest w from =
    let behind = (then_onward _ xs rest w.0).go at from in
    (behind.0, λ end later. sooner at behind.0 end (fields_in c more) behind.1 later, behind.2)

members_rise : (n at c : ℕ) (all : List Member) (xs rest : List Lexeme) → Members (MemberWithin n) all xs rest → From at xs
    → (to : ℕ) × Rising at (fields_in c all) to × From to rest
members_rise n at c [] xs rest w from = (then_onward _ xs rest w).go at from
members_rise n at c (t ∷ more) xs rest w from =
    let here = member_continues n at c t more xs w.0 w.1 from in
    let later = members_rise n here.0 c more w.0 rest w.2 here.2 in (later.0, here.1 later.0 later.1, later.2)

-- `class` stands before the names of a class
class_rises : (n at c : ℕ) (t : ClassTree) (xs rest : List Lexeme) → ClassWithin n t xs rest → From at xs
    → (to : ℕ) × Rising (at + 1) (fields_in c t.members) to × From to rest
class_rises zero at c t xs rest w from = absurd w
class_rises (suc n) at c t xs rest w from =
    let word = (public_onward t.is_public xs w.0 w.1).go at from in
    let behind = (past w.3.1 word.0 word.2).1 in
    let brace = (token w.5 >> extends_onward t.parent w.4 w.6 w.7 >> then_onward _ w.6 w.8 w.9).go (word.0 + 1) behind in
    let own = members_rise n brace.0 c t.members w.8 rest w.10 brace.2 in
    (own.0, sooner (at + 1) brace.0 own.0 (fields_in c t.members) (omega (arith, word.1, brace.1)) own.1, own.2)

classes_rise : (n at c : ℕ) (known : List Name) (all : List ClassTree) (xs rest : List Lexeme) → ClassesWithin n all xs rest → From at xs
    → (to : ℕ) × RisingAll (at + 1) (declarations known c all) to
classes_rise n at c known [] xs rest w from = (at + 1, omega arith)
classes_rise n at c known (t ∷ more) xs rest w from =
    let own = class_rises n at c t xs w.0 w.1 from in
    let later = classes_rise n own.0 (c + 1) known more w.0 rest w.2 own.2 in
    (later.0, (own.0, own.1, all_sooner own.0 (own.0 + 1) later.0 (declarations known (c + 1) more) (omega arith) later.1))

none : 0 ≤ 0
none = omega arith

one : 1 ≤ 1
one = omega arith

-- the built-in field counts as token 0, which is no field's name
file_rises : (tree : FileTree) (tokens : List Token) → Spells tree tokens → (to : ℕ) × RisingAll 0 (declared_of tree.classes) to
unfolding declared_of built_in
file_rises tree tokens w =
    let own = classes_rise w.0 0 18 (class_names tree.classes) tree.classes (numbered 0 tokens) [] w.1.0 (numbered_from 0 tokens) in
    (own.0, (0, none, (1, (none, one), (1, one, (1, one, (1, one, (1, one, (1, one, (1, one, (1, one, (1, one, (1, one, (1, one, (1, one, (1, one, (1, one, (1, one, (1, one, (1, one, own.1)))))))))))))))))))

pub own_tokens : (tree : FileTree) (tokens : List Token) → Spells tree tokens → HasOwnTokens tree
own_tokens tree tokens w = let rising = file_rises tree tokens w in same_type 0 rising.0 (declared_of tree.classes) rising.1
