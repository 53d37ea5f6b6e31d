-- The reading of constants, one after another.
use Rattle.std.proofs.Common.{◌≡◌, ◌∙◌, refl, sym, ap, subst, ℕ, suc, ◌+◌, ◌<◌, ◌≤◌, drop, length, get_or, Bool, true, false, List, [], ◌∷◌, Option}
use Rattle.std.proofs.lemmas.List.{at_drop_more, at_drop_all}
use Rattle.token_reading.specs.declared.fault.CheckError.{CheckError}
use Rattle.java_syntax.specs.declared.class.Member.{Member}
use Rattle.java_syntax.specs.declared.class.Member.TheVariants as member
use Rattle.java_syntax.specs.declared.class.ClassTree.{ClassTree}
use Rattle.class_table.specs.Members.{is_static}
use Rattle.java_exprs.specs.declared.environment.Environment.{Environment}
use Rattle.primitive_operators.specs.declared.scalar.Scalar.{Scalar}
use Rattle.java_names.specs.Refusals.{Refuses}
use Rattle.java_names.proofs.RefusalLemmas.{refuses_left}
use Rattle.java_members.specs.Answers.{read_in}
use Rattle.java_members.specs.Constants.{Reading, with_constants, constant_faults, read_member, read_members, read_classes}

-- ---- the constants that the environment has don't matter, since those read so far take their place

member_same : (env : Environment) (cs : List (ℕ × Option Scalar)) (c : ℕ) (m : Member) (before : Reading)
    → read_member (with_constants env cs) c m before ≡ read_member env c m before
member_same env cs c (member.Field f) before = refl
member_same env cs c (member.Method m) before = refl
member_same env cs c (member.Maker m) before = refl
member_same env cs c member.Empty before = refl

members_same : (env : Environment) (cs : List (ℕ × Option Scalar)) (c : ℕ) (ms : List Member) (before : Reading)
    → read_members (with_constants env cs) c ms before ≡ read_members env c ms before
unfolding read_members
members_same env cs c [] before = refl
members_same env cs c (m ∷ ms) before =
    ap (read_members (with_constants env cs) c ms) (member_same env cs c m before) ∙ members_same env cs c ms (read_member env c m before)

-- ---- what is broken stays broken

kept_member : (env : Environment) (c : ℕ) (m : Member) (before : Reading) (e : CheckError)
    → Refuses before.faults e → Refuses (read_member env c m before).faults e
kept_member env c (member.Field f) before e h = by (is_static f.mods) refl
  where
    by : (b : Bool) → is_static f.mods ≡ b → Refuses (read_member env c (member.Field f) before).faults e
    by true is = rw is (refuses_left before.faults (constant_faults (with_constants env before.constants) c f) e h)
    by false is = rw is h
kept_member env c (member.Method m) before e h = h
kept_member env c (member.Maker m) before e h = h
kept_member env c member.Empty before e h = h

kept_members : (env : Environment) (c : ℕ) (ms : List Member) (before : Reading) (e : CheckError)
    → Refuses before.faults e → Refuses (read_members env c ms before).faults e
unfolding read_members
kept_members env c [] before e h = h
kept_members env c (m ∷ ms) before e h = kept_members env c ms (read_member env c m before) e (kept_member env c m before e h)

kept_classes : (env : Environment) (c : ℕ) (ks : List ClassTree) (before : Reading) (e : CheckError)
    → Refuses before.faults e → Refuses (read_classes env c ks before).faults e
unfolding read_classes
kept_classes env c [] before e h = h
kept_classes env c (k ∷ ks) before e h = kept_classes env (suc c) ks (read_members env c k.members before) e (kept_members env c k.members before e h)

-- ---- one turn of a loop, where the environment is the first one with more constants

module _ (first env : Environment) (same : env ≡ with_constants first env.constants) where
  pub same_after : (next : Environment) → next ≡ with_constants env next.constants → next ≡ with_constants first next.constants
  same_after next is = is ∙ ap (λ (x : Environment). with_constants x next.constants) same

  -- over the members of class c, from number i on
  module _ (c : ℕ) (ms : List Member) (i : ℕ) (whole : Reading) (is : whole ≡ read_members first c (drop i ms) (read_in env)) where
    pub members_end : length ms ≤ i → whole ≡ read_in env
    unfolding read_members
    members_end all = is ∙ at_drop_all (λ rest. read_members first c rest (read_in env)) ms i all

    module _ (m : Member) (within : i < length ms) (item : m ≡ get_or ms i m) where
      begins : whole ≡ read_members first c (drop (i + 1) ms) (read_member env c m (read_in env))
      unfolding read_members
      begins =
          is ∙ at_drop_more (λ rest. read_members first c rest (read_in env)) ms i m within
          ∙ ap (λ x. read_members first c (drop (i + 1) ms) (read_member first c x (read_in env))) (sym item)
          ∙ ap (read_members first c (drop (i + 1) ms)) (sym (ap (λ (x : Environment). read_member x c m (read_in env)) same ∙ member_same first env.constants c m (read_in env)))

      pub member_read : (next : Environment) → read_member env c m (read_in env) ≡ read_in next → whole ≡ read_members first c (drop (i + 1) ms) (read_in next)
      member_read next read = begins ∙ ap (read_members first c (drop (i + 1) ms)) read

      pub member_refused : (e : CheckError) → Refuses (read_member env c m (read_in env)).faults e → Refuses whole.faults e
      member_refused e h = subst (λ (r : Reading). Refuses r.faults e) (sym begins) (kept_members first c (drop (i + 1) ms) (read_member env c m (read_in env)) e h)

  -- over the classes from number i on, the first of which has number c
  module _ (c : ℕ) (ks : List ClassTree) (i : ℕ) (whole : Reading) (is : whole ≡ read_classes first c (drop i ks) (read_in env)) where
    pub classes_end : length ks ≤ i → whole ≡ read_in env
    unfolding read_classes
    classes_end all = is ∙ at_drop_all (λ rest. read_classes first c rest (read_in env)) ks i all

    module _ (k : ClassTree) (within : i < length ks) (item : k ≡ get_or ks i k) where
      class_begins : whole ≡ read_classes first (suc c) (drop (i + 1) ks) (read_members env c k.members (read_in env))
      unfolding read_classes
      class_begins =
          is ∙ at_drop_more (λ rest. read_classes first c rest (read_in env)) ks i k within
          ∙ ap (λ (x : ClassTree). read_classes first (suc c) (drop (i + 1) ks) (read_members first c x.members (read_in env))) (sym item)
          ∙ ap (read_classes first (suc c) (drop (i + 1) ks)) (sym (ap (λ (x : Environment). read_members x c k.members (read_in env)) same ∙ members_same first env.constants c k.members (read_in env)))

      pub class_read : (next : Environment) → read_members env c k.members (read_in env) ≡ read_in next → whole ≡ read_classes first (suc c) (drop (i + 1) ks) (read_in next)
      class_read next read = class_begins ∙ ap (read_classes first (suc c) (drop (i + 1) ks)) read

      pub class_refused : (e : CheckError) → Refuses (read_members env c k.members (read_in env)).faults e → Refuses whole.faults e
      class_refused e h = subst (λ (r : Reading). Refuses r.faults e) (sym class_begins) (kept_classes first (suc c) (drop (i + 1) ks) (read_members env c k.members (read_in env)) e h)
