-- Faults of a file's members, class by class.
use Rattle.std.proofs.Common.{◌≡◌, refl, sym, ap, subst, ℕ, suc, true, false, true≢false, List, [], ◌∷◌, ◌++◌, flat_map, inl, inr, ◌⊎◌}
use Rattle.std.specs.List.{list_any}
use Rattle.token_reading.specs.declared.fault.Fault.{Fault}
use Rattle.token_reading.specs.declared.fault.CheckError.{CheckError}
use Rattle.token_reading.specs.declared.fault.CheckError.TheVariants as error
use Rattle.java_syntax.specs.declared.class.Member.{Member}
use Rattle.java_syntax.specs.declared.class.Member.TheVariants as member
use Rattle.java_syntax.specs.declared.class.ClassTree.{ClassTree}
use Rattle.java_names.specs.Refusals.{Has, Refuses}
use Rattle.java_members.specs.Answers.{is_constructor}
use Rattle.java_members.specs.Files.{is_maker, where_none, of_members, then_faults}

-- ---- a class without a constructor

pub none_without : {X : Type 0} (ms : List Member) (given : List X) → list_any is_constructor ms ≡ false → where_none (flat_map is_maker ms) given ≡ given
none_without [] given none = refl
none_without (member.Field f ∷ ms) given none = none_without ms given none
none_without (member.Method m ∷ ms) given none = none_without ms given none
none_without (member.Maker m ∷ ms) given none = absurd (true≢false none)
none_without (member.Empty ∷ ms) given none = none_without ms given none

pub none_with : {X : Type 0} (ms : List Member) (given : List X) → list_any is_constructor ms ≡ true → where_none (flat_map is_maker ms) given ≡ []
none_with [] given some = absurd (true≢false (sym some))
none_with (member.Field f ∷ ms) given some = none_with ms given some
none_with (member.Method m ∷ ms) given some = none_with ms given some
none_with (member.Maker m ∷ ms) given some = refl
none_with (member.Empty ∷ ms) given some = none_with ms given some

pub ruleset made = (none_without, none_with)

-- ---- refusals

-- where there is no fault, only memory runs out
pub refuses_nothing : (xs ys : List Fault) (e : CheckError) → xs ≡ [] → Refuses xs e → Refuses ys e
refuses_nothing xs ys (error.Fault f) none h = absurd (subst (λ fs. Has fs f) none h)
refuses_nothing xs ys error.OutOfMemory none h = tt

has_append : (xs ys : List Fault) (f : Fault) → Has (xs ++ ys) f → Has xs f ⊎ Has ys f
has_append [] ys f h = inr h
has_append (x ∷ xs) ys f h = elim h [ inl e ↦ inl (inl e) | inr more ↦ elim (has_append xs ys f more) [ inl l ↦ inl (inr l) | inr r ↦ inr r ] ]

has_more : (xs ys : List Fault) (f : Fault) → Has ys f → Has (xs ++ ys) f
has_more [] ys f h = h
has_more (x ∷ xs) ys f h = inr (has_more xs ys f h)

has_first : (xs ys : List Fault) (f : Fault) → Has xs f → Has (xs ++ ys) f
has_first [] ys f h = absurd h
has_first (x ∷ xs) ys f h = elim h [ inl e ↦ inl e | inr more ↦ inr (has_first xs ys f more) ]

-- ---- faults of two kinds

module _ (d b : ℕ → Member → List Fault) (f : Fault) where
  abbrev both : ℕ → Member → List Fault
  both c m = d c m ++ b c m

  in_class : (c : ℕ) (ms : List Member) → Has (flat_map (both c) ms) f → Has (flat_map (d c) ms) f ⊎ Has (flat_map (b c) ms) f
  in_class c [] h = inl h
  in_class c (m ∷ ms) h = elim (has_append (both c m) (flat_map (both c) ms) f h) [
    | inl here ↦ elim (has_append (d c m) (b c m) f here) [ inl l ↦ inl (has_first (d c m) _ f l) | inr r ↦ inr (has_first (b c m) _ f r) ]
    | inr more ↦ elim (in_class c ms more) [ inl l ↦ inl (has_more (d c m) _ f l) | inr r ↦ inr (has_more (b c m) _ f r) ]
  ]

  in_classes : (c : ℕ) (ks : List ClassTree) → Has (of_members both c ks) f → Has (of_members d c ks) f ⊎ Has (of_members b c ks) f
  unfolding of_members
  in_classes c [] h = inl h
  in_classes c (k ∷ ks) h = elim (has_append (flat_map (both c) k.members) (of_members both (suc c) ks) f h) [
    | inl here ↦ elim (in_class c k.members here) [ inl l ↦ inl (has_first (flat_map (d c) k.members) _ f l) | inr r ↦ inr (has_first (flat_map (b c) k.members) _ f r) ]
    | inr more ↦ elim (in_classes (suc c) ks more) [ inl l ↦ inl (has_more (flat_map (d c) k.members) _ f l) | inr r ↦ inr (has_more (flat_map (b c) k.members) _ f r) ]
  ]

-- where the first kind is broken nowhere, a fault is of the second
pub refuses_second : (d b : ℕ → Member → List Fault) (c : ℕ) (ks : List ClassTree) (e : CheckError)
    → of_members d c ks ≡ [] → Refuses (of_members (λ c m. d c m ++ b c m) c ks) e → Refuses (of_members b c ks) e
refuses_second d b c ks (error.Fault f) none h = elim (in_classes d b f c ks h) [ inl l ↦ absurd (subst (λ fs. Has fs f) none l) | inr r ↦ r ]
refuses_second d b c ks error.OutOfMemory none h = tt

-- ---- declarations before bodies

pub refuses_declared : (xs ys : List Fault) (e : CheckError) → Refuses xs e → Refuses (then_faults xs ys) e
refuses_declared [] ys e h = refuses_nothing [] ys e refl h
refuses_declared (x ∷ xs) ys e h = h

pub then_body : (xs ys : List Fault) → xs ≡ [] → then_faults xs ys ≡ ys
then_body xs ys none = ap (λ fs. then_faults fs ys) none

-- a first part may be put in place of another that has its faults
pub refuses_first_of : (xs zs ys : List Fault) (e : CheckError) → (Refuses xs e → Refuses zs e) → Refuses (xs ++ ys) e → Refuses (zs ++ ys) e
refuses_first_of xs zs ys (error.Fault f) moved h = elim (has_append xs ys f h) [ inl l ↦ has_first zs ys f (moved l) | inr r ↦ has_more zs ys f r ]
refuses_first_of xs zs ys error.OutOfMemory moved h = tt
