-- A fault of one class is a fault of the file.
use Rattle.std.proofs.Common.{◌≡◌, ◌∙◌, sym, ap, subst, ℕ, suc, ◌+◌, ◌<◌, List, ◌∷◌, drop, flat_map, length, get_or}
use Rattle.std.proofs.lemmas.List.{at_drop_more}
use Rattle.token_reading.specs.declared.fault.Fault.{Fault}
use Rattle.token_reading.specs.declared.fault.CheckError.{CheckError}
use Rattle.java_syntax.specs.declared.class.Member.{Member}
use Rattle.java_syntax.specs.declared.class.ClassTree.{ClassTree}
use Rattle.java_names.specs.Refusals.{Refuses}
use Rattle.java_names.proofs.RefusalLemmas.{refuses_left}
use Rattle.java_members.specs.Files.{of_members, of_made, where_none, is_maker}

-- the faults of a class, where the rest of the classes begins with it
pub refuses_class : (give : ℕ → Member → List Fault) (whole : List Fault) (c : ℕ) (ks : List ClassTree) (i : ℕ) (k : ClassTree) (e : CheckError)
    → whole ≡ of_members give c (drop i ks) → i < length ks → k ≡ get_or ks i k → Refuses (flat_map (give c) k.members) e → Refuses whole e
unfolding of_members
refuses_class give whole c ks i k e is within item h =
    subst (λ fs. Refuses fs e) (sym (is ∙ at_drop_more (of_members give c) ks i k within ∙ ap (λ x. of_members give c (x ∷ drop (i + 1) ks)) (sym item)))
    (refuses_left (flat_map (give c) k.members) (of_members give (suc c) (drop (i + 1) ks)) e h)

pub refuses_made : (give : ℕ → ClassTree → List Fault) (whole : List Fault) (c : ℕ) (ks : List ClassTree) (i : ℕ) (k : ClassTree) (e : CheckError)
    → whole ≡ of_made give c (drop i ks) → i < length ks → k ≡ get_or ks i k → Refuses (where_none (flat_map is_maker k.members) (give c k)) e → Refuses whole e
unfolding of_made
refuses_made give whole c ks i k e is within item h =
    subst (λ fs. Refuses fs e) (sym (is ∙ at_drop_more (of_made give c) ks i k within ∙ ap (λ x. of_made give c (x ∷ drop (i + 1) ks)) (sym item)))
    (refuses_left (where_none (flat_map is_maker k.members) (give c k)) (of_made give (suc c) (drop (i + 1) ks)) e h)
