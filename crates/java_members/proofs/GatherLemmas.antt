-- The methods and constructors of members, one member and one class after another.
use Rattle.std.proofs.Common.{◌≡◌, ◌∙◌, sym, ap, subst, arith, ℕ, zero, suc, ◌+◌, ◌<◌, ◌≤◌, List, [], ◌∷◌, ◌++◌, append_assoc, drop, flat_map, length, get_or}
use Rattle.std.proofs.lemmas.List.{append-nil, at_drop_more, at_drop_all}
use Rattle.core_tree.specs.declared.program.Method.{Method}
use Rattle.core_tree.specs.declared.program.Maker.{Maker}
use Rattle.token_reading.specs.declared.fault.Fault.{Fault}
use Rattle.token_reading.specs.declared.fault.CheckError.{CheckError}
use Rattle.java_syntax.specs.declared.class.Member.{Member}
use Rattle.java_syntax.specs.declared.class.ClassTree.{ClassTree}
use Rattle.java_exprs.specs.declared.environment.Environment.{Environment}
use Rattle.java_members.specs.declared.members.Bodies.{Bodies}
use Rattle.java_names.specs.Refusals.{Refuses}
use Rattle.java_names.proofs.RefusalLemmas.{refuses_left, refuses_right}
use Rattle.java_members.specs.Files.{is_maker, of_made, of_members, own_method, own_maker, where_none}
use Rattle.java_members.specs.Gathered.{with_member, with_members, with_classes}

abbrev gathered : List Method → List Maker → Bodies
gathered methods makers = record { methods = methods; makers = makers }

same_bodies : (xs ys : List Method) (as_ bs : List Maker) → xs ≡ ys → as_ ≡ bs → gathered xs as_ ≡ gathered ys bs
same_bodies xs ys as_ bs methods makers = ap (λ ms. gathered ms as_) methods ∙ ap (gathered ys) makers

-- over the members of class c, from number i on
module _ (env : Environment) (c : ℕ) (ms : List Member) (i : ℕ) (bodies : Bodies) where
  pub members_end : length ms ≤ i → with_members env c (drop i ms) bodies ≡ bodies
  members_end all =
      at_drop_all (λ rest. with_members env c rest bodies) ms i all
      ∙ same_bodies (bodies.methods ++ []) bodies.methods (bodies.makers ++ []) bodies.makers (append-nil bodies.methods) (append-nil bodies.makers)

  pub member_next : (m : Member) (next : Bodies) → i < length ms → m ≡ get_or ms i m → next ≡ with_member env c m bodies
      → with_members env c (drop i ms) bodies ≡ with_members env c (drop (i + 1) ms) next
  member_next m next within item is =
      at_drop_more (λ rest. with_members env c rest bodies) ms i m within
      ∙ ap (λ x. with_members env c (x ∷ drop (i + 1) ms) bodies) (sym item)
      ∙ same_bodies _ _ _ _
      (sym (append_assoc bodies.methods (own_method env c m) (flat_map (own_method env c) (drop (i + 1) ms))))
      (sym (append_assoc bodies.makers (own_maker env c m) (flat_map (own_maker env c) (drop (i + 1) ms))))
      ∙ ap (with_members env c (drop (i + 1) ms)) (sym is)

-- over the classes from number i on, the first of which has number c
module _ (env : Environment) (c : ℕ) (ks : List ClassTree) (i : ℕ) (bodies : Bodies) where
  pub classes_end : length ks ≤ i → with_classes env c (drop i ks) bodies ≡ bodies
  unfolding of_members
  classes_end all =
      at_drop_all (λ rest. with_classes env c rest bodies) ks i all
      ∙ same_bodies (bodies.methods ++ []) bodies.methods (bodies.makers ++ []) bodies.makers (append-nil bodies.methods) (append-nil bodies.makers)

  pub class_next : (k : ClassTree) (next : Bodies) → i < length ks → k ≡ get_or ks i k → next ≡ with_members env c k.members bodies
      → with_classes env c (drop i ks) bodies ≡ with_classes env (suc c) (drop (i + 1) ks) next
  unfolding of_members
  class_next k next within item is =
      at_drop_more (λ rest. with_classes env c rest bodies) ks i k within
      ∙ ap (λ (x : ClassTree). with_classes env c (x ∷ drop (i + 1) ks) bodies) (sym item)
      ∙ same_bodies _ _ _ _
      (sym (append_assoc bodies.methods (flat_map (own_method env c) k.members) (of_members (own_method env) (suc c) (drop (i + 1) ks))))
      (sym (append_assoc bodies.makers (flat_map (own_maker env c) k.members) (of_members (own_maker env) (suc c) (drop (i + 1) ks))))
      ∙ ap (with_classes env (suc c) (drop (i + 1) ks)) (sym is)

-- ---- one turn of a loop over parts that break nothing

pub next_item : {X : Type 0} (f : X → List Fault) (whole : List Fault) (xs : List X) (i : ℕ) (x : X)
    → whole ≡ flat_map f (drop i xs) → i < length xs → x ≡ get_or xs i x → f x ≡ [] → whole ≡ flat_map f (drop (i + 1) xs)
next_item f whole xs i x is within item none =
    is ∙ at_drop_more (flat_map f) xs i x within ∙ ap (λ y. flat_map f (y ∷ drop (i + 1) xs)) (sym item)
    ∙ ap (λ fs. fs ++ flat_map f (drop (i + 1) xs)) none

pub next_class : (give : ℕ → Member → List Fault) (whole : List Fault) (c : ℕ) (ks : List ClassTree) (i : ℕ) (k : ClassTree)
    → whole ≡ of_members give c (drop i ks) → i < length ks → k ≡ get_or ks i k → flat_map (give c) k.members ≡ [] → whole ≡ of_members give (suc c) (drop (i + 1) ks)
unfolding of_members
next_class give whole c ks i k is within item none =
    is ∙ at_drop_more (of_members give c) ks i k within ∙ ap (λ (x : ClassTree). of_members give c (x ∷ drop (i + 1) ks)) (sym item)
    ∙ ap (λ fs. fs ++ of_members give (suc c) (drop (i + 1) ks)) none

-- what is made for the classes, one class after another, after what is there
pub next_made : {X : Type 0} (give : ℕ → ClassTree → List X) (whole done next : List X) (c : ℕ) (ks : List ClassTree) (i : ℕ) (k : ClassTree)
    → whole ≡ done ++ of_made give c (drop i ks) → i < length ks → k ≡ get_or ks i k → next ≡ done ++ where_none (flat_map is_maker k.members) (give c k)
    → whole ≡ next ++ of_made give (suc c) (drop (i + 1) ks)
unfolding of_made
next_made give whole done next c ks i k is within item behind =
    is ∙ ap (λ xs. done ++ xs) (at_drop_more (of_made give c) ks i k within ∙ ap (λ (x : ClassTree). of_made give c (x ∷ drop (i + 1) ks)) (sym item))
    ∙ sym (append_assoc done (where_none (flat_map is_maker k.members) (give c k)) (of_made give (suc c) (drop (i + 1) ks)))
    ∙ ap (λ xs. xs ++ of_made give (suc c) (drop (i + 1) ks)) (sym behind)

-- the faults of class number c, which stands at place i of the classes from number first on
pub refuses_numbered : (give : ℕ → Member → List Fault) (first c : ℕ) (ks : List ClassTree) (i : ℕ) (k : ClassTree) (e : CheckError)
    → c ≡ first + i → i < length ks → k ≡ get_or ks i k → Refuses (flat_map (give c) k.members) e → Refuses (of_members give first ks) e
unfolding of_members
refuses_numbered give first c [] i k e place within item h = absurd (omega (arith, within))
refuses_numbered give first c (k0 ∷ ks) zero k e place within item h =
    refuses_left (flat_map (give first) k0.members) (of_members give (suc first) ks) e
    (subst (λ (x : ClassTree). Refuses (flat_map (give first) x.members) e) item (subst (λ d. Refuses (flat_map (give d) k.members) e) (omega (arith, place)) h))
refuses_numbered give first c (k0 ∷ ks) (suc i) k e place within item h =
    refuses_right (flat_map (give first) k0.members) (of_members give (suc first) ks) e
    (refuses_numbered give (suc first) c ks i k e (omega (arith, place)) (omega (arith, within)) item h)
