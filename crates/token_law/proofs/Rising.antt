-- Names of fields whose numbers rise: those with the same number are the same.
use Rattle.std.proofs.Common.{◌≡◌, ◌∙◌, ℕ, zero, suc, ◌+◌, ◌≤◌, ◌<◌, List, [], ◌∷◌, Some, slice_get, sym, ap, arith}
use Rattle.std.proofs.lemmas.Option.{none-some, same_Some}
use Rattle.class_table.specs.declared.row.FieldRow.{FieldRow}
use Rattle.class_table.specs.declared.declaration.Declaration.{Declaration}
use Rattle.class_table.specs.Fields.{fields_at}

-- the names are tokens from n up to m, in order
abbrev pub Rising : ℕ → List FieldRow → ℕ → Type 0
Rising n [] m = n ≤ m
Rising n (f ∷ more) m = (n ≤ f.at) × Rising (f.at + 1) more m

-- the same of the names of all classes
abbrev pub RisingAll : ℕ → List Declaration → ℕ → Type 0
RisingAll n [] m = n ≤ m
RisingAll n (d ∷ more) m = (k : ℕ) × Rising n d.fields k × RisingAll k more m

-- ---- where they begin and end

pub sooner : (n k m : ℕ) (fs : List FieldRow) → n ≤ k → Rising k fs m → Rising n fs m
sooner n k m [] least r = omega (arith, least, r)
sooner n k m (f ∷ more) least r = (omega (arith, least, r.0), r.1)

pub all_sooner : (n k m : ℕ) (ds : List Declaration) → n ≤ k → RisingAll k ds m → RisingAll n ds m
all_sooner n k m [] least r = omega (arith, least, r)
all_sooner n k m (d ∷ more) least r = (r.0, sooner n k r.0 d.fields least r.1, r.2)

rises : (n m : ℕ) (fs : List FieldRow) → Rising n fs m → n ≤ m
rises n m [] r = r
rises n m (f ∷ more) r = omega (arith, r.0, rises (f.at + 1) m more r.1)

all_rise : (n m : ℕ) (ds : List Declaration) → RisingAll n ds m → n ≤ m
all_rise n m [] r = r
all_rise n m (d ∷ more) r = omega (arith, rises n r.0 d.fields r.1, all_rise r.0 m more r.2)

-- ---- each is between them

abbrev IsBetween : ℕ → ℕ → FieldRow → Type 0
IsBetween n m f = (n ≤ f.at) × (f.at < m)

between : (n m : ℕ) (fs : List FieldRow) (i : ℕ) (f : FieldRow) → Rising n fs m → slice_get fs i ≡ Some f → IsBetween n m f
between n m [] i f r is = absurd (none-some f is)
between n m (x ∷ more) zero f r is =
    let same = ap (λ (row : FieldRow). row.at) (same_Some x f is) in (omega (arith, r.0, same), omega (arith, rises (x.at + 1) m more r.1, same))
between n m (x ∷ more) (suc i) f r is =
    let there = between (x.at + 1) m more i f r.1 is in (omega (arith, r.0, there.0), there.1)

all_between : (n m : ℕ) (ds : List Declaration) (c i : ℕ) (f : FieldRow) → RisingAll n ds m → slice_get (fields_at ds c) i ≡ Some f → IsBetween n m f
all_between n m [] c i f r is = absurd (none-some f is)
all_between n m (d ∷ more) zero i f r is =
    let here = between n r.0 d.fields i f r.1 is in (here.0, omega (arith, here.1, all_rise r.0 m more r.2))
all_between n m (d ∷ more) (suc c) i f r is =
    let there = all_between r.0 m more c i f r.2 is in (omega (arith, there.0, rises n r.0 d.fields r.1), there.1)

-- ---- one number is one name

same_row : (n m : ℕ) (fs : List FieldRow) (i j : ℕ) (f g : FieldRow) → Rising n fs m → slice_get fs i ≡ Some f → slice_get fs j ≡ Some g → f.at ≡ g.at
    → f.ty ≡ g.ty
same_row n m [] i j f g r is_f is_g same = absurd (none-some f is_f)
same_row n m (x ∷ more) zero zero f g r is_f is_g same =
    sym (ap (λ (row : FieldRow). row.ty) (same_Some x f is_f)) ∙ ap (λ (row : FieldRow). row.ty) (same_Some x g is_g)
same_row n m (x ∷ more) zero (suc j) f g r is_f is_g same =
    absurd (omega (arith, same, ap (λ (row : FieldRow). row.at) (same_Some x f is_f), (between (x.at + 1) m more j g r.1 is_g).0))
same_row n m (x ∷ more) (suc i) zero f g r is_f is_g same =
    absurd (omega (arith, same, ap (λ (row : FieldRow). row.at) (same_Some x g is_g), (between (x.at + 1) m more i f r.1 is_f).0))
same_row n m (x ∷ more) (suc i) (suc j) f g r is_f is_g same = same_row (x.at + 1) m more i j f g r.1 is_f is_g same

pub same_type : (n m : ℕ) (ds : List Declaration) → RisingAll n ds m → (c d i j : ℕ) (f g : FieldRow) → slice_get (fields_at ds c) i ≡ Some f
    → slice_get (fields_at ds d) j ≡ Some g → f.at ≡ g.at → f.ty ≡ g.ty
same_type n m [] r c d i j f g is_f is_g same = absurd (none-some f is_f)
same_type n m (x ∷ more) r zero zero i j f g is_f is_g same = same_row n r.0 x.fields i j f g r.1 is_f is_g same
same_type n m (x ∷ more) r zero (suc d) i j f g is_f is_g same =
    absurd (omega (arith, same, (between n r.0 x.fields i f r.1 is_f).1, (all_between r.0 m more d j g r.2 is_g).0))
same_type n m (x ∷ more) r (suc c) zero i j f g is_f is_g same =
    absurd (omega (arith, same, (between n r.0 x.fields j g r.1 is_g).1, (all_between r.0 m more c i f r.2 is_f).0))
same_type n m (x ∷ more) r (suc c) (suc d) i j f g is_f is_g same = same_type r.0 m more r.2 c d i j f g is_f is_g same
