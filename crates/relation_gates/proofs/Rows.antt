-- Rows and matrices that are made one element after another.
use Rattle.std.proofs.Common.{◌≡◌, ◌<◌, ◌≤◌, ◌+◌, ◌*◌, ℕ, zero, suc, Bool, true, List, [], ◌∷◌, ◌++◌, length, get_or, sym, ap, ◌∙◌, arith, subst, inl, inr, ◌||◌, ◌&&◌, ◌↔◌, add-one, Result, Ok, Err, IfOk}
use Rattle.std.specs.List.{All}
use Rattle.std.proofs.lemmas.Nat.{mul-le}
use Rattle.std.proofs.lemmas.Bool.{cases_lt, or_cases, or_left, or_right, and_parts, and_from, false≢true}
use Rattle.std.proofs.lemmas.List.{get_or_append_left, get_or_push, length_push, get_or_read}
use Rattle.std.proofs.lemmas.List.Elements.{All-weaker, All-push, All-same}
use Rattle.gate_net.specs.Net.{IsNode, Continues}
use Rattle.gate_net.specs.declared.gate.Gate.{Gate}
use Rattle.gate_net.specs.declared.node.Node.{Node}
use Rattle.gate_net.proofs.Growth.{stays}
use Rattle.relation_gates.specs.Relations.{member, edge, IsRow, IsMatrix}
use Rattle.relation_gates.specs.Sets.{some_below}

-- a row stays one in a net that continues
pub row-on : (net after : List Gate) (u : ℕ) (row : List Node) → Continues net after → IsRow net u row
    → IsRow after u row
row-on net after u row f is = record { width = is.width; nodes = All-weaker (IsNode net) (IsNode after) (λ n. stays net after n f) row is.nodes }

pub rows-on : (net after : List Gate) (u : ℕ) (rows : List (List Node)) → Continues net after → All (IsRow net u) rows
    → All (IsRow after u) rows
rows-on net after u rows f all = All-weaker (IsRow net u) (IsRow after u) (λ row. row-on net after u row f) rows all

pub matrix-on : (net after : List Gate) (u : ℕ) (m : List (List Node)) → Continues net after → IsMatrix net u m
    → IsMatrix after u m
matrix-on net after u m f is = record { height = is.height; rows = rows-on net after u m f is.rows }

-- one more node, where the net has grown meanwhile
pub nodes-push : (net after : List Gate) (done pushed : List Node) (n : Node) → pushed ≡ done ++ n ∷ []
    → Continues net after → All (IsNode net) done → IsNode after n → All (IsNode after) pushed
nodes-push net after done pushed n e f all h =
    All-same (IsNode after) pushed (done ++ n ∷ []) e (All-push (IsNode after) done n (All-weaker (IsNode net) (IsNode after) (λ m. stays net after m f) done all) h)

pub rows-push : (net after : List Gate) (u : ℕ) (done pushed : List (List Node)) (row : List Node)
    → pushed ≡ done ++ row ∷ [] → Continues net after → All (IsRow net u) done → IsRow after u row
    → All (IsRow after u) pushed
rows-push net after u done pushed row e f all h =
    All-same (IsRow after u) pushed (done ++ row ∷ []) e (All-push (IsRow after u) done row (rows-on net after u done f all) h)

pub size-push : {X : Type 0} (done pushed : List X) (n : X) (i : ℕ) → pushed ≡ done ++ n ∷ [] → length done ≡ i
    → length pushed ≡ i + 1
size-push done pushed n i e size = ap length e ∙ length_push done n ∙ ap (λ k. k + 1) size

-- what each member is, with one more
pub member-next : (value : Node → Bool) (done pushed : List Node) (n : Node) (i : ℕ) (test : ℕ → Bool)
    → pushed ≡ done ++ n ∷ [] → length done ≡ i → ((y : ℕ) → y < i → member value done y ≡ test y) → value n ≡ test i
    → (y : ℕ) → y < i + 1 → member value pushed y ≡ test y
member-next value done pushed n i test e size before here y h =
    let none : Node = record { place = 0 } in
    ap (λ ns. member value ns y) e ∙ elim (cases_lt y i) [
      | inl below ↦ ap value (get_or_append_left done (n ∷ []) none y (omega arith)) ∙ before y below
      | inr past ↦
          let same : i ≡ y = omega arith in
          ap value (get_or_push done n none y (size ∙ same)) ∙ here ∙ ap test same
    ]

pub edge-next : (value : Node → Bool) (done pushed : List (List Node)) (row : List Node) (i u : ℕ)
    (test : ℕ → ℕ → Bool) → pushed ≡ done ++ row ∷ [] → length done ≡ i
    → ((x y : ℕ) → x < i → y < u → edge value done x y ≡ test x y) → ((y : ℕ) → y < u → member value row y ≡ test i y)
    → (x y : ℕ) → x < i + 1 → y < u → edge value pushed x y ≡ test x y
edge-next value done pushed row i u test e size before here x y h k =
    ap (λ m. edge value m x y) e ∙ elim (cases_lt x i) [
      | inl below ↦ ap (λ r. member value r y) (get_or_append_left done (row ∷ []) [] x (omega arith)) ∙ before x y below k
      | inr past ↦
          let same : i ≡ x = omega arith in
          ap (λ r. member value r y) (get_or_push done row [] x (size ∙ same)) ∙ here y k ∙ ap (λ j. test j y) same
    ]

-- turns of a loop
pub turn : (w i n : ℕ) → i < n → w * i + w ≤ w * n
turn w i n h =
    let e : w * i + w ≡ w * (i + 1) = grind arith in
    let f : w * (i + 1) ≤ w * n = mul-le w (i + 1) w n (omega arith) (omega arith) in
    omega arith

pub turn_more : (w i : ℕ) → w * (i + 1) ≡ w * i + w
turn_more w i = grind arith

-- a test that holds of some number
pub some-from : (n k : ℕ) (test : ℕ → Bool) → k < n → test k ≡ true → some_below n test ≡ true
some-from zero k test h t = absurd (omega arith)
some-from (suc n) k test h t = elim (cases_lt k n) [
  | inl below ↦ or_left _ _ (some-from n k test below t)
  | inr past ↦ let e : k ≡ n = omega arith in or_right _ _ (ap test (sym e) ∙ t)
]

pub from-some : (n : ℕ) (test : ℕ → Bool) → some_below n test ≡ true → (k : ℕ) × (k < n) × (test k ≡ true)
from-some zero test h = absurd (false≢true h)
from-some (suc n) test h = elim (or_cases (some_below n test) (test n) h) [
  | inl before ↦ let p = from-some n test before in (p.0, omega (arith, p.1), p.2)
  | inr here ↦ (n, omega arith, here)
]

-- a row that was read from a matrix
pub record RowAt (net : List Gate) (u : ℕ) (m : List (List Node)) (x : ℕ) (row : List Node) : Type 0 where
  pub own : IsRow net u row
  pub is : row ≡ get_or m x []

pub row-at : (net : List Gate) (u : ℕ) (m whole : List (List Node)) (x : ℕ) (row : List Node) → m ≡ whole
    → IsMatrix net u whole → x < length m → row ≡ get_or m x row → RowAt net u m x row
row-at net u m whole x row same is h e =
    let all : All (IsRow net u) m = All-same (IsRow net u) m whole same is.rows in
    record { own = subst (IsRow net u) (sym e) (all x row h); is = get_or_read m x row h e [] }

-- a node of a matrix
pub entry-is : (net : List Gate) (u : ℕ) (m : List (List Node)) (x y : ℕ) → IsMatrix net u m → x < u → y < u
    → IsNode net (get_or (get_or m x []) y (record { place = 0 }))
entry-is net u m x y is h k =
    let row = is.rows x [] (omega (arith, is.height)) in
    row.nodes y (record { place = 0 }) (omega (arith, row.width))

pub some-more : (test : ℕ → Bool) (k : ℕ) (found here more : Bool) → found ≡ some_below k test → here ≡ test k
    → more ≡ (found || here) → more ≡ some_below (k + 1) test
some-more test k found here more e f g =
    g ∙ ap (λ b. b || here) e ∙ ap (λ b. some_below k test || b) f ∙ sym (ap (λ n. some_below n test) (add-one k))

pub some-iff : (n : ℕ) (first second : ℕ → Bool) (b : Bool) → b ≡ some_below n (λ x. first x && second x)
    → (b ≡ true) ↔ ((x : ℕ) × (x < n) × (first x ≡ true) × (second x ≡ true))
some-iff n first second b e = (
  λ h. let p = from-some n (λ x. first x && second x) (sym e ∙ h) in
      let parts = and_parts (first p.0) (second p.0) p.2 in
      (p.0, p.1, parts.0, parts.1),
  λ p. e ∙ some-from n p.0 (λ x. first x && second x) p.1 (and_from (first p.0) (second p.0) p.2 p.3),
)

pub if-ok : {E V : Type 0} (r : Result V E) {P Q : V → Type 0} → ((v : V) → P v → Q v) → IfOk r P → IfOk r Q
if-ok (Ok v) f h = f v h
if-ok (Err x) f h = tt
