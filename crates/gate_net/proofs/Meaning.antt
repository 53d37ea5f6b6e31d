-- What the clauses of a net mean: exactly the assignments that extend values of the inputs satisfy them.
use Rattle.std.proofs.Common.{◌≡◌, ◌<◌, ◌≤◌, ◌+◌, ◌*◌, ℕ, zero, suc, Bool, true, false, not, ◌&&◌, ◌||◌, ℤ, List, [], ◌∷◌, ◌++◌, length, get_or, take, drop, refl, sym, ap, ◌∙◌, arith, subst, add-zero, inl, inr}
use Rattle.std.specs.Bool.{beq}
use Rattle.std.specs.List.{All, list_any, list_all}
use Rattle.std.proofs.lemmas.List.{length-take-le, take-append-drop, get_or_push, ext_get_or, take_all, length_push}
use Rattle.std.proofs.lemmas.List.Folds.{list_all-append}
use Rattle.std.proofs.lemmas.List.Sums.{AllPass-from_list_all, list_all-from_AllPass}
use Rattle.std.proofs.lemmas.Bool.{and_parts, and_from, cases_lt}
use Rattle.clause_form.specs.Clauses.{value, listed, Holds, NamesWithin}
use Rattle.gate_net.specs.Net.{applied, gate_value, one_if_input, values_of, inputs_of, node_value, IsNode, IsNet, Refers}
use Rattle.gate_net.specs.Encoding.{clause_of_one, with_input, gate_clauses, clauses_from, given, given_from, Agrees, Extends, StandsFor}
use Rattle.std.proofs.lemmas.List.Elements.{All-push}
use Rattle.gate_net.proofs.GateClauses.{clauses-few, clauses-names, names-one}
use Rattle.gate_net.proofs.Values.{length-values_front, node_value-kept, values-more}
use Rattle.gate_net.specs.declared.node.Node.{Node}
use Rattle.gate_net.specs.declared.literal.Literal.TheVariants.{Is}
use Rattle.gate_net.specs.declared.gate.Gate.{Gate}
use Rattle.gate_net.specs.declared.gate.Gate.TheVariants.{Constant, Input, Not, Binary}

-- the assignment makes a clause true
abbrev pub is_true : (ℕ → Bool) → List ℤ → Bool
is_true a c = list_any (value a) c

-- the assignment gives a node's variable the value of its gate at the operands' variables
abbrev pub consistent : (ℕ → Bool) → ℕ → Gate → Bool
consistent a place (Constant b) = beq (a (suc place)) b
consistent a place Input = true
consistent a place (Not x) = beq (a (suc place)) (not (a (suc x.place)))
consistent a place (Binary operator x y) = beq (a (suc place)) (applied operator (a (suc x.place)) (a (suc y.place)))

gate-consistent : (a : ℕ → Bool) (n : Node) (g : Gate)
    → list_all (is_true a) (gate_clauses n g) ≡ consistent a n.place g
gate-consistent a n g = grind arith

each-next : (a : ℕ → Bool) (place : ℕ) (g : Gate) (gates : List Gate) → consistent a place g ≡ true
    → ((k : ℕ) (d : Gate) → k < length gates → consistent a (suc place + k) (get_or gates k d) ≡ true)
    → (k : ℕ) (d : Gate) → k < suc (length gates) → consistent a (place + k) (get_or (g ∷ gates) k d) ≡ true
each-next a place g gates here rest zero d i = subst (λ p. consistent a p g ≡ true) (sym (add-zero place)) here
each-next a place g gates here rest (suc k) d i =
    let e : suc place + k ≡ place + suc k = omega arith in
    subst (λ p. consistent a p (get_or gates k d) ≡ true) e (rest k d (omega arith))

-- each gate's clauses are true, gate by gate
pub each-consistent : (a : ℕ → Bool) (place : ℕ) (gates : List Gate)
    → list_all (is_true a) (clauses_from place gates) ≡ true → (k : ℕ) (d : Gate) → k < length gates
    → consistent a (place + k) (get_or gates k d) ≡ true
each-consistent a place [] h k d i = absurd (omega arith)
each-consistent a place (g ∷ gates) h k d i =
    let n : Node = record { place = place } in
    let parts = and_parts _ _ (sym (list_all-append (is_true a) (gate_clauses n g) (clauses_from (suc place) gates)) ∙ h) in
    each-next a place g gates (sym (gate-consistent a n g) ∙ parts.0) (each-consistent a (suc place) gates parts.1) k d i

pub all-consistent : (a : ℕ → Bool) (place : ℕ) (gates : List Gate)
    → ((k : ℕ) (d : Gate) → k < length gates → consistent a (place + k) (get_or gates k d) ≡ true)
    → list_all (is_true a) (clauses_from place gates) ≡ true
all-consistent a place [] h = refl
all-consistent a place (g ∷ gates) h =
    let n : Node = record { place = place } in
    let here : consistent a place g ≡ true = subst (λ p. consistent a p g ≡ true) (add-zero place) (h 0 g (omega arith)) in
    list_all-append (is_true a) (gate_clauses n g) (clauses_from (suc place) gates)
    ∙ and_from _ _ (gate-consistent a n g ∙ here)
    (all-consistent a (suc place) gates (λ k d i.
    let e : place + suc k ≡ suc place + k = omega arith in
    let j : suc k < suc (length gates) = omega arith in
    subst (λ p. consistent a p (get_or gates k d) ≡ true) e (h (suc k) d j)))

-- the values of operands decide the value of a gate
operands : (inputs : List Bool) (next k : ℕ) (vs ws : List Bool) (g : Gate) → Refers k g
    → ((j : ℕ) → j < k → get_or vs j false ≡ get_or ws j false)
    → gate_value inputs next vs g ≡ gate_value inputs next ws g
operands inputs next k vs ws g r same = grind arith

front-value : (inputs : List Bool) (net : List Gate) (k j : ℕ) → k ≤ length net → j < k
    → get_or (values_of inputs (take k net)) j false ≡ get_or (values_of inputs net) j false
front-value inputs net k j h i =
    let n : Node = record { place = j } in
    let within : IsNode (take k net) n = omega (arith, length-take-le k net h) in
    sym (node_value-kept (take k net) (drop k net) inputs n within) ∙ ap (λ x. node_value x inputs n) (take-append-drop k net)

-- each node has the value of its gate at the values of all nodes
pub value_at : (inputs : List Bool) (net : List Gate) (k : ℕ) (d : Gate) → k < length net → Refers k (get_or net k d)
    → get_or (values_of inputs net) k false
    ≡ gate_value inputs (inputs_of (take k net)) (values_of inputs net) (get_or net k d)
value_at inputs net k d h r =
    let g = get_or net k d in
    let next = inputs_of (take k net) in
    let before = values_of inputs (take k net) in
    let after : k + 1 ≤ length net = omega arith in
    let below : k < k + 1 = omega arith in
    let until : k ≤ length net = omega arith in
    sym (front-value inputs net (k + 1) k after below)
    ∙ ap (λ vs. get_or vs k false) (values-more inputs net k d h)
    ∙ get_or_push before (gate_value inputs next before g) false k (length-values_front inputs net k until)
    ∙ operands inputs next k before (values_of inputs net) g r (λ j i. front-value inputs net k j until i)

length-with_input : (g : Gate) (b : Bool) (rest : List Bool)
    → length (with_input g b rest) ≡ one_if_input g + length rest
length-with_input g b rest = grind arith

length-given : (a : ℕ → Bool) (place : ℕ) (net : List Gate) → length (given_from a place net) ≡ inputs_of net
length-given a place [] = refl
length-given a place (g ∷ net) =
    omega (arith, length-with_input g (a (suc place)) (given_from a (suc place) net), length-given a (suc place) net)

get_after : (g : Gate) (b : Bool) (rest : List Bool) (n : ℕ)
    → get_or (with_input g b rest) (one_if_input g + n) false ≡ get_or rest n false
get_after g b rest n = grind arith

in_front : (g : Gate) (b : Bool) (rest : List Bool) → g ≡ Input → get_or (with_input g b rest) 0 false ≡ b
in_front g b rest e = rw e refl

-- the assignment's value at an input is the one that it gives to the net there
given_at : (a : ℕ → Bool) (place : ℕ) (net : List Gate) (k : ℕ) (d : Gate) → k < length net → get_or net k d ≡ Input
    → get_or (given_from a place net) (inputs_of (take k net)) false ≡ a (suc (place + k))
given_at a place [] k d h e = absurd (omega arith)
given_at a place (g ∷ net) zero d h e =
    in_front g (a (suc place)) (given_from a (suc place) net) e ∙ ap (λ p. a (suc p)) (sym (add-zero place))
given_at a place (g ∷ net) (suc k) d h e =
    let step : suc place + k ≡ place + suc k = omega arith in
    get_after g (a (suc place)) (given_from a (suc place) net) (inputs_of (take k net))
    ∙ given_at a (suc place) net k d (omega arith) e
    ∙ ap (λ p. a (suc p)) step

-- a place of an input that is not the first gate, one place on
shifted : (g : Gate) (net : List Gate) (i : ℕ) → one_if_input g ≡ 0
    → (k : ℕ) × (k < length net) × ((d : Gate) → get_or net k d ≡ Input) × (inputs_of (take k net) ≡ i)
    → (k : ℕ) × (k < length (g ∷ net)) × ((d : Gate) → get_or (g ∷ net) k d ≡ Input)
    × (inputs_of (take k (g ∷ net)) ≡ i)
shifted g net i none p = (suc p.0, omega (arith, p.1), p.2, omega (arith, p.3))

-- the place of an input
input_place : (net : List Gate) (i : ℕ) → i < inputs_of net
    → (k : ℕ) × (k < length net) × ((d : Gate) → get_or net k d ≡ Input) × (inputs_of (take k net) ≡ i)
input_place [] i h = absurd (omega arith)
input_place (Constant b ∷ net) i h = shifted (Constant b) net i refl (input_place net i (omega arith))
input_place (Not x ∷ net) i h = shifted (Not x) net i refl (input_place net i (omega arith))
input_place (Binary operator x y ∷ net) i h = shifted (Binary operator x y) net i refl (input_place net i (omega arith))
input_place (Input ∷ net) zero h = (0, omega arith, λ d. refl, refl)
input_place (Input ∷ net) (suc i) h =
    let p = input_place net i (omega arith) in
    (suc p.0, omega (arith, p.1), p.2, omega (arith, p.3))

beq-same : (x y : Bool) → beq x y ≡ true → x ≡ y
beq-same x y h = grind arith

same-beq : (x y : Bool) → x ≡ y → beq x y ≡ true
same-beq x y h = grind arith

-- a gate whose clauses are true has the value that its operands' variables decide
gate-holds : (a : ℕ → Bool) (inputs : List Bool) (next k : ℕ) (vs : List Bool) (g : Gate) → Refers k g
    → ((j : ℕ) → j < k → a (suc j) ≡ get_or vs j false) → (g ≡ Input → a (suc k) ≡ get_or inputs next false)
    → consistent a k g ≡ true → a (suc k) ≡ gate_value inputs next vs g
gate-holds a inputs next k vs g r same input h = grind arith

-- and the other way round
holds-gate : (a : ℕ → Bool) (inputs : List Bool) (next k : ℕ) (vs : List Bool) (g : Gate) → Refers k g
    → ((j : ℕ) → j < k → a (suc j) ≡ get_or vs j false) → a (suc k) ≡ gate_value inputs next vs g
    → consistent a k g ≡ true
holds-gate a inputs next k vs g r same h = grind arith

no_gate : Gate
no_gate = Constant false

-- where each gate's clauses are true, the first nodes' variables have the nodes' values
agrees_below : (net : List Gate) (a : ℕ → Bool) → IsNet net
    → ((k : ℕ) (d : Gate) → k < length net → consistent a (0 + k) (get_or net k d) ≡ true) → (k j : ℕ) → k ≤ length net
    → j < k → a (suc j) ≡ get_or (values_of (given a net) net) j false
agrees_below net a is all zero j h i = absurd (omega arith)
agrees_below net a is all (suc k) j h i =
    let inputs = given a net in
    let vs = values_of inputs net in
    let d = no_gate in
    let within : k < length net = omega arith in
    let until : k ≤ length net = omega arith in
    let earlier : (j' : ℕ) → j' < k → a (suc j') ≡ get_or vs j' false = λ j' i'. agrees_below net a is all k j' until i' in
    elim (cases_lt j k) [
      | inl below ↦ earlier j below
      | inr past ↦
          let here : j ≡ k = omega arith in
          let none : 0 + k ≡ k = omega arith in
          let g = get_or net k d in
          let r = is.earlier k d within in
          let own = subst (λ p. consistent a p g ≡ true) none (all k d within) in
          subst (λ p. a (suc p) ≡ get_or vs p false) (sym here)
          (gate-holds a inputs (inputs_of (take k net)) k vs g r earlier (λ e. sym (given_at a 0 net k d within e ∙ ap (λ p. a (suc p)) none)) own
          ∙ sym (value_at inputs net k d within r))
    ]

-- where the first nodes' variables have the nodes' values, each gate's clauses are true
consistent_at : (net : List Gate) (a : ℕ → Bool) (inputs : List Bool) → IsNet net → Agrees net inputs a
    → (k : ℕ) (d : Gate) → k < length net → consistent a (0 + k) (get_or net k d) ≡ true
consistent_at net a inputs is agrees k d h =
    let none : k ≡ 0 + k = omega arith in
    let g = get_or net k d in
    let vs = values_of inputs net in
    let r = is.earlier k d h in
    let earlier : (j : ℕ) → j < k → a (suc j) ≡ get_or vs j false = λ j i. agrees (record { place = j }) (omega arith) in
    subst (λ p. consistent a p g ≡ true) none
    (holds-gate a inputs (inputs_of (take k net)) k vs g r earlier (agrees (record { place = k }) h ∙ value_at inputs net k d h r))

-- the clauses of a net and its root
abbrev pub all_clauses : List Gate → Node → List (List ℤ)
all_clauses net root = clauses_from 0 net ++ clause_of_one (Is root) ∷ []

-- the clauses are whole where all gates were passed
pub finished : (net : List Gate) (root : Node) (k : ℕ) (front whole : List (List ℤ)) → length net ≤ k
    → front ≡ clauses_from 0 (take k net) → whole ≡ front ++ clause_of_one (Is root) ∷ [] → whole ≡ all_clauses net root
finished net root k front whole h f w =
    w ∙ ap (λ fs. fs ++ clause_of_one (Is root) ∷ []) (f ∙ ap (clauses_from 0) (take_all k net h))

pub all-few : (net : List Gate) (root : Node) → length (all_clauses net root) ≤ 4 * length net + 1
all-few net root = omega (arith, length_push (clauses_from 0 net) (clause_of_one (Is root)), clauses-few 0 net)

pub all-named : (net : List Gate) (root : Node) → IsNet net → IsNode net root
    → All (NamesWithin (length net)) (all_clauses net root)
all-named net root is h =
    All-push (NamesWithin (length net)) (clauses_from 0 net) (clause_of_one (Is root))
    (clauses-names (length net) 0 net (omega arith) (λ k d i. let e : k ≡ 0 + k = omega arith in subst (λ p. Refers p (get_or net k d)) e (is.earlier k d i)))
    (names-one (length net) (Is root) h)

one-true : (v : Bool) → ((v || false) && true) ≡ v
one-true v = grind arith

pub extends_from_holds : (net : List Gate) (root : Node) (a : ℕ → Bool) → IsNet net → IsNode net root
    → Holds (all_clauses net root) a → Extends net root a
extends_from_holds net root a is within h =
    let front = clauses_from 0 net in
    let last = clause_of_one (Is root) ∷ [] in
    let parts = and_parts _ _ (sym (list_all-append (is_true a) front last) ∙ list_all-from_AllPass (is_true a) (front ++ last) h) in
    let agrees : Agrees net (given a net) a = λ n i. agrees_below net a is (each-consistent a 0 net parts.0) (length net) n.place (omega arith) i in
    (sym (agrees root within) ∙ sym (one-true (a (suc root.place))) ∙ parts.1, agrees)

pub holds_from_extends : (net : List Gate) (root : Node) (a : ℕ → Bool) → IsNet net → IsNode net root
    → Extends net root a → Holds (all_clauses net root) a
holds_from_extends net root a is within e =
    let front = clauses_from 0 net in
    let last = clause_of_one (Is root) ∷ [] in
    AllPass-from_list_all (is_true a) (front ++ last)
    (list_all-append (is_true a) front last
    ∙ and_from _ _ (all-consistent a 0 net (consistent_at net a (given a net) is e.1))
    (one-true (a (suc root.place)) ∙ e.1 root within ∙ e.0))

-- the values of all nodes, as an assignment, give the inputs their values
given-values : (net : List Gate) (inputs : List Bool) → IsNet net → length inputs ≡ inputs_of net
    → given (listed (values_of inputs net)) net ≡ inputs
given-values net inputs is size =
    let a = listed (values_of inputs net) in
    ext_get_or false (given a net) inputs (length-given a 0 net ∙ sym size) (λ i h.
    let p = input_place net i (omega (arith, length-given a 0 net)) in
    let k = p.0 in
    let none : 0 + k ≡ k = omega arith in
    let e = p.2 no_gate in
    let r = is.earlier k no_gate p.1 in
    ap (λ n. get_or (given a net) n false) (sym p.3)
    ∙ given_at a 0 net k no_gate p.1 e
    ∙ ap (λ q. a (suc q)) none
    ∙ value_at inputs net k no_gate p.1 r
    ∙ ap (gate_value inputs (inputs_of (take k net)) (values_of inputs net)) e
    ∙ ap (λ n. get_or inputs n false) p.3)

pub stands_for : (net : List Gate) (root : Node) (clauses : List (List ℤ)) → IsNet net → IsNode net root
    → clauses ≡ all_clauses net root → StandsFor net root clauses
stands_for net root clauses is within same =
    let one : (a : ℕ → Bool) → Extends net root a → Holds clauses a = λ a e. subst (λ f. Holds f a) (sym same) (holds_from_extends net root a is within e) in
    record {
      exact = λ a. (λ h. extends_from_holds net root a is within (subst (λ f. Holds f a) same h), one a);
      extended = λ inputs size is_root.
          let a = listed (values_of inputs net) in
          let e = given-values net inputs is size in
          (a, e, one a (subst (λ xs. (node_value net xs root ≡ true) × Agrees net xs a) (sym e) (is_root, λ n i. refl)));
    }
