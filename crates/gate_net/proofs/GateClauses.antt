-- The clauses of the gates, one gate after another: how many they are, and which variables they name.
use Rattle.std.proofs.Common.{◌≡◌, ◌<◌, ◌≤◌, ◌+◌, ◌*◌, ℕ, suc, true, false, ℤ, List, [], ◌∷◌, ◌++◌, length, get_or, take, sym, ap, ◌∙◌, arith, subst, append_assoc, add-zero, inl, inr, length-append}
use Rattle.std.specs.Prelude.{unsigned_abs}
use Rattle.std.specs.List.{All}
use Rattle.std.proofs.lemmas.List.{append-nil, take_more, length-take-le}
use Rattle.std.proofs.lemmas.List.Elements.{All-append, All-nil, All-from_recursion}
use Rattle.std.proofs.lemmas.Bool.{or_cases, false≢true}
use Rattle.std.proofs.lemmas.Bool.Decides.{Decides-int_eq}
use Rattle.std.specs.Ordering.{int_eq}
use Rattle.clause_form.specs.Clauses.{has, NamesWithin}
use Rattle.gate_net.specs.Net.{Refers}
use Rattle.gate_net.specs.Encoding.{number_of, place_of, clause_of_one, clause_of_two, clause_of_three, operator_clauses, gate_clauses, clauses_from}
use Rattle.gate_net.specs.declared.node.Node.{Node}
use Rattle.gate_net.specs.declared.literal.Literal.{Literal}
use Rattle.gate_net.specs.declared.literal.Literal.TheVariants.{Is, IsNot}
use Rattle.gate_net.specs.declared.gate.Operator.{Operator}
use Rattle.gate_net.specs.declared.gate.Operator.TheVariants.{And, Or, Xor}
use Rattle.gate_net.specs.declared.gate.Gate.{Gate}
use Rattle.gate_net.specs.declared.gate.Gate.TheVariants.{Constant, Input, Not, Binary}

pub clauses-push : (place : ℕ) (gates : List Gate) (g : Gate)
    → clauses_from place (gates ++ g ∷ [])
    ≡ clauses_from place gates ++ gate_clauses (record { place = place + length gates }) g
clauses-push place [] g =
    append-nil (gate_clauses (record { place = place }) g) ∙ ap (λ p. gate_clauses (record { place = p }) g) (sym (add-zero place))
clauses-push place (h ∷ gates) g =
    let e : suc place + length gates ≡ place + suc (length gates) = omega arith in
    ap (λ x. gate_clauses (record { place = place }) h ++ x) (clauses-push (suc place) gates g)
    ∙ sym (append_assoc (gate_clauses (record { place = place }) h) (clauses_from (suc place) gates) (gate_clauses (record { place = suc place + length gates }) g))
    ∙ ap (λ p. gate_clauses (record { place = place }) h ++ clauses_from (suc place) gates ++ gate_clauses (record { place = p }) g) e

pub clauses-more : (net : List Gate) (k : ℕ) (d : Gate) → k < length net
    → clauses_from 0 (take (k + 1) net)
    ≡ clauses_from 0 (take k net) ++ gate_clauses (record { place = k }) (get_or net k d)
clauses-more net k d h =
    let within : k ≤ length net = omega arith in
    let e : 0 + length (take k net) ≡ k = omega (arith, length-take-le k net within) in
    ap (clauses_from 0) (take_more net k d h) ∙ clauses-push 0 (take k net) (get_or net k d) ∙ ap (λ p. clauses_from 0 (take k net) ++ gate_clauses (record { place = p }) (get_or net k d)) e

gate-few : (n : Node) (g : Gate) → length (gate_clauses n g) ≤ 4
gate-few n g = grind arith

pub clauses-few : (place : ℕ) (gates : List Gate) → length (clauses_from place gates) ≤ 4 * length gates
clauses-few place [] = omega arith
clauses-few place (g ∷ gates) =
    let here = gate_clauses (record { place = place }) g in
    omega (arith, length-append here (clauses_from (suc place) gates), gate-few (record { place = place }) g, clauses-few (suc place) gates)

-- the variables of a clause
names-nil : (m : ℕ) → NamesWithin m []
names-nil m = λ l h. absurd (false≢true h)

names-cons : (m : ℕ) (k : ℤ) (c : List ℤ) → unsigned_abs k ≤ m → NamesWithin m c → NamesWithin m (k ∷ c)
names-cons m k c h rest = λ l t. elim (or_cases (int_eq k l) (has l c) t) [
  | inl e ↦ subst (λ z. unsigned_abs z ≤ m) ((Decides-int_eq k l).0 e) h
  | inr u ↦ rest l u
]

names-number : (m : ℕ) (x : Literal) → place_of x < m → unsigned_abs (number_of x) ≤ m
names-number m (Is n) h = omega arith
names-number m (IsNot n) h = omega arith

pub names-one : (m : ℕ) (x : Literal) → place_of x < m → NamesWithin m (clause_of_one x)
names-one m x h = names-cons m (number_of x) [] (names-number m x h) (names-nil m)

names-two : (m : ℕ) (x y : Literal) → place_of x < m → place_of y < m → NamesWithin m (clause_of_two x y)
names-two m x y h k = names-cons m (number_of x) (clause_of_one y) (names-number m x h) (names-one m y k)

names-three : (m : ℕ) (x y z : Literal) → place_of x < m → place_of y < m → place_of z < m
    → NamesWithin m (clause_of_three x y z)
names-three m x y z h k l = names-cons m (number_of x) (clause_of_two y z) (names-number m x h) (names-two m y z k l)

operator-names : (m : ℕ) (operator : Operator) (n x y : Node) → n.place < m → x.place < m → y.place < m
    → All (NamesWithin m) (operator_clauses operator n x y)
operator-names m And n x y h k l =
    All-from_recursion (NamesWithin m) (operator_clauses And n x y) (names-two m (IsNot n) (Is x) h k, (names-two m (IsNot n) (Is y) h l, (names-three m (Is n) (IsNot x) (IsNot y) h k l, tt)))
operator-names m Or n x y h k l =
    All-from_recursion (NamesWithin m) (operator_clauses Or n x y) (names-two m (Is n) (IsNot x) h k, (names-two m (Is n) (IsNot y) h l, (names-three m (IsNot n) (Is x) (Is y) h k l, tt)))
operator-names m Xor n x y h k l =
    All-from_recursion (NamesWithin m) (operator_clauses Xor n x y) (names-three m (IsNot n) (Is x) (Is y) h k l, (names-three m (IsNot n) (IsNot x) (IsNot y) h k l, (names-three m (Is n) (IsNot x) (Is y) h k l, (names-three m (Is n) (Is x) (IsNot y) h k l, tt))))

gate-names : (m : ℕ) (n : Node) (g : Gate) → n.place < m → Refers n.place g → All (NamesWithin m) (gate_clauses n g)
gate-names m n (Constant true) h r = All-from_recursion (NamesWithin m) (gate_clauses n (Constant true)) (names-one m (Is n) h, tt)
gate-names m n (Constant false) h r = All-from_recursion (NamesWithin m) (gate_clauses n (Constant false)) (names-one m (IsNot n) h, tt)
gate-names m n Input h r = All-nil (NamesWithin m)
gate-names m n (Not x) h r =
    let k : x.place < m = omega arith in
    All-from_recursion (NamesWithin m) (gate_clauses n (Not x)) (names-two m (Is n) (Is x) h k, (names-two m (IsNot n) (IsNot x) h k, tt))
gate-names m n (Binary operator x y) h r =
    let k : x.place < m = omega (arith, r.0) in
    let l : y.place < m = omega (arith, r.1) in
    operator-names m operator n x y h k l

pub clauses-names : (m place : ℕ) (gates : List Gate) → place + length gates ≤ m
    → ((k : ℕ) (d : Gate) → k < length gates → Refers (place + k) (get_or gates k d))
    → All (NamesWithin m) (clauses_from place gates)
clauses-names m place [] h r = All-nil (NamesWithin m)
clauses-names m place (g ∷ gates) h r =
    let here : place < m = omega arith in
    let none : place + 0 ≡ place = omega arith in
    let first : Refers place g = subst (λ p. Refers p g) none (r 0 g (omega arith)) in
    let rest : suc place + length gates ≤ m = omega arith in
    All-append (NamesWithin m) (gate_clauses (record { place = place }) g) (clauses_from (suc place) gates)
    (gate-names m (record { place = place }) g here first)
    (clauses-names m (suc place) gates rest (λ k d i.
    let e : place + suc k ≡ suc place + k = omega arith in
    let j : suc k < suc (length gates) = omega arith in
    subst (λ p. Refers p (get_or gates k d)) e (r (suc k) d j)))
