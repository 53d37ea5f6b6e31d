-- The values of a net that grows.
use Rattle.std.proofs.Common.{◌≡◌, ◌<◌, ◌≤◌, ◌+◌, ℕ, Bool, true, false, not, List, [], ◌∷◌, ◌++◌, length, get_or, refl, sym, ap, ◌∙◌, arith, add-zero, Result, Ok, Err, IfOk, OnOk, take, drop}
use Rattle.std.proofs.lemmas.List.{get_or_append_left, get_or_push, length_push, take_more, take-append-drop, length-take-le}
use Rattle.std.specs.Prelude.{slice_index_or}
use mir.Val.{bool_byte}
use Rattle.gate_net.specs.Net.{applied, at, gate_value, one_if_input, values_after, values_of, inputs_of, node_value, IsNode, IsNet}
use Rattle.gate_net.specs.declared.node.Node.{Node}
use Rattle.gate_net.specs.declared.gate.Operator.{Operator}
use Rattle.gate_net.specs.declared.gate.Gate.{Gate}
use Rattle.gate_net.specs.declared.gate.Gate.TheVariants.{Constant, Input, Not, Binary}

pub inputs_of-append : (xs ys : List Gate) → inputs_of (xs ++ ys) ≡ inputs_of xs + inputs_of ys
inputs_of-append [] ys = omega arith
inputs_of-append (g ∷ xs) ys = omega (arith, inputs_of-append xs ys)

pub values-append : (inputs : List Bool) (next : ℕ) (values : List Bool) (xs ys : List Gate)
    → values_after inputs next values (xs ++ ys)
    ≡ values_after inputs (next + inputs_of xs) (values_after inputs next values xs) ys
values-append inputs next values [] ys = rw (add-zero next) refl
values-append inputs next values (g ∷ xs) ys =
    let e : next + (one_if_input g + inputs_of xs) ≡ next + one_if_input g + inputs_of xs = omega arith in
    rw e (values-append inputs (next + one_if_input g) (values ++ gate_value inputs next values g ∷ []) xs ys)

pub length-values : (inputs : List Bool) (next : ℕ) (values : List Bool) (xs : List Gate)
    → length (values_after inputs next values xs) ≡ length values + length xs
length-values inputs next values [] = omega arith
length-values inputs next values (g ∷ xs) =
    omega (arith, length-values inputs (next + one_if_input g) (values ++ gate_value inputs next values g ∷ []) xs, length_push values (gate_value inputs next values g))

pub length-values_of : (inputs : List Bool) (net : List Gate) → length (values_of inputs net) ≡ length net
length-values_of inputs net = omega (arith, length-values inputs 0 [] net)

-- further gates leave the values of the nodes so far
pub values-kept : (inputs : List Bool) (next : ℕ) (values : List Bool) (xs : List Gate) (k : ℕ) → k < length values
    → get_or (values_after inputs next values xs) k false ≡ get_or values k false
values-kept inputs next values [] k h = refl
values-kept inputs next values (g ∷ xs) k h =
    let v = gate_value inputs next values g in
    let more : k < length (values ++ v ∷ []) = omega (arith, length_push values v) in
    values-kept inputs (next + one_if_input g) (values ++ v ∷ []) xs k more ∙ get_or_append_left values (v ∷ []) false k h

pub node_value-kept : (net added : List Gate) (inputs : List Bool) (n : Node) → IsNode net n
    → node_value (net ++ added) inputs n ≡ node_value net inputs n
node_value-kept net added inputs n h =
    let within : n.place < length (values_of inputs net) = omega (arith, length-values_of inputs net) in
    ap (λ vs. get_or vs n.place false) (values-append inputs 0 [] net added) ∙ values-kept inputs (0 + inputs_of net) (values_of inputs net) added n.place within

-- the values after one more gate
pub values-push : (inputs : List Bool) (net : List Gate) (g : Gate)
    → values_of inputs (net ++ g ∷ [])
    ≡ values_of inputs net ++ gate_value inputs (inputs_of net) (values_of inputs net) g ∷ []
values-push inputs net g =
    let e : 0 + inputs_of net ≡ inputs_of net = omega arith in
    values-append inputs 0 [] net (g ∷ []) ∙ ap (λ next. values_of inputs net ++ gate_value inputs next (values_of inputs net) g ∷ []) e

-- the value of the newest node
pub newest : (net after : List Gate) (g : Gate) (n : Node) (inputs : List Bool) → after ≡ net ++ g ∷ []
    → n.place ≡ length net → node_value after inputs n ≡ gate_value inputs (inputs_of net) (values_of inputs net) g
newest net after g n inputs e place =
    let at_end : length (values_of inputs net) ≡ n.place = omega (arith, length-values_of inputs net) in
    ap (λ x. node_value x inputs n) e ∙ ap (λ vs. at vs n) (values-push inputs net g) ∙ get_or_push (values_of inputs net) (gate_value inputs (inputs_of net) (values_of inputs net) g) false n.place at_end

-- the value of an earlier node, one gate before
pub one_before : (net after : List Gate) (g : Gate) (a : Node) (inputs : List Bool) → after ≡ net ++ g ∷ []
    → IsNode net a → at (values_of inputs net) a ≡ node_value after inputs a
one_before net after g a inputs e h = sym (node_value-kept net (g ∷ []) inputs a h) ∙ ap (λ x. node_value x inputs a) (sym e)

pub not-value : (net after : List Gate) (a n : Node) → after ≡ net ++ Not a ∷ [] → IsNode net a → n.place ≡ length net
    → (inputs : List Bool) → node_value after inputs n ≡ not (node_value after inputs a)
not-value net after a n e h place inputs = newest net after (Not a) n inputs e place ∙ ap not (one_before net after (Not a) a inputs e h)

pub binary-value : (operator : Operator) (net after : List Gate) (a b n : Node)
    → after ≡ net ++ Binary operator a b ∷ [] → IsNode net a → IsNode net b → n.place ≡ length net
    → (inputs : List Bool)
    → node_value after inputs n ≡ applied operator (node_value after inputs a) (node_value after inputs b)
binary-value operator net after a b n e h k place inputs =
    let g = Binary operator a b in
    newest net after g n inputs e place
    ∙ ap (λ x. applied operator x (at (values_of inputs net) b)) (one_before net after g a inputs e h)
    ∙ ap (λ y. applied operator (node_value after inputs a) y) (one_before net after g b inputs e k)

pub newest_is : (net after : List Gate) (g : Gate) (n : Node) → after ≡ net ++ g ∷ [] → n.place ≡ length net
    → IsNode after n
newest_is net after g n e place = omega (arith, ap length e, length_push net g)

pub constant_place : (value : Bool) (n : Node) (inputs : List Bool) → n.place ≡ bool_byte value
    → node_value (Constant false ∷ Constant true ∷ []) inputs n ≡ value
constant_place value n inputs e = grind arith

pub constant_within : (value : Bool) (n : Node) → n.place ≡ bool_byte value → n.place < 2
constant_within value n e = grind arith

-- the two constants keep their places
pub constant-value : (net : List Gate) (value : Bool) (n : Node) → IsNet net → n.place ≡ bool_byte value
    → (inputs : List Bool) → node_value net inputs n ≡ value
constant-value net value n is place inputs =
    let front = Constant false ∷ Constant true ∷ [] in
    ap (λ x. node_value x inputs n) is.constants ∙ node_value-kept front is.others inputs n (constant_within value n place) ∙ constant_place value n inputs place

pub input-result : {E : Type 0} (r : Result Node E) (net after : List Gate) → OnOk r (after ≡ net ++ Input ∷ [])
    → IfOk r (λ n. n.place ≡ length net)
    → IfOk r (λ n. (inputs : List Bool) → node_value after inputs n ≡ slice_index_or inputs (inputs_of net) false)
input-result (Ok n) net after e place = λ inputs. newest net after Input n inputs e place
input-result (Err x) net after e place = tt

pub input-count : {E : Type 0} (r : Result Node E) (net after : List Gate) → OnOk r (after ≡ net ++ Input ∷ [])
    → OnOk r (inputs_of after ≡ inputs_of net + 1)
input-count (Ok n) net after e = ap inputs_of e ∙ inputs_of-append net (Input ∷ [])
input-count (Err x) net after e = tt

-- the first gates of a net, one by one
pub inputs_of-more : (net : List Gate) (k : ℕ) (d : Gate) → k < length net
    → inputs_of (take (k + 1) net) ≡ inputs_of (take k net) + one_if_input (get_or net k d)
inputs_of-more net k d h = ap inputs_of (take_more net k d h) ∙ inputs_of-append (take k net) (get_or net k d ∷ []) ∙ omega arith

pub inputs_of-front : (net : List Gate) (k : ℕ) → inputs_of (take k net) ≤ inputs_of net
inputs_of-front net k = omega (arith, ap inputs_of (take-append-drop k net), inputs_of-append (take k net) (drop k net))

pub values-more : (inputs : List Bool) (net : List Gate) (k : ℕ) (d : Gate) → k < length net
    → values_of inputs (take (k + 1) net)
    ≡ values_of inputs (take k net)
    ++ gate_value inputs (inputs_of (take k net)) (values_of inputs (take k net)) (get_or net k d) ∷ []
values-more inputs net k d h = ap (values_of inputs) (take_more net k d h) ∙ values-push inputs (take k net) (get_or net k d)

pub length-values_front : (inputs : List Bool) (net : List Gate) (k : ℕ) → k ≤ length net
    → length (values_of inputs (take k net)) ≡ k
length-values_front inputs net k h = length-values_of inputs (take k net) ∙ length-take-le k net h

pub values-step : (inputs : List Bool) (net : List Gate) (k : ℕ) (d : Gate) (done seen : List Bool) (next : ℕ)
    (v : Bool) → k < length net → done ≡ values_of inputs (take k net) → next ≡ inputs_of (take k net) → seen ≡ done
    → v ≡ gate_value inputs next seen (get_or net k d) → done ++ v ∷ [] ≡ values_of inputs (take (k + 1) net)
values-step inputs net k d done seen next v h a b e w =
    let value : v ≡ gate_value inputs (inputs_of (take k net)) (values_of inputs (take k net)) (get_or net k d) =
    w ∙ ap (λ i. gate_value inputs i seen (get_or net k d)) b ∙ ap (λ vs. gate_value inputs (inputs_of (take k net)) vs (get_or net k d)) (e ∙ a) in
    ap (λ x. done ++ x ∷ []) value ∙ ap (λ vs. vs ++ gate_value inputs (inputs_of (take k net)) (values_of inputs (take k net)) (get_or net k d) ∷ []) a ∙ sym (values-more inputs net k d h)

pub constant_is : (net : List Gate) (value : Bool) (n : Node) → IsNet net → n.place ≡ bool_byte value → IsNode net n
constant_is net value n is place = omega (arith, constant_within value n place, ap length is.constants)
