-- How nets continue and grow.
use Rattle.std.proofs.Common.{◌≡◌, ◌<◌, ◌≤◌, ◌+◌, ◌*◌, ℕ, Bool, List, [], ◌∷◌, ◌++◌, length, sym, ap, ◌∙◌, arith, append_assoc, length-append, not, Result, Ok, Err, IfOk, OnOk, OnErr}
use Rattle.std.specs.List.{All}
use Rattle.std.proofs.lemmas.List.{append-nil, length_push}
use Rattle.std.proofs.lemmas.List.Elements.{All-push, All-same, All-weaker}
use Rattle.std.proofs.lemmas.Nat.{mul-le}
use Rattle.gate_net.specs.Net.{applied, Always, one_if_input, inputs_of, node_value, IsNode, Continues, KeepsValues, Grows}
use Rattle.gate_net.proofs.Values.{inputs_of-append, node_value-kept, newest_is, not-value, binary-value}
use Rattle.gate_net.specs.declared.node.Node.{Node}
use Rattle.gate_net.specs.declared.gate.Operator.{Operator}
use Rattle.gate_net.specs.declared.gate.Gate.{Gate}
use Rattle.gate_net.specs.declared.gate.Gate.TheVariants.{Not, Binary}

pub continues-same : (net after : List Gate) → after ≡ net → Continues net after
continues-same net after e = record { added = []; gates = e ∙ sym (append-nil net) }

pub continues-then : (first second third : List Gate) → Continues first second → Continues second third
    → Continues first third
continues-then first second third f g = record {
  added = f.added ++ g.added;
  gates = g.gates ∙ ap (λ x. x ++ g.added) f.gates ∙ append_assoc first f.added g.added;
}

-- a node stays one, and keeps its value
pub stays : (net after : List Gate) (n : Node) → Continues net after → IsNode net n → IsNode after n
stays net after n f h = omega (arith, ap length f.gates, length-append net f.added)

pub keeps : (net after : List Gate) → Continues net after → KeepsValues net after
keeps net after f = λ n h inputs. ap (λ x. node_value x inputs n) f.gates ∙ node_value-kept net f.added inputs n h

pub grows-same : (most : ℕ) (net after : List Gate) → after ≡ net → Grows most net after
grows-same most net after e =
    let f = continues-same net after e in
    record { begins = f; kept = keeps net after f; at_least = omega (arith, ap length e); few = omega (arith, ap length e); inputs = ap inputs_of e }

pub grows-push : (net after : List Gate) (g : Gate) → after ≡ net ++ g ∷ [] → one_if_input g ≡ 0 → Grows 1 net after
grows-push net after g e none =
    let f : Continues net after = record { added = g ∷ []; gates = e } in
    record {
      begins = f;
      kept = keeps net after f;
      at_least = omega (arith, ap length e, length-append net (g ∷ []));
      few = omega (arith, ap length e, length-append net (g ∷ []));
      inputs = omega (arith, ap inputs_of e, inputs_of-append net (g ∷ []));
    }

-- what always holds in a net always holds in a net that continues it
pub always-on : (net after : List Gate) (fact : (Node → Bool) → Type 0) → Continues net after → Always net fact
    → Always after fact
always-on net after fact f h = λ later g inputs. h later (continues-then net after later f g) inputs

-- what is true of one, two or three nodes' values in a net always is
pub always-one : (net : List Gate) (n : Node) (x : Bool) → IsNode net n
    → ((inputs : List Bool) → node_value net inputs n ≡ x) → Always net (λ value. value n ≡ x)
always-one net n x h now = λ later f inputs. keeps net later f n h inputs ∙ now inputs

pub always-two : (net : List Gate) (n a : Node) (x : Bool → Bool) → IsNode net n → IsNode net a
    → ((inputs : List Bool) → node_value net inputs n ≡ x (node_value net inputs a))
    → Always net (λ value. value n ≡ x (value a))
always-two net n a x h k now = λ later f inputs. keeps net later f n h inputs ∙ now inputs ∙ ap x (sym (keeps net later f a k inputs))

pub always-three : (net : List Gate) (n a b : Node) (x : Bool → Bool → Bool) → IsNode net n → IsNode net a
    → IsNode net b
    → ((inputs : List Bool) → node_value net inputs n ≡ x (node_value net inputs a) (node_value net inputs b))
    → Always net (λ value. value n ≡ x (value a) (value b))
always-three net n a b x h k l now = λ later f inputs.
    keeps net later f n h inputs ∙ now inputs ∙ ap (λ v. x v (node_value net inputs b)) (sym (keeps net later f a k inputs)) ∙ ap (λ v. x (node_value later inputs a) v) (sym (keeps net later f b l inputs))

-- what a call that appends one gate gives, whether it fails or not
pub grows-result : {N E : Type 0} (r : Result N E) (net after : List Gate) (g : Gate) → OnOk r (after ≡ net ++ g ∷ [])
    → OnErr r (after ≡ net) → one_if_input g ≡ 0 → Grows 1 net after
grows-result (Ok n) net after g ok err none = grows-push net after g ok none
grows-result (Err x) net after g ok err none = grows-same 1 net after err

pub continues-result : {N E : Type 0} (r : Result N E) (net after : List Gate) (g : Gate)
    → OnOk r (after ≡ net ++ g ∷ []) → OnErr r (after ≡ net) → Continues net after
continues-result (Ok n) net after g ok err = record { added = g ∷ []; gates = ok }
continues-result (Err x) net after g ok err = continues-same net after err

pub not-result : {E : Type 0} (r : Result Node E) (net after : List Gate) (a : Node)
    → OnOk r (after ≡ net ++ Not a ∷ []) → IfOk r (λ n. n.place ≡ length net) → IsNode net a
    → IfOk r (λ n. Always after (λ value. value n ≡ not (value a)))
not-result (Ok n) net after a e place h =
    always-two after n a not (newest_is net after (Not a) n e place) (stays net after a (record { added = Not a ∷ []; gates = e }) h) (not-value net after a n e h place)
not-result (Err x) net after a e place h = tt

pub binary-result : (operator : Operator) {E : Type 0} (r : Result Node E) (net after : List Gate) (a b : Node)
    → OnOk r (after ≡ net ++ Binary operator a b ∷ []) → IfOk r (λ n. n.place ≡ length net) → IsNode net a
    → IsNode net b → IfOk r (λ n. Always after (λ value. value n ≡ applied operator (value a) (value b)))
binary-result operator (Ok n) net after a b e place h k =
    let f : Continues net after = record { added = Binary operator a b ∷ []; gates = e } in
    always-three after n a b (applied operator) (newest_is net after (Binary operator a b) n e place) (stays net after a f h) (stays net after b f k) (binary-value operator net after a b n e h k place)
binary-result operator (Err x) net after a b e place h k = tt

pub grows_chain : (most more sum : ℕ) (first second third : List Gate) → Grows most first second
    → Grows more second third → most + more ≤ sum → Grows sum first third
grows_chain most more sum first second third f g h =
    let both = continues-then first second third f.begins g.begins in
    record { begins = both; kept = keeps first third both; at_least = omega (arith, f.at_least, g.at_least); few = omega (arith, f.few, g.few); inputs = g.inputs ∙ f.inputs }

-- one more node, where the net has grown meanwhile
pub nodes-push : (net after : List Gate) (done pushed : List Node) (n : Node) → pushed ≡ done ++ n ∷ []
    → Continues net after → All (IsNode net) done → IsNode after n → All (IsNode after) pushed
nodes-push net after done pushed n e f all h =
    All-same (IsNode after) pushed (done ++ n ∷ []) e (All-push (IsNode after) done n (All-weaker (IsNode net) (IsNode after) (λ m. stays net after m f) done all) h)

pub size-push : {X : Type 0} (done pushed : List X) (n : X) (i : ℕ) → pushed ≡ done ++ n ∷ [] → length done ≡ i
    → length pushed ≡ i + 1
size-push done pushed n i e size = ap length e ∙ length_push done n ∙ ap (λ k. k + 1) size

-- turns of a loop
pub turn_more : (w i : ℕ) → w * (i + 1) ≡ w * i + w
turn_more w i = grind arith

pub turn : (w i n : ℕ) → i < n → w * i + w ≤ w * n
turn w i n h =
    let f : w * (i + 1) ≤ w * n = mul-le w (i + 1) w n (omega arith) (omega arith) in
    omega (arith, turn_more w i)

pub if-ok : {E V : Type 0} (r : Result V E) {P Q : V → Type 0} → ((v : V) → P v → Q v) → IfOk r P → IfOk r Q
if-ok (Ok v) f h = f v h
if-ok (Err x) f h = tt
