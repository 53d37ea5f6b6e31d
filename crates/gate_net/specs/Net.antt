-- Nets: what a net's nodes are worth under values of its inputs, and how a net grows.
use Rattle.std.specs.Prelude.{ℕ, zero, suc, ◌+◌, ◌<◌, ◌≤◌, ◌^◌, ◌≡◌, ◌≢◌, Bool, true, false, not, ◌&&◌, ◌||◌, List, [], ◌∷◌, ◌++◌, length, slice_index_or}
use Rattle.std.specs.Bool.{beq}
use Rattle.gate_net.specs.declared.node.Node.{Node}
use Rattle.gate_net.specs.declared.gate.Operator.{Operator}
use Rattle.gate_net.specs.declared.gate.Operator.TheVariants.{And, Or, Xor}
use Rattle.gate_net.specs.declared.gate.Gate.{Gate}
use Rattle.gate_net.specs.declared.gate.Gate.TheVariants.{Constant, Input, Not, Binary}

-- exactly one of the two is true
abbrev pub differ : Bool → Bool → Bool
differ x y = not (beq x y)

-- the value of an operator at its operands
abbrev pub applied : Operator → Bool → Bool → Bool
applied And x y = x && y
applied Or x y = x || y
applied Xor x y = differ x y

-- the value of a node among the values of all nodes
abbrev pub at : List Bool → Node → Bool
at values n = slice_index_or values n.place false

-- the value of a gate, where the next input has a number and the nodes before the gate have values
abbrev pub gate_value : List Bool → ℕ → List Bool → Gate → Bool
gate_value inputs next values (Constant b) = b
gate_value inputs next values Input = slice_index_or inputs next false
gate_value inputs next values (Not a) = not (at values a)
gate_value inputs next values (Binary operator a b) = applied operator (at values a) (at values b)

-- 1 for an input, and 0 for every other gate
abbrev pub one_if_input : Gate → ℕ
one_if_input Input = 1
one_if_input (Constant b) = 0
one_if_input (Not a) = 0
one_if_input (Binary operator a b) = 0

-- the values of the nodes so far, and those of further gates
abbrev pub values_after : List Bool → ℕ → List Bool → List Gate → List Bool
values_after inputs next values [] = values
values_after inputs next values (g ∷ gates) =
    values_after inputs (next + one_if_input g) (values ++ gate_value inputs next values g ∷ []) gates

-- the values of all nodes, from values of the inputs in the order in which these were made
abbrev pub values_of : List Bool → List Gate → List Bool
values_of inputs net = values_after inputs 0 [] net

-- how many inputs the net has
abbrev pub inputs_of : List Gate → ℕ
inputs_of [] = 0
inputs_of (g ∷ net) = one_if_input g + inputs_of net

-- how many nodes the net has
abbrev pub nodes_of : List Gate → ℕ
nodes_of net = length net

-- the value of a node of the net under values of its inputs
abbrev pub node_value : List Gate → List Bool → Node → Bool
node_value net inputs n = at (values_of inputs net) n

-- the node is one of the net's
abbrev pub IsNode : List Gate → Node → Type 0
IsNode net n = n.place < length net

-- the gate names only nodes before a place, and never one node twice
abbrev pub Refers : ℕ → Gate → Type 0
Refers place (Constant b) = Unit {0}
Refers place Input = Unit {0}
Refers place (Not a) = a.place < place
Refers place (Binary operator a b) = (a.place < place) × (b.place < place) × (a.place ≢ b.place)

-- the list is a net: first the two constants, then gates over earlier nodes
pub record IsNet (net : List Gate) : Type 0 where
  pub others : List Gate
  pub constants : net ≡ Constant false ∷ Constant true ∷ others
  pub few : length net ≤ 2 ^ 28
  pub earlier : (k : ℕ) (g : Gate) → k < length net → Refers k (slice_index_or net k g)

-- the later net begins with the nodes of the earlier one
pub record Continues (before after : List Gate) : Type 0 where
  pub added : List Gate
  pub gates : after ≡ before ++ added

-- each node of the earlier net has the same value in the later one
abbrev pub KeepsValues : List Gate → List Gate → Type 0
KeepsValues before after =
    (n : Node) → IsNode before n → (inputs : List Bool) → node_value after inputs n ≡ node_value before inputs n

-- the net kept its nodes and their values, and has at most that many new ones, none of them an input
pub record Grows (most : ℕ) (before after : List Gate) : Type 0 where
  pub begins : Continues before after
  pub kept : KeepsValues before after
  pub at_least : nodes_of before ≤ nodes_of after
  pub few : nodes_of after ≤ nodes_of before + most
  pub inputs : inputs_of after ≡ inputs_of before

-- the fact holds of the nodes' values in the net and in each net that continues it, whatever the inputs' values
abbrev pub Always : List Gate → ((Node → Bool) → Type 0) → Type 0
Always net fact = (later : List Gate) → Continues net later → (inputs : List Bool) → fact (node_value later inputs)
