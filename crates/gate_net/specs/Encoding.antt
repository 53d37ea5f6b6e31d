-- The assignments that extend values of a net's inputs, and, internally, the clauses of each gate.
-- The variable of a node is one more than its place.
use Rattle.std.specs.Prelude.{ℕ, zero, suc, ◌+◌, ◌≤◌, ◌≡◌, ◌↔◌, ℤ, pos, negsuc, Bool, true, false, List, [], ◌∷◌, ◌++◌, length}
use Rattle.clause_form.specs.Clauses.{Holds}
use Rattle.gate_net.specs.Net.{node_value, inputs_of, IsNode}
use Rattle.gate_net.specs.declared.node.Node.{Node}
use Rattle.gate_net.specs.declared.literal.Literal.{Literal}
use Rattle.gate_net.specs.declared.literal.Literal.TheVariants.{Is, IsNot}
use Rattle.gate_net.specs.declared.gate.Operator.{Operator}
use Rattle.gate_net.specs.declared.gate.Operator.TheVariants.{And, Or, Xor}
use Rattle.gate_net.specs.declared.gate.Gate.{Gate}
use Rattle.gate_net.specs.declared.gate.Gate.TheVariants.{Constant, Input, Not, Binary}

-- the variable that stands for a node
abbrev pub variable_of : Node → ℕ
variable_of n = suc n.place

-- the value in front of others, where the gate is an input
abbrev pub with_input : Gate → Bool → List Bool → List Bool
with_input Input value others = value ∷ others
with_input (Constant b) value others = others
with_input (Not x) value others = others
with_input (Binary operator x y) value others = others

-- the values that an assignment gives to the inputs among gates, of which the first has this place
abbrev pub given_from : (ℕ → Bool) → ℕ → List Gate → List Bool
given_from a place [] = []
given_from a place (g ∷ gates) = with_input g (a (suc place)) (given_from a (suc place) gates)

-- the values that an assignment gives to the net's inputs, in the order in which these were made
abbrev pub given : (ℕ → Bool) → List Gate → List Bool
given a net = given_from a 0 net

-- each node's variable has the value that the node has under values of the inputs
abbrev pub Agrees : List Gate → List Bool → (ℕ → Bool) → Type 0
Agrees net inputs a = (n : Node) → IsNode net n → a (variable_of n) ≡ node_value net inputs n

-- the assignment makes the root true, and gives each node's variable its one value
abbrev pub Extends : List Gate → Node → (ℕ → Bool) → Type 0
Extends net root a = (node_value net (given a net) root ≡ true) × Agrees net (given a net) a

-- an assignment satisfies the clauses exactly where its inputs make the root true and each other variable has its one
-- value; and all values of the inputs that make the root true stand in such an assignment
pub record StandsFor (net : List Gate) (root : Node) (clauses : List (List ℤ)) : Type 0 where
  pub exact : (a : ℕ → Bool) → Holds clauses a ↔ Extends net root a
  pub extended : (inputs : List Bool) → length inputs ≡ inputs_of net → node_value net inputs root ≡ true
      → (a : ℕ → Bool) × (given a net ≡ inputs) × Holds clauses a

-- internal: a literal as a number, the node of its variable, and the clauses of gates
abbrev pub number_of : Literal → ℤ
number_of (Is n) = pos (suc n.place)
number_of (IsNot n) = negsuc n.place

abbrev pub place_of : Literal → ℕ
place_of (Is n) = n.place
place_of (IsNot n) = n.place

abbrev pub clause_of_one : Literal → List ℤ
clause_of_one x = number_of x ∷ []

abbrev pub clause_of_two : Literal → Literal → List ℤ
clause_of_two x y = number_of x ∷ number_of y ∷ []

abbrev pub clause_of_three : Literal → Literal → Literal → List ℤ
clause_of_three x y z = number_of x ∷ number_of y ∷ number_of z ∷ []

abbrev pub operator_clauses : Operator → Node → Node → Node → List (List ℤ)
operator_clauses And n x y =
    clause_of_two (IsNot n) (Is x) ∷ clause_of_two (IsNot n) (Is y) ∷ clause_of_three (Is n) (IsNot x) (IsNot y) ∷ []
operator_clauses Or n x y =
    clause_of_two (Is n) (IsNot x) ∷ clause_of_two (Is n) (IsNot y) ∷ clause_of_three (IsNot n) (Is x) (Is y) ∷ []
operator_clauses Xor n x y =
    clause_of_three (IsNot n) (Is x) (Is y) ∷ clause_of_three (IsNot n) (IsNot x) (IsNot y)
    ∷ clause_of_three (Is n) (IsNot x) (Is y) ∷ clause_of_three (Is n) (Is x) (IsNot y) ∷ []

abbrev pub gate_clauses : Node → Gate → List (List ℤ)
gate_clauses n (Constant true) = clause_of_one (Is n) ∷ []
gate_clauses n (Constant false) = clause_of_one (IsNot n) ∷ []
gate_clauses n Input = []
gate_clauses n (Not x) = clause_of_two (Is n) (Is x) ∷ clause_of_two (IsNot n) (IsNot x) ∷ []
gate_clauses n (Binary operator x y) = operator_clauses operator n x y

abbrev pub clauses_from : ℕ → List Gate → List (List ℤ)
clauses_from place [] = []
clauses_from place (g ∷ gates) = gate_clauses (record { place = place }) g ++ clauses_from (suc place) gates
