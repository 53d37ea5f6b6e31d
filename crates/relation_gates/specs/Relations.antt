-- Sets and relations over objects that are numbered from 0.
use Rattle.std.specs.Prelude.{ℕ, zero, suc, ◌<◌, ◌≡◌, IsTrue, Bool, List, [], length, slice_index_or}
use Rattle.std.specs.List.{All}
use Rattle.gate_net.specs.Net.{IsNode}
use Rattle.gate_net.specs.declared.gate.Gate.{Gate}
use Rattle.gate_net.specs.declared.node.Node.{Node}

-- whether the object is a member of the set, where the nodes have these values
abbrev pub member : (Node → Bool) → List Node → ℕ → Bool
member value row x = value (slice_index_or row x (record { place = 0 }))

-- whether an edge of the relation leads from x to y
abbrev pub edge : (Node → Bool) → List (List Node) → ℕ → ℕ → Bool
edge value matrix x y = member value (slice_index_or matrix x []) y

-- the row has a node of the net for each of u objects
pub record IsRow (net : List Gate) (u : ℕ) (row : List Node) : Type 0 where
  pub width : length row ≡ u
  pub nodes : All (IsNode net) row

-- the matrix has such a row for each of u objects
pub record IsMatrix (net : List Gate) (u : ℕ) (matrix : List (List Node)) : Type 0 where
  pub height : length matrix ≡ u
  pub rows : All (IsRow net u) matrix

-- an edge leads from a member of the set to y
abbrev pub IsImage : (Node → Bool) → ℕ → List Node → List (List Node) → ℕ → Type 0
IsImage value u set relation y = (x : ℕ) × (x < u) × IsTrue (member value set x) × IsTrue (edge value relation x y)

-- an edge of the first relation, and then one of the second, lead from x to z
abbrev pub IsJoined : (Node → Bool) → ℕ → List (List Node) → List (List Node) → ℕ → ℕ → Type 0
IsJoined value u first second x z = (y : ℕ) × (y < u) × IsTrue (edge value first x y) × IsTrue (edge value second y z)

-- that many edges, and one more, lead from x to z, by way of objects below a number
abbrev pub Leads : (ℕ → ℕ → Bool) → ℕ → ℕ → ℕ → ℕ → Type 0
Leads edges below zero x z = IsTrue (edges x z)
Leads edges below (suc more) x z = (y : ℕ) × (y < below) × IsTrue (edges x y) × Leads edges below more y z

-- a nonempty list of edges leads from x to z, by way of objects below a number
abbrev pub IsPath : (ℕ → ℕ → Bool) → ℕ → ℕ → ℕ → Type 0
IsPath edges below x z = (more : ℕ) × Leads edges below more x z
