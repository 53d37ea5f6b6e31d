-- Totals of nodes and of numbers.
use Rattle.std.specs.Prelude.{ℕ, ◌+◌, ℤ, pos, ◌+ℤ◌, Bool, List, [], ◌∷◌, length, if◌then◌else◌}
use Rattle.gate_net.specs.Net.{IsNode}
use Rattle.gate_net.specs.declared.gate.Gate.{Gate}
use Rattle.gate_net.specs.declared.node.Node.{Node}
use Rattle.bit_gates.specs.Bits.{IsBits, number}
use Rattle.bit_gates.specs.declared.bits.Bits.{Bits}

-- the node and the bits are the net's
abbrev pub IsPart : List Gate → Node × Bits → Type 0
IsPart net part = IsNode net part.0 × IsBits net part.1

-- how many of the nodes are true
abbrev pub counted : (Node → Bool) → List Node → ℕ
counted value [] = 0
counted value (n ∷ of) = (if value n then 1 else 0) + counted value of

-- the sum of the numbers whose node is true
abbrev pub total : (Node → Bool) → List (Node × Bits) → ℤ
total value [] = pos 0
total value (part ∷ of) = (if value part.0 then number value part.1 else pos 0) +ℤ total value of

-- the sum of all bounds
abbrev pub bounds : List (Node × Bits) → ℕ
bounds [] = 0
bounds (part ∷ of) = part.1.most + bounds of

-- the sum of all widths
abbrev pub widths : List (Node × Bits) → ℕ
widths [] = 0
widths (part ∷ of) = length part.1.nodes.items + widths of
