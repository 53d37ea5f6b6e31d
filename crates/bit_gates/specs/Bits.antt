-- Bits in a net.
use Rattle.std.specs.Prelude.{◌≤◌, ◌≡◌, ℤ, unsigned_abs, Bool, List, length, map}
use Rattle.std.specs.List.{All}
use Rattle.gate_net.specs.Net.{IsNode, Always}
use Rattle.gate_net.specs.declared.gate.Gate.{Gate}
use Rattle.gate_net.specs.declared.node.Node.{Node}
use Rattle.bit_gates.specs.Whole.{whole, width_of}
use Rattle.bit_gates.specs.declared.bits.Bits.{Bits}

-- the number that bits mean where the nodes have these values
abbrev pub number : (Node → Bool) → Bits → ℤ
number value bits = whole (map value bits.nodes.items)

-- the bits are nodes of the net, their width is that of the bound, and the number is always within the bound
pub record IsBits (net : List Gate) (bits : Bits) : Type 0 where
  pub nodes : All (IsNode net) bits.nodes.items
  pub width : length bits.nodes.items ≡ width_of bits.most
  pub within : Always net (λ value. unsigned_abs (number value bits) ≤ bits.most)
