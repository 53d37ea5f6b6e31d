-- Internal: how sums and differences are made digit by digit.
use Rattle.std.specs.Prelude.{ℕ, ◌+◌, ◌-◌, ◌*◌, ◌≡◌, ◌≢◌, ℤ, ◌+ℤ◌, ◌-ℤ◌, Bool, true, false, List, ◌++◌, length, take, replicate, slice_index_or}
use Rattle.gate_net.specs.declared.node.Node.{Node}
use Rattle.bit_gates.specs.Whole.{bit}
use Rattle.bit_gates.specs.declared.digits.Rule.{Rule}
use Rattle.bit_gates.specs.declared.digits.Rule.TheVariants.{Sum, Difference}

-- a digit and a carry of x and y with the carry before
abbrev pub IsStep : Rule → Bool → Bool → Bool → Bool → Bool → Type 0
IsStep Sum x y before digit carry = bit digit + 2 * bit carry ≡ bit x + bit y + bit before
IsStep Difference x y before digit carry = bit digit + bit y + bit before ≡ bit x + 2 * bit carry

-- s is the join of u and v, but for a carry of this worth
abbrev pub IsJoin : Rule → ℕ → ℕ → ℕ → ℕ → Type 0
IsJoin Sum u v s carried = s + carried ≡ u + v
IsJoin Difference u v s borrowed = s + v ≡ u + borrowed

-- the sum or the difference
abbrev pub joined_number : Rule → ℤ → ℤ → ℤ
joined_number Sum x y = x +ℤ y
joined_number Difference x y = x -ℤ y

-- the last of the nodes
abbrev pub last_of : List Node → Node
last_of nodes = slice_index_or nodes (length nodes - 1) (record { place = 0 })

-- the nodes cut to a width, or with the last one repeated up to it
abbrev pub resized_to : List Node → ℕ → List Node
resized_to nodes width = take width nodes ++ replicate (width - length nodes) (last_of nodes)

-- s is 0 less v, where a digit p may be borrowed
abbrev pub IsNegation : ℕ → ℕ → ℕ → Type 0
IsNegation v s p = (borrowed : Bool) × (s + v ≡ bit borrowed * p)

-- whether u and v differ
pub record Differs (differ : Bool) (u v : ℕ) : Type 0 where
  pub same : differ ≡ false → u ≡ v
  pub apart : differ ≡ true → u ≢ v
