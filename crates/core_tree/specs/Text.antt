-- Texts are lists of characters.
use Rattle.std.specs.Prelude.{ℕ, List, nat_lt, sum_by, if◌then◌else◌}

-- how many UTF-16 code units a character takes: 1 below 65,536, else 2 (JLS 3.1)
abbrev pub units_of : ℕ → ℕ
units_of c = if nat_lt c 0x1_0000 then 1 else 2

-- how many code units a text has
abbrev pub code_units : List ℕ → ℕ
code_units characters = sum_by units_of characters
