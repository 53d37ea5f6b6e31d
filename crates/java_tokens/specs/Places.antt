-- Where a character stands, by what stands in front of it.
use Rattle.std.specs.Prelude.{ℕ, Bool, ◌+◌, not, ◌&&◌, ◌||◌, ◌==◌, List, [], ◌∷◌, length, reverse, encode_utf8_all, if◌then◌else◌}
use Rattle.std.specs.List.{prefix_len}
use Rattle.java_tokens.specs.Characters.{is_in_line}

-- how many bytes stand in front
abbrev pub offset : List ℕ → ℕ
offset front = length (encode_utf8_all front)

-- a character ends a line that hasn't ended: a carriage return, or a line feed but for one directly after a carriage
-- return, with which it is one end (JLS 3.4)
abbrev pub ends_line : Bool → ℕ → Bool
ends_line behind_return c = c == 13 || (c == 10 && not behind_return)

-- how many lines these characters end, after the character before
abbrev pub lines_ended : ℕ → List ℕ → ℕ
lines_ended before [] = 0
lines_ended before (c ∷ cs) = (if ends_line (before == 13) c then 1 else 0) + lines_ended c cs

-- the line of what stands after these characters of a file, from 1
abbrev pub line : List ℕ → ℕ
line front = 1 + lines_ended 0 front

-- its column, from 1: the characters between the last end of a line and it
abbrev pub column : List ℕ → ℕ
column front = 1 + prefix_len is_in_line (reverse front)
