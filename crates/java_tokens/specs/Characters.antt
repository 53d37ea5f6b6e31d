-- The characters of a source, by their codes.
use Rattle.std.specs.Prelude.{ℕ, Bool, false, not, ◌||◌, ◌&&◌, ◌==◌, nat_le, List, [], ◌∷◌, Option, Some, None, if◌then◌else◌}
use Rattle.unicode_ident.specs.Ident.{is_xid_start, is_xid_continue}

-- line feed, carriage return (JLS 3.4)
abbrev pub is_line_end : ℕ → Bool
is_line_end c = c == 10 || c == 13

abbrev pub is_in_line : ℕ → Bool
is_in_line c = not (is_line_end c)

-- space, tab, form feed, line feed, carriage return (JLS 3.6)
abbrev pub is_white : ℕ → Bool
is_white c = c == 32 || c == 9 || c == 12 || c == 10 || c == 13

abbrev pub is_digit : ℕ → Bool
is_digit c = nat_le 48 c && nat_le c 57

-- `_`, `$`, or what Unicode lets an identifier begin with (JLS 3.8; Unicode Standard Annex 31)
abbrev pub is_identifier_start : ℕ → Bool
is_identifier_start c = c == 95 || c == 36 || is_xid_start c

-- `$`, or what Unicode lets an identifier go on with, `_` and the digits among it
abbrev pub is_identifier_part : ℕ → Bool
is_identifier_part c = c == 36 || is_xid_continue c

-- what stands for itself in a string: neither `"` nor `\` nor the end of a line (JLS 3.10.5)
abbrev pub is_plain : ℕ → Bool
is_plain c = not (c == 34 || c == 92 || is_line_end c)

-- the character that a backslash and this one stand for: `\b \t \n \f \r \" \' \\` (JLS 3.10.7)
abbrev pub escaped : ℕ → Option ℕ
escaped c =
    if c == 98 then Some 8
    else if c == 116 then Some 9
    else if c == 110 then Some 10
    else if c == 102 then Some 12
    else if c == 114 then Some 13
    else if c == 34 then Some 34
    else if c == 39 then Some 39
    else if c == 92 then Some 92
    else None

-- there is a first character, and it passes the test
abbrev pub first_passes : (ℕ → Bool) → List ℕ → Bool
first_passes test [] = false
first_passes test (c ∷ cs) = test c
