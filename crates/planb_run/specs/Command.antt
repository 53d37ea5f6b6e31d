-- What the words of the command line ask.
use Rattle.std.specs.Prelude.{ℕ, Bool, false, not, ◌&&◌, nat_le, nat_eq, List, [], ◌∷◌, length, Option, Some, None, if◌then◌else◌, codes}
use Rattle.std.specs.Cmp.Lexicographic.{pointwise}
use Rattle.std.specs.Char.{is_ascii_digit}
use Rattle.java_tokens.specs.Spelling.{number_of}
use Rattle.std.specs.List.{list_all}

-- a file to run, the arguments of its program, and how many steps it may take
pub record Command : Type 0 where
  pub file : List ℕ
  pub arguments : List (List ℕ)
  pub steps : ℕ

-- the budget where the words name none
abbrev pub default_steps : ℕ
default_steps = 1000000000000

-- a word that begins with `-` is no file and no argument
abbrev pub begins_with_dash : List ℕ → Bool
begins_with_dash [] = false
begins_with_dash (c ∷ cs) = nat_eq c 45

-- one to eighteen decimal digits
abbrev pub is_budget : List ℕ → Bool
is_budget word = list_all is_ascii_digit word && nat_le 1 (length word) && nat_le (length word) 18

-- with this budget, FILE and the program's arguments
abbrev pub command_with : ℕ → List (List ℕ) → Option Command
command_with steps [] = None
command_with steps (file ∷ arguments) =
    if list_all (λ word. not (begins_with_dash word)) (file ∷ arguments)
    then Some (record { file = file; arguments = arguments; steps = steps })
    else None

-- the command of these words: the program's name, perhaps `--steps` and a number, FILE, and the program's arguments
abbrev pub command : List (List ℕ) → Option Command
command (program ∷ option ∷ number ∷ rest) =
    if pointwise nat_eq option (codes "--steps")
    then (if is_budget number then command_with (number_of number) rest else None)
    else command_with default_steps (option ∷ number ∷ rest)
command (program ∷ rest) = command_with default_steps rest
command [] = None
