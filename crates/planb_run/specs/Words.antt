-- The words as the code holds them.
use Rattle.std.specs.Prelude.{ℕ, List, map, String, string_bytes}
use Rattle.std.specs.declared.alloc.Global.{Global}
use Rattle.planb_run.specs.declared.command.CommandLine.{CommandLine}
use Rattle.planb_run.specs.Command.{Command}

-- the texts of words
abbrev pub texts : List (String Global) → List (List ℕ)
texts words = map string_bytes words

-- the command that a command line holds
abbrev pub command_of : CommandLine → Command
command_of line = record { file = line.file.now; arguments = texts line.arguments.now; steps = line.steps }
