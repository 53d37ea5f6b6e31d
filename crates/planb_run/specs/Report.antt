-- What is told of an ending: the report's text and the status.
use Rattle.std.specs.Prelude.{ℕ, List, [], ◌∷◌, ◌++◌, Option, Some, None, option_and_then, nat_eq, slice_get, flat_map, encode_utf8_all, codes, if◌then◌else◌}
use Rattle.std.specs.Option.{option_map_or}
use Rattle.std.specs.Fmt.{decimal}
use Rattle.core_tree.specs.declared.what.What.{What}
use Rattle.core_tree.specs.declared.what.What.TheVariants as what
use Rattle.core_tree.specs.declared.program.Program.{Program}
use Rattle.java_source.specs.declared.refusal.SourceRefusal.{SourceRefusal}
use Rattle.java_source.specs.declared.refusal.SourceRefusal.TheVariants as refusal
use Rattle.java_source.specs.declared.refusal.TokenKindError.{TokenKindError}
use Rattle.java_source.specs.declared.refusal.TokenKindError.TheVariants as kind
use Rattle.planb_run.specs.declared.ending.Stop.{Stop}
use Rattle.planb_run.specs.declared.ending.Stop.TheVariants as stop
use Rattle.planb_run.specs.declared.ending.Reported.{Reported}
use Rattle.planb_run.specs.declared.ending.Reported.TheVariants as reported

-- ---- refusals

abbrev pub fault_text : TokenKindError → List ℕ
fault_text kind.Utf8 = codes "utf8"
fault_text kind.Character = codes "character"
fault_text kind.Number = codes "number"
fault_text kind.Unclosed = codes "unclosed"

abbrev pub place_text : ℕ → ℕ → List ℕ
place_text line column = decimal line ++ codes ":" ++ decimal column

abbrev pub refusal_text : SourceRefusal → List ℕ
refusal_text refusal.TooLong = codes "too long"
refusal_text (refusal.Lexical fault at) = fault_text fault ++ codes " at byte " ++ decimal at
refusal_text (refusal.Syntax line column) = codes "syntax at " ++ place_text line column
refusal_text refusal.TooDeep = codes "depth"
refusal_text (refusal.Fault rule line column) = codes "rule " ++ decimal rule ++ codes " at " ++ place_text line column

-- ---- exceptions that nothing caught

-- the characters of the name of a class
abbrev pub class_name : Option Program → ℕ → List ℕ
class_name program number =
    option_map_or (λ class. class.name) (option_and_then (λ p. slice_get p.classes number) program) []

-- a backslash is doubled, a line feed is `\n`, a carriage return is `\r`
abbrev pub escape : ℕ → List ℕ
escape c =
    if nat_eq c 92 then codes "\\\\"
    else if nat_eq c 10 then codes "\\n"
    else if nat_eq c 13 then codes "\\r"
    else c ∷ []

-- a message on one line
abbrev pub escaped : List ℕ → List ℕ
escaped message = flat_map escape message

-- what follows the name of the class: the message, where there is one, and the end of the line
abbrev pub message_text : Option (List ℕ) → List ℕ
message_text None = codes "\n"
message_text (Some message) = codes ": " ++ (encode_utf8_all (escaped message) ++ codes "\n")

abbrev pub uncaught_text : Option Program → ℕ → Option (List ℕ) → List ℕ
uncaught_text program number message =
    codes "uncaught " ++ (encode_utf8_all (class_name program number) ++ message_text message)

-- ---- the report

abbrev pub full_text : What → List ℕ
full_text what.Cells = codes "full cells\n"
full_text what.Text = codes "full text\n"

-- the whole report of the stop, for the program that ran: one line, and none where it ended normally
abbrev pub report : Option Program → Stop → List ℕ
report program stop.Done = []
report program (stop.Uncaught number message) = uncaught_text program number message
report program stop.Usage = codes "usage: planb [--steps N] [--conflicts N] [--proof] (FILE [ARG..] | --make N)\n"
report program (stop.Refused why) = codes "refused " ++ refusal_text why ++ codes "\n"
report program (stop.StepsSpent budget) = codes "steps spent " ++ decimal budget ++ codes "\n"
report program (stop.Full what) = full_text what
report program stop.OutOfMemory = codes "out of memory\n"
report program stop.ReadFault = codes "read fault\n"
report program stop.WriteFault = codes "write fault\n"

-- ---- the status

abbrev pub stop_status : Stop → ℕ
stop_status stop.Done = 0
stop_status (stop.Uncaught number message) = 1
stop_status stop.Usage = 2
stop_status (stop.Refused why) = 3
stop_status (stop.StepsSpent budget) = 4
stop_status stop.OutOfMemory = 6
stop_status stop.ReadFault = 7
stop_status stop.WriteFault = 7
stop_status (stop.Full what) = 8

-- the status is that of the stop, where the report could be written
abbrev pub status : Stop → Reported → ℕ
status stop reported.Whole = stop_status stop
status stop reported.WriteFault = 7
status stop reported.OutOfMemory = 6
