-- The stop that each error on the way to a program leads to, and each ending of the machine.
use Rattle.std.specs.Prelude.{ℕ}
use Rattle.pb_io.specs.declared.files.ReadError.{ReadError}
use Rattle.pb_io.specs.declared.files.ReadError.TheVariants as read
use Rattle.java_source.specs.declared.refusal.SourceError.{SourceError}
use Rattle.java_source.specs.declared.refusal.SourceError.TheVariants as source
use Rattle.java_source.specs.declared.refusal.SourceRefusal.TheVariants.{TooLong}
use Rattle.interpreter.specs.declared.stop.RunStop.{RunStop}
use Rattle.interpreter.specs.declared.stop.RunStop.TheVariants as how
use Rattle.planb_run.specs.declared.ending.Stop.{Stop}
use Rattle.planb_run.specs.declared.ending.Stop.TheVariants as stop

abbrev pub read_stop : ReadError → Stop
read_stop read.ReadFault = stop.ReadFault
read_stop read.TooLong = stop.Refused TooLong
read_stop read.OutOfMemory = stop.OutOfMemory

abbrev pub source_stop : SourceError → Stop
source_stop (source.Refused why) = stop.Refused why
source_stop source.OutOfMemory = stop.OutOfMemory

-- the machine ran with this budget
abbrev pub run_stop : RunStop → ℕ → Stop
run_stop how.Done budget = stop.Done
run_stop (how.Uncaught number message) budget = stop.Uncaught number message
run_stop how.StepsSpent budget = stop.StepsSpent budget
run_stop (how.Full what) budget = stop.Full what
run_stop how.OutOfMemory budget = stop.OutOfMemory
run_stop how.WriteFault budget = stop.WriteFault
