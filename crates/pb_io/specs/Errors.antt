-- The error of a whole reading or writing that a fault of one call ends.
use Rattle.pb_io.specs.declared.fault.OutsideFault.{OutsideFault}
use Rattle.pb_io.specs.declared.fault.OutsideFault.TheVariants as fault
use Rattle.pb_io.specs.declared.sink.PutError.{PutError}
use Rattle.pb_io.specs.declared.sink.PutError.TheVariants as put
use Rattle.pb_io.specs.declared.files.ReadError.{ReadError}
use Rattle.pb_io.specs.declared.files.ReadError.TheVariants as read

abbrev pub put_error : OutsideFault → PutError
put_error fault.Failed = put.WriteFault
put_error fault.OutOfMemory = put.OutOfMemory

abbrev pub read_error : OutsideFault → ReadError
read_error fault.Failed = read.ReadFault
read_error fault.OutOfMemory = read.OutOfMemory
