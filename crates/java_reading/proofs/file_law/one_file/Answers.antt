use Rattle.java_reading.proofs.FileWhole.{one_file}
use Rattle.java_reading.proofs.file_law.one_file.Goals as goal

pub returns : goal.returns
returns c = one_file
