use Rattle.java_reading.proofs.FileWhole.{file_height_is_least}
use Rattle.java_reading.proofs.file_law.file_height_is_least.Goals as goal

pub returns : goal.returns
returns c = file_height_is_least
