use Rattle.java_reading.proofs.FileWhole.{finds_files, gives_files, refuses_files, refuses_high_files}
use Rattle.java_reading.proofs.file_law.files_are_read.Goals as goal

pub returns-clause-finds : goal.returns-clause-finds
returns-clause-finds c = finds_files

pub returns-clause-gives : goal.returns-clause-gives
returns-clause-gives c = gives_files

pub returns-clause-refuses : goal.returns-clause-refuses
returns-clause-refuses c = refuses_files

pub returns-clause-too_high : goal.returns-clause-too_high
returns-clause-too_high c = refuses_high_files
