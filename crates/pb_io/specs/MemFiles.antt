-- What files in memory mean, and what a call on them does.
use Rattle.std.specs.Prelude.{ℕ, List, [], ◌∷◌, ◌++◌, drop, find, bytes_eq, string_bytes, String, Vec, Option, Some, None, Result, Ok, Err, is_none, is_some, option_map}
use Rattle.std.specs.declared.alloc.Global.{Global}
use Rattle.pb_io.specs.declared.fault.OutsideFault.{OutsideFault}
use Rattle.pb_io.specs.declared.fault.OutsideFault.TheVariants.{Failed, OutOfMemory}
use Rattle.pb_io.specs.Calls.{Calls, one_more}
use Rattle.pb_io.specs.Faults.{raised}
use Rattle.pb_io.specs.Files.{FilesState}

-- a file and its name
pub record NamedFile : Type 0 where
  pub name : List ℕ
  pub bytes : List ℕ

-- the file that a pair of name and bytes means
abbrev pub named_file : String Global × Vec ℕ Global → NamedFile
named_file pair = record { name = string_bytes pair.0; bytes = pair.1.items }

-- the bytes of the first file of this name, if there is one
abbrev pub bytes_of : List NamedFile → List ℕ → Option (List ℕ)
bytes_of files name = option_map (λ file. file.bytes) (find (λ file. bytes_eq file.name name) files)

-- what files in memory mean at one moment: the files, the names started so far, the rest of the started file, if one
-- is started, the calls, and how often they failed so far
pub record MemFilesState : Type 0 where
  pub files : List NamedFile
  pub started : List (List ℕ)
  pub rest : Option (List ℕ)
  pub calls : Calls
  pub faults : ℕ

-- what they mean as files: they tell everything
abbrev pub files_state : MemFilesState → FilesState
files_state files = record {
  lacks = λ name. is_none (bytes_of files.files name);
  bytes_of = bytes_of files.files;
  started = Some files.started;
  rest = files.rest;
  is_started = is_some files.rest;
  faults = files.faults;
}

-- files before the first call
abbrev pub new_files : List NamedFile → List ℕ → MemFilesState
new_files files failing = record {
  files = files;
  started = [];
  rest = None;
  calls = record { made = 0; failing = failing };
  faults = 0;
}

-- the files after a start of this name, by how it came out: each start is counted
abbrev pub after_start : {T : Type 0} → MemFilesState → List ℕ → Result T OutsideFault → MemFilesState
after_start files name (Ok begun) = record files {
  started = files.started ++ name ∷ [];
  rest = bytes_of files.files name;
  calls = one_more files.calls;
}
after_start files name (Err Failed) = record files {
  started = files.started ++ name ∷ [];
  rest = None;
  calls = one_more files.calls;
  faults = raised files.faults;
}
after_start files name (Err OutOfMemory) = record files { rest = None; calls = one_more files.calls }

-- the files after a read, by how it came out: each read is counted
abbrev pub after_read : MemFilesState → Result ℕ OutsideFault → MemFilesState
after_read files (Ok n) = record files { rest = option_map (drop n) files.rest; calls = one_more files.calls }
after_read files (Err Failed) = record files { calls = one_more files.calls; faults = raised files.faults }
after_read files (Err OutOfMemory) = record files { calls = one_more files.calls }
