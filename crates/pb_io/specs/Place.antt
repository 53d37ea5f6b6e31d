-- Where the reading of files in memory goes on.
use Rattle.std.specs.Prelude.{ℕ, ◌≤◌, List, drop, length, Option, Some, None, option_map, slice_get, IsSomeAnd}
use Rattle.pb_io.specs.declared.mem_files.Place.{Place}
use Rattle.pb_io.specs.MemFiles.{NamedFile}

-- the rest of the file at this place
abbrev pub rest_at : List NamedFile → Option Place → Option (List ℕ)
rest_at files None = None
rest_at files (Some place) = option_map (λ file. drop place.offset file.bytes) (slice_get files place.file)

-- there is a file at this place, and it has that many bytes
abbrev pub IsPlace : List NamedFile → Option Place → Type 0
IsPlace files None = Unit {0}
IsPlace files (Some place) = IsSomeAnd (slice_get files place.file) (λ file. place.offset ≤ length file.bytes)
