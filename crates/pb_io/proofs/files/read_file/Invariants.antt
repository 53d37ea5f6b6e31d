use Rattle.std.proofs.Common.{◌+◌, ◌-◌, vec_len}
use Rattle.pb_io.proofs.Reading.{IsReading}
use Rattle.pb_io.proofs.files.read_file.Given as goal

-- the bytes are a prefix of the file
abbrev pub invariant-loop-chunk : goal.invariant-loop-chunk
invariant-loop-chunk g l =
    IsReading (g.F.Files.state l.fn.files) (g.F.Files.state l.files) l.name l.bytes.items l.limit

-- how many bytes may still be taken: each turn but the last takes one or more
abbrev pub decreases-loop-chunk : goal.decreases-loop-chunk
decreases-loop-chunk g l = l.limit + 1 - vec_len l.bytes
