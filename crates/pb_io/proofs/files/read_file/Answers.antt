use Rattle.std.proofs.Common.{◌≤◌, inr, length, ◌++◌, take, ◌∙◌, arith}
use Rattle.std.proofs.lemmas.Grind.{common_steps}
use Rattle.std.proofs.lemmas.List.{take-append-le}
use Rattle.pb_io.proofs.Counts.{Counts-ok}
use Rattle.pb_io.proofs.Reading.{ReadsFront-read, ReadsFront-end, on_err}
use Rattle.pb_io.proofs.files.read_file.Goals as goal

pub returns-then-taken-eq0-clause-whole : goal.returns-then-taken-eq0-clause-whole
returns-then-taken-eq0-clause-whole g c =
    ReadsFront-end _ (g.F.Files.state c.loop-chunk.files).rest (g.F.Files.state c.read.new.self).rest _ c.read.new.into c.loop-chunk.invariant.reads
    (rw (← c.if-taken-eq0.true) c.in_ok-taken.ensures.gives)

-- the bytes of the last read were taken, though there was no memory to keep them
pub returns-in_err-extend_from_slice-clause-left : goal.returns-in_err-extend_from_slice-clause-left
returns-in_err-extend_from_slice-clause-left g c =
    let within : c.in_ok-taken.taken ≤ length c.read.new.into = rw c.read.auto.into c.in_ok-taken.ensures.within in
    let read = ReadsFront-read _ _ _ c.loop-chunk.bytes.items c.read.new.into c.in_ok-taken.taken within c.loop-chunk.invariant.reads c.in_ok-taken.ensures.gives in
    on_err c.from_residual-in_err-extend_from_slice.result _
    (inr (length (c.loop-chunk.bytes.items ++ take c.in_ok-taken.taken c.read.new.into), grind (arith, common_steps), read.left_is))

pub loop-chunk-preserved : goal.loop-chunk-preserved
loop-chunk-preserved g c =
    let within : c.in_ok-taken.taken ≤ length c.read.new.into = rw c.read.auto.into c.in_ok-taken.ensures.within in
    let read = ReadsFront-read _ _ _ c.loop-chunk.bytes.items c.read.new.into c.in_ok-taken.taken within c.loop-chunk.invariant.reads c.in_ok-taken.ensures.gives in
    record {
      is_started = c.read.ensures.started;
      names = c.read.ensures.names ∙ c.loop-chunk.invariant.names;
      bytes_of = c.read.ensures.bytes ∙ c.loop-chunk.invariant.bytes_of;
      reads = rw (c.in_ok-extend_from_slice.ensures.items, take-append-le) read;
      within = rw c.in_ok-extend_from_slice.ensures.items (grind (arith, common_steps));
      faults = Counts-ok _ _ _ _ c.in_ok-taken.ensures.faults ∙ c.loop-chunk.invariant.faults;
    }
