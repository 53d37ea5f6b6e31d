-- What a sink in memory means, and what a call on it does.
use Rattle.std.specs.Prelude.{ℕ, List, [], ◌++◌, length, take, Some, Result, Ok, Err}
use Rattle.pb_io.specs.declared.fault.OutsideFault.{OutsideFault}
use Rattle.pb_io.specs.declared.fault.OutsideFault.TheVariants.{Failed, OutOfMemory}
use Rattle.pb_io.specs.Calls.{Calls, one_more}
use Rattle.pb_io.specs.Faults.{raised}
use Rattle.pb_io.specs.Sink.{SinkState}

-- what a sink in memory means at one moment: the bytes written, how many of them are flushed, the most that one
-- write takes, the calls of each kind, and how often so far it failed and had no memory
pub record MemSinkState : Type 0 where
  pub written : List ℕ
  pub flushed : ℕ
  pub largest : ℕ
  pub writes : Calls
  pub flushes : Calls
  pub faults : ℕ
  pub wants : ℕ

-- what it means as a sink: it tells everything
abbrev pub sink_state : MemSinkState → SinkState
sink_state sink = record {
  written = Some sink.written;
  flushed = Some sink.flushed;
  faults = sink.faults;
  wants = sink.wants;
  flushes = sink.flushes.made;
}

-- a sink before the first call
abbrev pub new_sink : ℕ → List ℕ → List ℕ → MemSinkState
new_sink largest failing_writes failing_flushes = record {
  written = [];
  flushed = 0;
  largest = largest;
  writes = record { made = 0; failing = failing_writes };
  flushes = record { made = 0; failing = failing_flushes };
  faults = 0;
  wants = 0;
}

-- the sink after a write of this piece, by how it came out: each write is counted
abbrev pub after_write : MemSinkState → List ℕ → Result ℕ OutsideFault → MemSinkState
after_write sink piece (Ok n) = record sink { written = sink.written ++ take n piece; writes = one_more sink.writes }
after_write sink piece (Err Failed) = record sink { writes = one_more sink.writes; faults = raised sink.faults }
after_write sink piece (Err OutOfMemory) = record sink { writes = one_more sink.writes; wants = raised sink.wants }

-- the sink after a flush, by how it came out: each flush is counted
abbrev pub after_flush : {T : Type 0} → MemSinkState → Result T OutsideFault → MemSinkState
after_flush sink (Ok done) = record sink { flushed = length sink.written; flushes = one_more sink.flushes }
after_flush sink (Err Failed) = record sink { flushes = one_more sink.flushes; faults = raised sink.faults }
after_flush sink (Err OutOfMemory) = record sink { flushes = one_more sink.flushes; wants = raised sink.wants }
