-- What the system's files and streams tell.
use Rattle.std.specs.Prelude.{ℕ, Bool, false, None}
use Rattle.pb_io.specs.Files.{FilesState}
use Rattle.pb_io.specs.Sink.{SinkState}

-- what a stream means at one moment: how often so far it failed, it had no memory, and its flush was called
pub record StreamState : Type 0 where
  pub faults : ℕ
  pub wants : ℕ
  pub flushes : ℕ

-- it tells these counts and nothing else
abbrev pub stream_state : StreamState → SinkState
stream_state stream = record {
  written = None;
  flushed = None;
  faults = stream.faults;
  wants = stream.wants;
  flushes = stream.flushes;
}

-- what the system's files mean at one moment: whether one is started, and how often they failed so far
pub record HostFilesState : Type 0 where
  pub is_started : Bool
  pub faults : ℕ

-- they tell that and nothing else
abbrev pub host_state : HostFilesState → FilesState
host_state files = record {
  lacks = λ _. false;
  bytes_of = λ _. None;
  started = None;
  rest = None;
  is_started = files.is_started;
  faults = files.faults;
}
