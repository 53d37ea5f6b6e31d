-- What a sink means, and what a call on it does.
use Rattle.std.specs.Prelude.{◌≡◌, ℕ, ◌≤◌, List, ◌++◌, length, Option, Some, None, Result, OnOk, OnErr}
use Rattle.std.specs.Option.{option_map}
use Rattle.pb_io.specs.declared.sink.PutError.{PutError}
use Rattle.pb_io.specs.declared.sink.PutError.TheVariants.{WriteFault, OutOfMemory}
use Rattle.pb_io.specs.Faults.{Counts}

-- what a sink means at one moment: the bytes written and how many of them are flushed, where the sink tells both; and
-- how often so far it failed, it had no memory, and its flush was called
pub record SinkState : Type 0 where
  pub written : Option (List ℕ)
  pub flushed : Option ℕ
  pub faults : ℕ
  pub wants : ℕ
  pub flushes : ℕ

-- what is written, followed by these bytes
abbrev pub with_bytes : Option (List ℕ) → List ℕ → Option (List ℕ)
with_bytes None bytes = None
with_bytes (Some written) bytes = Some (written ++ bytes)

-- no fewer bytes are flushed than before
abbrev pub NoFewer : Option ℕ → Option ℕ → Type 0
NoFewer None now = Unit {0}
NoFewer (Some before) None = ⊥
NoFewer (Some before) (Some now) = before ≤ now

-- all that is written is flushed: a sink that tells its bytes tells this too, and no other sink does
abbrev pub IsFlushed : SinkState → Type 0
IsFlushed sink = sink.flushed ≡ option_map length sink.written

-- a prefix of the bytes, maybe empty and maybe all of them, was appended
pub record AppendsPrefix (before now : SinkState) (bytes : List ℕ) : Type 0 where
  pub part : List ℕ
  pub rest : List ℕ
  pub split : bytes ≡ part ++ rest
  pub written : now.written ≡ with_bytes before.written part

-- putting bytes: all of them are appended, or an error comes and a prefix is; at most one call was refused, the last
-- one, and none was a flush
pub record Puts (before now : SinkState) (bytes : List ℕ) {T : Type 0} (result : Result T PutError) : Type 0 where
  pub ok : OnOk result (now.written ≡ with_bytes before.written bytes)
  pub err : OnErr result (AppendsPrefix before now bytes)
  pub flushed : NoFewer before.flushed now.flushed
  pub flushes : now.flushes ≡ before.flushes
  pub faults : Counts WriteFault before.faults now.faults result
  pub wants : Counts OutOfMemory before.wants now.wants result
