-- What reading a source leads to.
use Rattle.std.proofs.Common.{◌≡◌, ℕ, ◌<◌, false, List, length, Option, Some, None, Ok, Err, refl}
use Rattle.std.specs.Prelude.{IfSome}
use Rattle.pb_io.specs.declared.files.ReadError.{ReadError}
use Rattle.pb_io.specs.declared.files.ReadError.TheVariants as read
use Rattle.pb_io.specs.Faults.{Counts}
use Rattle.pb_io.specs.Files.{FilesState}
use Rattle.java_source.specs.declared.refusal.SourceError.{SourceError}
use Rattle.java_source.specs.declared.refusal.SourceError.TheVariants as source
use Rattle.java_source.specs.Accepted.{most_bytes}
use Rattle.java_source.specs.Refused.{IsRefused}
use Rattle.planb_run.specs.declared.ending.Stop.TheVariants as stop
use Rattle.planb_run.specs.Causes.{read_stop, source_stop}
use Rattle.planb_run.specs.Stages.{RefusesFile}
use Rattle.planb_run.proofs.Sources.{some_longer}

-- a source that is too long, and is the file's where that is told
long_source : (told : Option (List ℕ)) → IfSome told (λ bytes. most_bytes < length bytes)
    → (source : List ℕ) × IfSome told (λ bytes. source ≡ bytes) × (most_bytes < length source)
long_source None long = let longer = some_longer most_bytes in (longer.0, tt, longer.1)
long_source (Some bytes) long = (bytes, refl, long)

module _ (before : FilesState) (file : List ℕ) where
  -- the error of the reading, with what the reading says of it
  pub unread : (error : ReadError)
      → (error ≡ read.TooLong → before.lacks file ≡ false)
      → (error ≡ read.TooLong → IfSome (before.bytes_of file) (λ bytes. most_bytes < length bytes))
      → RefusesFile before file (read_stop error)
  unread read.ReadFault there long = tt
  unread read.TooLong there long =
      let found = long_source (before.bytes_of file) (long refl) in
      record { there = there refl; source = found.0; told = found.1; refused = found.2 }
  unread read.OutOfMemory there long = tt

  -- the error of the stages from bytes to a program
  pub unresolved : (bytes : List ℕ) (error : SourceError) → before.lacks file ≡ false
      → IfSome (before.bytes_of file) (λ b. bytes ≡ b)
      → IsRefused bytes error → RefusesFile before file (source_stop error)
  unresolved bytes (source.Refused why) there told refused = record { there = there; source = bytes; told = told; refused = refused }
  unresolved bytes source.OutOfMemory there told refused = tt

-- ---- the count of faults

-- the error of the reading counts as the stop that it leads to
pub counts_unread : {T U : Type 0} (before now : ℕ) (error : ReadError)
    → Counts {T = T} read.ReadFault before now (Err error)
    → Counts {T = U} stop.ReadFault before now (Err (read_stop error))
counts_unread before now read.ReadFault counts =
    record { later = counts.later; rose = λ _. counts.rose refl; stands = λ no. absurd (no refl) }
counts_unread before now read.TooLong counts =
    record { later = counts.later; rose = λ is. cc; stands = λ _. counts.stands (λ is. cc) }
counts_unread before now read.OutOfMemory counts =
    record { later = counts.later; rose = λ is. cc; stands = λ _. counts.stands (λ is. cc) }

-- after a reading that didn't fail, no stage leads to a read fault
pub counts_unresolved : {T U : Type 0} (before now : ℕ) (value : T) (error : SourceError)
    → Counts {T = T} read.ReadFault before now (Ok value)
    → Counts {T = U} stop.ReadFault before now (Err (source_stop error))
counts_unresolved before now value (source.Refused why) counts =
    record { later = counts.later; rose = λ is. cc; stands = λ _. counts.stands (λ is. cc) }
counts_unresolved before now value source.OutOfMemory counts =
    record { later = counts.later; rose = λ is. cc; stands = λ _. counts.stands (λ is. cc) }

pub counts_resolved : {T U : Type 0} (before now : ℕ) (value : T) (program : U)
    → Counts {T = T} read.ReadFault before now (Ok value) → Counts {T = U} stop.ReadFault before now (Ok program)
counts_resolved before now value program counts =
    record { later = counts.later; rose = λ is. cc; stands = λ _. counts.stands (λ is. cc) }
