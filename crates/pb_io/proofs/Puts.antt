-- Appending to a sink, and bytes that are put in several steps.
use Rattle.std.proofs.Common.{◌≡◌, ℕ, List, [], ◌++◌, Option, Some, None, Result, Ok, Err, refl, sym, ◌∙◌, ap, append_assoc, arith}
use Rattle.std.proofs.lemmas.Grind.{common_steps}
use Rattle.pb_io.specs.declared.sink.PutError.{PutError}
use Rattle.pb_io.specs.declared.sink.PutError.TheVariants as put
use Rattle.pb_io.specs.Sink.{SinkState, with_bytes, NoFewer, Puts}
use Rattle.pb_io.proofs.Counts.{Counts-none, Counts-then, Counts-stop}

-- appending nothing leaves what is written
pub with_bytes-nil : (written : Option (List ℕ)) → with_bytes written [] ≡ written
with_bytes-nil None = refl
with_bytes-nil (Some bytes) = grind (arith, common_steps)

-- appending one piece and then another appends both
pub with_bytes-append : (written : Option (List ℕ)) (a b : List ℕ) → with_bytes (with_bytes written a) b ≡ with_bytes written (a ++ b)
with_bytes-append None a b = refl
with_bytes-append (Some bytes) a b = ap Some (append_assoc bytes a b)

pub NoFewer-refl : (n : Option ℕ) → NoFewer n n
NoFewer-refl None = tt
NoFewer-refl (Some n) = omega arith

pub NoFewer-trans : (a b c : Option ℕ) → NoFewer a b → NoFewer b c → NoFewer a c
NoFewer-trans None b c p q = tt
NoFewer-trans (Some a) None c p q = absurd p
NoFewer-trans (Some a) (Some b) None p q = absurd q
NoFewer-trans (Some a) (Some b) (Some c) p q = omega arith

-- putting nothing changes nothing
pub Puts-nil : {T : Type 0} (sink : SinkState) (value : T) → Puts sink sink [] (Ok value)
Puts-nil sink value = record {
  ok = sym (with_bytes-nil sink.written);
  err = tt;
  flushed = NoFewer-refl sink.flushed;
  flushes = refl;
  faults = Counts-none put.WriteFault sink.faults value;
  wants = Counts-none put.OutOfMemory sink.wants value;
}

-- all of x was put, and putting y came out so: so came out putting both
pub Puts-append : {T U : Type 0} (a b c : SinkState) (x y : List ℕ) (value : T) (result : Result U PutError) → Puts a b x (Ok value) → Puts b c y result → Puts a c (x ++ y) result
Puts-append a b c x y value (Ok done) first second = record {
  ok = second.ok ∙ ap (λ w. with_bytes w y) first.ok ∙ with_bytes-append a.written x y;
  err = tt;
  flushed = NoFewer-trans a.flushed b.flushed c.flushed first.flushed second.flushed;
  flushes = second.flushes ∙ first.flushes;
  faults = Counts-then put.WriteFault a.faults b.faults c.faults value (Ok done) first.faults second.faults;
  wants = Counts-then put.OutOfMemory a.wants b.wants c.wants value (Ok done) first.wants second.wants;
}
Puts-append a b c x y value (Err error) first second =
    let part = second.err.part in
    record {
      ok = tt;
      err = record {
        part = x ++ part;
        rest = second.err.rest;
        split = ap (λ bytes. x ++ bytes) second.err.split ∙ sym (append_assoc x part second.err.rest);
        written = second.err.written ∙ ap (λ w. with_bytes w part) first.ok ∙ with_bytes-append a.written x part;
      };
      flushed = NoFewer-trans a.flushed b.flushed c.flushed first.flushed second.flushed;
      flushes = second.flushes ∙ first.flushes;
      faults = Counts-then put.WriteFault a.faults b.faults c.faults value (Err error) first.faults second.faults;
      wants = Counts-then put.OutOfMemory a.wants b.wants c.wants value (Err error) first.wants second.wants;
    }

-- putting x ended by an error: so ends putting x and whatever would follow it
pub Puts-stop : {T U : Type 0} (a b : SinkState) (x y : List ℕ) (error : PutError) → Puts a b x {T = T} (Err error) → Puts a b (x ++ y) {T = U} (Err error)
Puts-stop a b x y error stopped = record {
  ok = tt;
  err = record {
    part = stopped.err.part;
    rest = stopped.err.rest ++ y;
    split = ap (λ bytes. bytes ++ y) stopped.err.split ∙ append_assoc stopped.err.part stopped.err.rest y;
    written = stopped.err.written;
  };
  flushed = stopped.flushed;
  flushes = stopped.flushes;
  faults = Counts-stop put.WriteFault a.faults b.faults error stopped.faults;
  wants = Counts-stop put.OutOfMemory a.wants b.wants error stopped.wants;
}
