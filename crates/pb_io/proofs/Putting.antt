-- Putting bytes piece by piece.
use Rattle.std.proofs.Common.{◌≡◌, ℕ, List, ◌++◌, take, drop, sym, ◌∙◌, ap, append_assoc}
use Rattle.std.proofs.lemmas.List.{take-append-drop}
use Rattle.pb_io.specs.Sink.{SinkState, with_bytes, NoFewer}
use Rattle.pb_io.proofs.Puts.{with_bytes-append, NoFewer-trans}

-- so far a prefix of the bytes was appended, and the rest is left
pub record PutsFront (before now : SinkState) (bytes rest : List ℕ) : Type 0 where
  pub front : List ℕ
  pub split : bytes ≡ front ++ rest
  pub written : now.written ≡ with_bytes before.written front
  pub flushed : NoFewer before.flushed now.flushed
  pub flushes : now.flushes ≡ before.flushes
  pub faults : now.faults ≡ before.faults
  pub wants : now.wants ≡ before.wants

-- a write of n bytes takes them from the rest
pub PutsFront-write : (a b c : SinkState) (bytes rest left : List ℕ) (n : ℕ) → PutsFront a b bytes rest → c.written ≡ with_bytes b.written (take n rest) → left ≡ drop n rest → NoFewer b.flushed c.flushed → c.flushes ≡ b.flushes → c.faults ≡ b.faults → c.wants ≡ b.wants → PutsFront a c bytes left
PutsFront-write a b c bytes rest left n so_far written is_left flushed flushes faults wants = record {
  front = so_far.front ++ take n rest;
  split = so_far.split ∙ ap (λ r. so_far.front ++ r) (sym (take-append-drop n rest)) ∙ sym (append_assoc so_far.front (take n rest) (drop n rest)) ∙ ap (λ r. so_far.front ++ take n rest ++ r) (sym is_left);
  written = written ∙ ap (λ w. with_bytes w (take n rest)) so_far.written ∙ with_bytes-append a.written so_far.front (take n rest);
  flushed = NoFewer-trans a.flushed b.flushed c.flushed so_far.flushed flushed;
  flushes = flushes ∙ so_far.flushes;
  faults = faults ∙ so_far.faults;
  wants = wants ∙ so_far.wants;
}
