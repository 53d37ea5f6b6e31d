-- Reading the started file piece by piece.
use Rattle.std.proofs.Common.{append-nil, ◌≡◌, ℕ, ◌+◌, ◌≤◌, true, List, [], ◌++◌, take, drop, length, Option, Some, None, IfSome, Result, Ok, Err, OnErr, refl, sym, ◌∙◌, ap, arith}
use Rattle.std.proofs.lemmas.Grind.{common_steps}
use Rattle.std.proofs.Math.Seq.{take-add}
use Rattle.std.proofs.lemmas.List.{take-append-drop}
use Rattle.std.specs.Option.{option_map}
use Rattle.pb_io.specs.Files.{FilesState, with_name, Gives}

-- the bytes so far are a prefix of the file, and what follows them is left
pub record ReadsFront (file left : Option (List ℕ)) (bytes : List ℕ) : Type 0 where
  pub front : IfSome file (λ whole. bytes ≡ take (length bytes) whole)
  pub left_is : left ≡ option_map (drop (length bytes)) file

-- the name was started once, and at most limit + 1 bytes of its file are read
pub record IsReading (begun now : FilesState) (name bytes : List ℕ) (limit : ℕ) : Type 0 where
  pub is_started : now.is_started ≡ true
  pub names : now.started ≡ with_name begun.started name
  pub bytes_of : now.bytes_of ≡ begun.bytes_of
  pub reads : ReadsFront (begun.bytes_of name) now.rest bytes
  pub within : length bytes ≤ limit + 1
  pub faults : now.faults ≡ begun.faults

-- at the start nothing is read
pub ReadsFront-none : (file : Option (List ℕ)) → ReadsFront file file []
ReadsFront-none None = record { front = tt; left_is = refl }
ReadsFront-none (Some whole) = record { front = grind (arith, common_steps); left_is = grind (arith, common_steps) }

-- a read of n bytes puts them after those that were read
pub ReadsFront-read : (file before now : Option (List ℕ)) (bytes into : List ℕ) (n : ℕ) → n ≤ length into → ReadsFront file before bytes → Gives before now n into → ReadsFront file now (bytes ++ take n into)
ReadsFront-read None before now bytes into n within so_far gives = record {
  front = tt;
  left_is = gives.left ∙ ap (option_map (drop n)) so_far.left_is;
}
ReadsFront-read (Some whole) before now bytes into n within so_far gives =
    let next : take n into ≡ take n (drop (length bytes) whole) = rw so_far.left_is at gives.front in
    let len : length (bytes ++ take n into) ≡ length bytes + n = grind (arith, common_steps) in
    record {
      front = ap (λ b. b ++ take n into) so_far.front ∙ ap (λ t. take (length bytes) whole ++ t) next ∙ sym (take-add (length bytes) n whole) ∙ ap (λ m. take m whole) (sym len);
      left_is = gives.left ∙ ap (option_map (drop n)) so_far.left_is ∙ ap Some (grind (arith, common_steps));
    }

-- a read of no bytes comes exactly at the end: then the whole file is read
pub ReadsFront-end : (file before now : Option (List ℕ)) (bytes into : List ℕ) → ReadsFront file before bytes → Gives before now 0 into → IfSome file (λ whole. bytes ≡ whole)
ReadsFront-end None before now bytes into so_far gives = tt
ReadsFront-end (Some whole) before now bytes into so_far gives =
    let at_end = rw so_far.left_is at gives.at_end in
    let none_left : drop (length bytes) whole ≡ [] = at_end.0 refl in
    let parts : take (length bytes) whole ++ drop (length bytes) whole ≡ whole = take-append-drop (length bytes) whole in
    let front : bytes ++ drop (length bytes) whole ≡ whole = ap (λ b. b ++ drop (length bytes) whole) so_far.front ∙ parts in
    sym (append-nil bytes) ∙ ap (λ r. bytes ++ r) (sym none_left) ∙ front

-- what holds in any case holds of an error
pub on_err : {T E : Type 0} (result : Result T E) (P : Type 0) → P → OnErr result P
on_err (Ok value) P p = tt
on_err (Err error) P p = p
