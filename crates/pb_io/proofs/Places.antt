-- The first file of a name, found among pairs of name and bytes.
use Rattle.std.proofs.Common.{◌≡◌, ℕ, ◌≤◌, Bool, true, false, cond, List, [], ◌∷◌, map, find, position, length, Some, None, String, Vec, string_bytes, refl, sym, ◌∙◌, ap, arith}
use Rattle.std.specs.declared.alloc.Global.{Global}
use Rattle.std.specs.Str.{bytes_eq}
use Rattle.std.specs.Option.{option_map}
use Rattle.std.specs.List.{slice_get, position_or_len}
use Rattle.std.proofs.lemmas.Grind.{common_steps}
use Rattle.std.proofs.lemmas.List.Folds.{find_at}
use Rattle.std.proofs.lemmas.Option.{slice_get-map, slice_get_past, cond_some}
use Rattle.pb_io.specs.MemFiles.{named_file, bytes_of}
use Rattle.pb_io.specs.Place.{rest_at}

-- the test by which a pair of this name is found
abbrev is_named : List ℕ → String Global × Vec ℕ Global → Bool
is_named name pair = bytes_eq (string_bytes pair.0) name

-- the first file of a name is that of the first pair of the name
find-named_file : (pairs : List (String Global × Vec ℕ Global)) (name : List ℕ) → find (λ file. bytes_eq file.name name) (map named_file pairs) ≡ option_map named_file (find (is_named name) pairs)
find-named_file [] name = refl
find-named_file (pair ∷ pairs) name =
    elim (is_named name pair) as (λ b. cond b (Some (named_file pair)) (find (λ file. bytes_eq file.name name) (map named_file pairs)) ≡ option_map named_file (cond b (Some pair) (find (is_named name) pairs)))
    [ true ↦ refl | false ↦ find-named_file pairs name ]

-- the file at the first place of a name is the first file of the name
slice_get-position : (pairs : List (String Global × Vec ℕ Global)) (name : List ℕ) (i : ℕ) → position (is_named name) pairs ≡ Some i → slice_get (map named_file pairs) i ≡ find (λ file. bytes_eq file.name name) (map named_file pairs)
slice_get-position pairs name i found =
    let parts = cond_some _ (position_or_len (is_named name) pairs) i found in
    slice_get-map named_file pairs i ∙ ap (λ k. option_map named_file (slice_get pairs k)) (sym parts.1) ∙ ap (option_map named_file) (sym (find_at (is_named name) pairs)) ∙ sym (find-named_file pairs name)

-- at the first place of a name stands the beginning of its file
pub rest_at-found : (pairs : List (String Global × Vec ℕ Global)) (name : List ℕ) (i : ℕ) → position (is_named name) pairs ≡ Some i → rest_at (map named_file pairs) (Some (record { file = i; offset = 0 })) ≡ bytes_of (map named_file pairs) name
rest_at-found pairs name i found = ap (option_map (λ file. file.bytes)) (slice_get-position pairs name i found)

-- where no place is found there is no file of the name
pub bytes_of-absent : (pairs : List (String Global × Vec ℕ Global)) (name : List ℕ) → position (is_named name) pairs ≡ None → bytes_of (map named_file pairs) name ≡ None
bytes_of-absent pairs name absent =
    let past : length pairs ≤ position_or_len (is_named name) pairs = grind (arith, common_steps) in
    let none_found : find (is_named name) pairs ≡ None = find_at (is_named name) pairs ∙ slice_get_past pairs (position_or_len (is_named name) pairs) past in
    ap (option_map (λ file. file.bytes)) (find-named_file pairs name ∙ ap (option_map named_file) none_found)
