-- The locals after one more.
use Rattle.std.proofs.Common.{◌≡◌, Bool, [], ◌∷◌, ◌++◌, None}
use Rattle.std.specs.Map.{lookup}
use Rattle.indexmap.specs.IndexMap.{IndexMap, insert_entry}
use Rattle.indexmap.proofs.CallerLemmas.{insert_entry-new}

pub entries_with : {K X S : Type 0} (eq : K → K → Bool) (m : IndexMap K X S) (k : K) (v : X) → lookup (eq k) m.entries ≡ None → insert_entry eq m.entries k v ≡ m.entries ++ (k, v) ∷ []
entries_with eq m k v none = insert_entry-new eq m k v none

pub ruleset new_local = (entries_with)
