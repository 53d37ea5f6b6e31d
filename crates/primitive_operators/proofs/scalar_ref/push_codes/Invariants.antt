use Rattle.std.proofs.Common.{◌≡◌, ◌++◌, take}
use Rattle.primitive_operators.proofs.scalar_ref.push_codes.Given as goal

abbrev pub invariant-loop-code : goal.invariant-loop-code
invariant-loop-code l = l.characters.items ≡ l.initial.characters.items ++ take l.code-index l.code-items
