use Rattle.std.proofs.Common.{◌≡◌, drop, bytes_eq}
use Rattle.java_tokens.proofs.text.is_text.Given as goal

-- the characters are the text if the rests of both are the same
abbrev pub invariant-loop-byte : goal.invariant-loop-byte
invariant-loop-byte l = bytes_eq l.fn.characters l.fn.text ≡ bytes_eq l.rest (drop l.byte-index l.text)
