-- Decimal texts in UTF-8: each of their characters is its own byte.
use Rattle.std.proofs.Common.{◌≡◌, ℤ, ◌<◌, ◌^◌}
use Rattle.std.specs.Fmt.{signed_decimal}
use Rattle.std.specs.Int.Signed.{mag}
use Rattle.std.specs.Str.{encode_utf8_all}
use Rattle.std.proofs.lemmas.Fmt.{IsAscii-signed}
use Rattle.std.proofs.lemmas.Str.{encodes-IsAscii}

pub decimal_bytes : (n : ℤ) → mag n < 2 ^ 63 → encode_utf8_all (signed_decimal n) ≡ signed_decimal n
decimal_bytes n small = encodes-IsAscii (signed_decimal n) (IsAscii-signed n small)
