use Rattle.std.proofs.Common.{sym}
use Rattle.token_reading.proofs.Cursor.{place_numbered}
use Rattle.token_reading.proofs.tokens.Tokens.at.Goals as goal

pub returns-in-len1-up : goal.returns-in-len1-up
returns-in-len1-up c = rw (← c.self.view_is) (sym (place_numbered _ _ c.in-len1-up.len_at_least))
