use Rattle.token_law.proofs.FileRising.{own_tokens}
use Rattle.token_law.proofs.law.names_have_own_tokens.Goals as goal

pub returns : goal.returns
returns c = own_tokens
