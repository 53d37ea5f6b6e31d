use Rattle.typing_law.proofs.WholeProgram.{law}
use Rattle.typing_law.proofs.law.programs_are_typed.Goals as goal

pub returns : goal.returns
returns c tree tokens spelled is_table clear none = law tree is_table clear (c.names_have_own_tokens.ensures tree tokens spelled) none
