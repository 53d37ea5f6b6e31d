use Rattle.std.proofs.Common.{refl}
use Rattle.spec_syntax.proofs.nodes.quantified.Goals as goal

pub returns : goal.returns
returns c = rw (c.in_ok-new.ensures, c.in_ok-new-2.ensures) refl
