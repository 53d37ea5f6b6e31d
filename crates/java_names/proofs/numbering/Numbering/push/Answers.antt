use Rattle.std.proofs.Common.{sym, ◌∙◌}
use Rattle.java_names.proofs.NumberingLemmas.{first-new}
use Rattle.java_names.proofs.numbering.Numbering.push.Goals as goal

pub invariant_of-self-in-Ok : goal.invariant_of-self-in-Ok
invariant_of-self-in-Ok g c =
    rw (c.in_ok-push.ensures.ok, c.requires.same)
    (first-new c.args.key g.met.K.Eq.laws c.self.invariant _ c.len-number.ensures (sym c.contains_key.ensures ∙ c.if-contains_key.false) c.in-Ok.ensures.updates.0)
