use Rattle.std.proofs.Common.{◌≡◌, ◌==◌, take, sym, ◌∙◌, arith}
use Rattle.std.proofs.lemmas.Bool.{le-ltb}
use Rattle.std.proofs.lemmas.Grind.{get_or_default_zero}
use Rattle.java_tokens.proofs.Moves.{last_or, returned_at, returned_start, place-small, moved_one}
use Rattle.java_tokens.proofs.place.Place.moved.Goals as goal
use Rattle.java_tokens.proofs.place.Place.moved.Goals.{then-at-gt0, else-at-gt0}

pub behind-place-requires-clause-bytes : goal.behind-place-requires-clause-bytes
behind-place-requires-clause-bytes c = omega (arith, (place-small c.args.characters.now c.loop-at.at c.loop-at.place c.loop-at.invariant).offset_below)

pub behind-place-requires-clause-lines : goal.behind-place-requires-clause-lines
behind-place-requires-clause-lines c = omega (arith, (place-small c.args.characters.now c.loop-at.at c.loop-at.place c.loop-at.invariant).line_below)

pub behind-place-requires-clause-columns : goal.behind-place-requires-clause-columns
behind-place-requires-clause-columns c = omega (arith, (place-small c.args.characters.now c.loop-at.at c.loop-at.place c.loop-at.invariant).column_below)

pub loop-at-preserved : goal.loop-at-preserved
loop-at-preserved c =
    let xs = c.args.characters.now in
    let at = c.loop-at.at in
    let here = sym (get_or_default_zero xs at c.index-characters-at-in-loop-at.result (omega arith)) ∙ sym c.index-characters-at-in-loop-at.is in
    let returned : (last_or 0 (take at xs) == 13) ≡ c.if-at-gt0.behind_return = elim c.if-at-gt0.branch [
      | then-at-gt0 w ↦ returned_at xs at w.index-characters-at.result c.if-at-gt0.behind_return w.if-at-gt0.true (omega arith) w.index-characters-at.is w.behind_return-is
      | else-at-gt0 w ↦ returned_start xs at c.if-at-gt0.behind_return (omega arith) (w.behind_return-is ∙ le-ltb 0 at (omega arith))
    ] in
    moved_one xs at c.loop-at.place c.behind-place.result c.index-characters-at-in-loop-at.result c.if-at-gt0.behind_return (omega arith) c.loop-at.invariant here returned c.behind-place.ensures.offset c.behind-place.ensures.line c.behind-place.ensures.column
