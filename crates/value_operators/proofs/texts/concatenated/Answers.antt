use Rattle.std.proofs.Common.{◌≡◌, ◌≤◌, ◌++◌, Some, rules}
use Rattle.core_tree.specs.Text.{code_units}
use Rattle.primitive_operators.specs.Operators.{viewed}
use Rattle.primitive_operators.specs.Texts as texts
use Rattle.evaluation.specs.Values.{most_units, shown}
use Rattle.value_operators.proofs.Joined.{joined_text}
use Rattle.value_operators.proofs.texts.concatenated.Goals as goal

pub returns-in_err-text-clause-memory : goal.returns-in_err-text-clause-memory
returns-in_err-text-clause-memory c err =
    let first : Some (texts.shown (viewed c.in-Some.first)) ≡ shown c.args.a.now = search rules in
    let second : Some (texts.shown (viewed c.in-Some-scalar.second)) ≡ shown c.args.b.now = search rules in
    let few : code_units (texts.shown (viewed c.in-Some.first) ++ texts.shown (viewed c.in-Some-scalar.second)) ≤ most_units = search rules in
    joined_text c.args.a.now c.args.b.now _ _ first second few
