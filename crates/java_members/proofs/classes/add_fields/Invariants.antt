use Rattle.std.proofs.Common.{◌≡◌, ◌++◌, drop}
use Rattle.java_members.proofs.classes.add_fields.Given as goal

abbrev pub invariant-loop-field : goal.invariant-loop-field
invariant-loop-field l = l.initial.fields ++ l.own ≡ l.fields ++ drop l.field-index l.own
