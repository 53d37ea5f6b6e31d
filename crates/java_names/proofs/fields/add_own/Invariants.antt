use Rattle.std.proofs.Common.{◌≡◌, drop}
use Rattle.java_names.specs.Symbols.{with_fields, own_fields}
use Rattle.java_names.proofs.fields.add_own.Given as goal

abbrev pub invariant-loop-field : goal.invariant-loop-field
invariant-loop-field l = with_fields l.names l.initial.fields (own_fields l.class l.rows) ≡ with_fields l.names l.fields (own_fields l.class (drop l.field-index l.rows))
