use Rattle.std.proofs.Common.{◌≡◌, drop, flat_map}
use Rattle.java_names.specs.Symbols.{fields_of, with_fields, own_fields}
use Rattle.java_names.proofs.fields.fields.Given as goal

abbrev pub invariant-loop-part : goal.invariant-loop-part
invariant-loop-part l = fields_of l.names (own_fields l.class l.row.fields) ≡ with_fields l.names l.fields (own_fields l.class (flat_map (λ part. part) (drop l.part-index l.part-items)))
