use Rattle.std.proofs.Common.{◌≡◌, ◌&&◌, true, rules}
use Rattle.class_table.specs.Names.{same_name}
use Rattle.core_tree.specs.Types.{is_array}
use Rattle.java_denotes.specs.Library.{length_name}
use Rattle.java_exprs.specs.Rules.{has_members}
use Rattle.java_exprs.proofs.CleanLemmas.{length_clean}
use Rattle.java_exprs.proofs.fields.array_length.Goals as goal
use Rattle.java_exprs.proofs.fields.array_length.Goals.{then-is_array, else-is_array}

pub returns : goal.returns
returns c =
    let members : has_members c.args.o.ty ≡ true = search rules in
    let array : (is_array c.args.o.ty && same_name c.args.f.now.name length_name) ≡ true
    = elim c.if-is_array.branch [ then-is_array w ↦ search rules | else-is_array w ↦ search rules ] in
    length_clean c.args.o c.args.f.now c.in_ok-new.field-0 members array c.in_ok-new.ensures
