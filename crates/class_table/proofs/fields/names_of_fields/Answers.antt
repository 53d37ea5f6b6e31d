use Rattle.std.proofs.Common.{rules, ◌≡◌, ◌++◌, [], ◌∷◌, Some, false, ap, sym, ◌∙◌}
use Rattle.std.specs.List.{slice_get, list_any}
use Rattle.class_table.specs.Names.{same_name}
use Rattle.class_table.specs.Faults.{Blames, InSome, OfRule}
use Rattle.class_table.specs.Rules.{IsAmong, FieldAgain}
use Rattle.class_table.proofs.Faults.{clear_more, clear_end, item, blames_at}
use Rattle.class_table.proofs.FieldLemmas.{field_again, not_again, names_more}
use Rattle.class_table.proofs.fields.names_of_fields.Goals as goal

pub loop-field-preserved : goal.loop-field-preserved
loop-field-preserved c =
    let fields = c.args.fields.now in
    let n = c.loop-field.field-index in
    let field = c.field-item.result in
    let found : slice_get fields n ≡ Some field = item fields n field c.loop-field-test.true c.field-item.is in
    let new : list_any (same_name field.name) c.loop-field.keys ≡ false = search rules in
    let added : c.add_name.new.keys ≡ c.loop-field.keys ++ field.name ∷ [] = search rules in
    record {
      keys = added ∙ ap (λ xs. xs ++ field.name ∷ []) c.loop-field.invariant.keys ∙ sym (names_more fields n field found);
      clear = clear_more _ _ n field c.loop-field.invariant.clear found (not_again fields n field c.loop-field.keys c.loop-field.invariant.keys new);
    }

pub returns-clause-clear : goal.returns-clause-clear
returns-clause-clear c = clear_end _ _ c.loop-field.field-index c.loop-field-test.false c.loop-field.invariant.clear

pub returns-in_err-add_name-clause-fault : goal.returns-in_err-add_name-clause-fault
returns-in_err-add_name-clause-fault c =
    let among : Blames (OfRule 4 (IsAmong c.loop-field.keys c.field-item.result.name c.field-item.result.at)) c.in_err-add_name.field-0.0 = search rules in
    let wrong : Blames (InSome c.args.fields.now (λ place f. OfRule 4 (FieldAgain c.args.fields.now place f))) c.in_err-add_name.field-0.0 =
    blames_at _ _ c.loop-field.field-index c.field-item.result _ c.loop-field-test.true c.field-item.is (field_again c.args.fields.now c.loop-field.field-index c.field-item.result c.loop-field.keys _ c.loop-field.invariant.keys among) in
    search rules
