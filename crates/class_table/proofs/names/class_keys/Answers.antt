use Rattle.std.proofs.Common.{rules, ◌≡◌, ◌+◌, ◌++◌, [], ◌∷◌, take, Some, false, ap, sym, ◌∙◌}
use Rattle.std.specs.List.{slice_get, list_any}
use Rattle.class_table.specs.Names.{class_names, same_name}
use Rattle.class_table.specs.Faults.{Blames, OfRule}
use Rattle.class_table.specs.Rules.{IsAmong, NamesFault}
use Rattle.class_table.proofs.Faults.{clear_more, item}
use Rattle.class_table.proofs.NamesLemmas.{names_more, name_taken, not_taken, not_reserved}
use Rattle.class_table.proofs.names.class_keys.Goals as goal

pub loop-class-preserved : goal.loop-class-preserved
loop-class-preserved c =
    let classes = c.args.classes.now in
    let n = c.loop-class.class-index in
    let class = c.class-item.result in
    let found : slice_get classes n ≡ Some class = item classes n class c.loop-class-test.true c.class-item.is in
    let new : list_any (same_name class.name.name) c.loop-class.names ≡ false = search rules in
    let more : class_names (take (n + 1) classes) ≡ class_names (take n classes) ++ class.name.name ∷ [] = names_more classes n class found in
    let added : c.add_name.new.keys ≡ c.loop-class.names ++ class.name.name ∷ [] = search rules in
    let names : c.loop-class.names ≡ class_names (take n classes) = c.loop-class.invariant.names in
    record {
      names = added ∙ ap (λ xs. xs ++ class.name.name ∷ []) names ∙ sym more;
      few = c.loop-class.invariant.few;
      taken = clear_more _ _ n class c.loop-class.invariant.taken found (not_taken classes n class c.loop-class.names c.in_ok-check_reserved.ensures.free names new);
      reserved = clear_more _ _ n class c.loop-class.invariant.reserved found (not_reserved class c.in_ok-check_reserved.ensures.free);
    }

pub returns-in_err-add_name-clause-fault : goal.returns-in_err-add_name-clause-fault
returns-in_err-add_name-clause-fault c =
    let found : slice_get c.args.classes.now c.loop-class.class-index ≡ Some c.class-item.result = item _ _ _ c.loop-class-test.true c.class-item.is in
    let among : Blames (OfRule 1 (IsAmong c.loop-class.names c.class-item.result.name.name c.class-item.result.name.at)) c.in_err-add_name.field-0.0 = search rules in
    let wrong : Blames (NamesFault c.args.classes.now) c.in_err-add_name.field-0.0 = name_taken c.args.classes.now c.loop-class.class-index c.class-item.result c.loop-class.names c.in_err-add_name.field-0.0 found c.in_ok-check_reserved.ensures.free c.loop-class.invariant.names among in
    search rules
