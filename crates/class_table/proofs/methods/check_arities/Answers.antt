use Rattle.std.proofs.Common.{rules, ◌≡◌, ◌++◌, [], ◌∷◌, Some, false, ap, sym, ◌∙◌, length, nat_eq}
use Rattle.std.specs.List.{slice_get, list_any}
use Rattle.class_table.specs.Faults.{Blames, InSome, OfRule}
use Rattle.class_table.specs.Rules.{ArityAmong, SameArity}
use Rattle.class_table.proofs.Faults.{clear_more, clear_end, item, blames_at}
use Rattle.class_table.proofs.MethodLemmas.{maker_again, maker_new, maker_more}
use Rattle.class_table.proofs.methods.check_arities.Goals as goal

pub loop-maker-preserved : goal.loop-maker-preserved
loop-maker-preserved c =
    let xs = c.args.makers.now in
    let n = c.loop-maker.maker-index in
    let x = c.maker-item.result in
    let found : slice_get xs n ≡ Some x = item xs n x c.loop-maker-test.true c.maker-item.is in
    let new : list_any (nat_eq (length x.params)) c.loop-maker.keys ≡ false = search rules in
    let added : c.add_arity.new.keys ≡ c.loop-maker.keys ++ length x.params ∷ [] = search rules in
    record {
      keys = added ∙ ap (λ ks. ks ++ length x.params ∷ []) c.loop-maker.invariant.keys ∙ sym (maker_more xs n x found);
      clear = clear_more _ _ n x c.loop-maker.invariant.clear found (maker_new xs n x c.loop-maker.keys c.loop-maker.invariant.keys new);
    }

pub returns-clause-clear : goal.returns-clause-clear
returns-clause-clear c = clear_end _ _ c.loop-maker.maker-index c.loop-maker-test.false c.loop-maker.invariant.clear

pub returns-in_err-add_arity-clause-fault : goal.returns-in_err-add_arity-clause-fault
returns-in_err-add_arity-clause-fault c =
    let among : Blames (OfRule 5 (ArityAmong c.loop-maker.keys c.maker-item.result)) c.in_err-add_arity.field-0.0 = search rules in
    let wrong : Blames (InSome c.args.makers.now (λ place m. OfRule 5 (SameArity c.args.makers.now place m))) c.in_err-add_arity.field-0.0 =
    blames_at _ _ c.loop-maker.maker-index c.maker-item.result _ c.loop-maker-test.true c.maker-item.is (maker_again c.args.makers.now c.loop-maker.maker-index c.maker-item.result c.loop-maker.keys _ c.loop-maker.invariant.keys among) in
    search rules
