use Rattle.std.proofs.Common.{rules, ◌≡◌, ◌++◌, [], ◌∷◌, Some, false, ap, sym, ◌∙◌}
use Rattle.std.specs.List.{slice_get, list_any}
use Rattle.class_table.specs.Index.{signature_of, same_signature}
use Rattle.class_table.specs.Faults.{Blames, InSome, OfRule}
use Rattle.class_table.specs.Rules.{SignatureAmong, CalledAlike}
use Rattle.class_table.proofs.Faults.{clear_more, clear_end, item, blames_at}
use Rattle.class_table.proofs.MethodLemmas.{method_again, method_new, method_more}
use Rattle.class_table.proofs.methods.signatures_in.Goals as goal

pub loop-method-preserved : goal.loop-method-preserved
loop-method-preserved c =
    let xs = c.args.methods.now in
    let n = c.loop-method.method-index in
    let x = c.method-item.result in
    let found : slice_get xs n ≡ Some x = item xs n x c.loop-method-test.true c.method-item.is in
    let new : list_any (same_signature (signature_of x)) c.loop-method.keys ≡ false = search rules in
    let added : c.add_signature.new.keys ≡ c.loop-method.keys ++ signature_of x ∷ [] = search rules in
    record {
      keys = added ∙ ap (λ ks. ks ++ signature_of x ∷ []) c.loop-method.invariant.keys ∙ sym (method_more xs n x found);
      clear = clear_more _ _ n x c.loop-method.invariant.clear found (method_new xs n x c.loop-method.keys c.loop-method.invariant.keys new);
    }

pub returns-clause-clear : goal.returns-clause-clear
returns-clause-clear c = clear_end _ _ c.loop-method.method-index c.loop-method-test.false c.loop-method.invariant.clear

pub returns-in_err-add_signature-clause-fault : goal.returns-in_err-add_signature-clause-fault
returns-in_err-add_signature-clause-fault c =
    let among : Blames (OfRule 5 (SignatureAmong c.loop-method.keys c.method-item.result)) c.in_err-add_signature.field-0.0 = search rules in
    let wrong : Blames (InSome c.args.methods.now (λ place m. OfRule 5 (CalledAlike c.args.methods.now place m))) c.in_err-add_signature.field-0.0 =
    blames_at _ _ c.loop-method.method-index c.method-item.result _ c.loop-method-test.true c.method-item.is (method_again c.args.methods.now c.loop-method.method-index c.method-item.result c.loop-method.keys _ c.loop-method.invariant.keys among) in
    search rules
