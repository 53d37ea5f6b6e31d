use Rattle.std.proofs.Common.{◌∙◌, Some, ap, sym}
use Rattle.java_exprs.proofs.CleanLemmas.{element_clean}
use Rattle.core_tree.proofs.TypeFacts.{elements_are, elements_are_not}
use Rattle.java_exprs.proofs.ValueLemmas.{element_refused}
use Rattle.java_exprs.proofs.simple.element.Goals as goal

pub returns-in_default : goal.returns-in_default
returns-in_default c = element_refused c.args.a c.args.i c.fault.result (elements_are_not c.args.a.ty c.in_default.not-Array) c.fault.ensures

pub returns-in_ok-element_core-in-Array : goal.returns-in_ok-element_core-in-Array
returns-in_ok-element_core-in-Array c =
    element_clean c.args.env.now c.args.scope.now c.args.a c.args.i _ c.in_ok-element_core-in-Array.field-0
    c.in_ok-check_element.ensures (elements_are c.args.a.ty _ c.in-Array.is ∙ ap Some (sym c.into_inner.ensures)) c.in_ok-element_core-in-Array.ensures
