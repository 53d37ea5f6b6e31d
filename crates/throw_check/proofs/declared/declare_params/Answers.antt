use Rattle.std.proofs.Common.{◌≡◌, ◌∙◌, ◌+◌, List, [], ◌∷◌, ap, arith, drop, sym}
use Rattle.std.proofs.lemmas.Grind.{common_steps}
use Rattle.token_reading.specs.declared.name.ParamTree.{ParamTree}
use Rattle.core_tree.specs.declared.ty.Ty.{Ty}
use Rattle.throw_check.specs.Files.{with_params}
use Rattle.throw_check.specs.Statements.{with_local}
use Rattle.throw_check.proofs.StatementLemmas.{with_params_end, with_params_step}
use Rattle.throw_check.proofs.declared.declare_params.Goals as goal

pub loop-param-preserved : goal.loop-param-preserved
loop-param-preserved c =
    let symbols = c.args.symbols.now in
    let s = c.loop-param.scope in
    let rest = drop (c.loop-param.param-index + 1) c.args.params.now in
    let is : drop c.loop-param.param-index c.args.params.now ≡ c.param-item.result ∷ rest = grind (arith, common_steps) in
    c.loop-param.invariant ∙ ap (λ (ps : List ParamTree). with_params symbols ps s) is ∙ with_params_step symbols c.param-item.result rest s ∙ ap (with_params symbols rest) (sym (c.in_ok-declare.ensures ∙ ap (λ (ty : Ty). with_local s c.param-item.result.name ty) c.in_ok-ty.ensures))

pub returns : goal.returns
returns c =
    let symbols = c.args.symbols.now in
    let is : drop c.loop-param.param-index c.args.params.now ≡ [] = grind (arith, common_steps) in
    sym (c.loop-param.invariant ∙ ap (λ (ps : List ParamTree). with_params symbols ps c.loop-param.scope) is ∙ with_params_end symbols c.loop-param.scope)
