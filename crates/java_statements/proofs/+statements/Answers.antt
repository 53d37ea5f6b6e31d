use Rattle.std.proofs.Common.{rules, map, [], ◌≡◌, ◌∙◌, ◌+◌, ◌∷◌, drop, sym, arith}
use Rattle.std.proofs.lemmas.Grind.{common_steps}
use Rattle.std.proofs.lemmas.List.{at_drop_all}
use Rattle.java_names.specs.Refusals.{Refuses}
use Rattle.java_statements.specs.Effects.{sequence, clauses}
use Rattle.java_statements.specs.Statements.{effect, catch_effect}
use Rattle.java_statements.proofs.EffectLemmas.{behind, sequence_fault, sequence_step, sequence_end, clauses_behind, clauses_fault, clauses_step, clauses_end, effect_if, effect_try}
use Rattle.java_statements.proofs.+statements.Goals as goal

pub statements::body-returns-in_err-stmt-clause-fault : goal.statements::body-returns-in_err-stmt-clause-fault
statements::body-returns-in_err-stmt-clause-fault t c =
    let known = effect c.args.env.now in
    let is : sequence (map known c.args.statements.now) c.args.scope.now ≡ behind c.loop-s.steps (sequence (known c.s-item.result ∷ map known (drop (c.loop-s.s-index + 1) c.args.statements.now)) c.loop-s.scope) = grind (arith, common_steps) in
    let among : Refuses (sequence (map known c.args.statements.now) c.args.scope.now).faults c.in_err-stmt.field-0.0 = sequence_fault _ (known c.s-item.result) _ c.loop-s.scope c.loop-s.steps _ is c.in_err-stmt.ensures in
    search rules

pub statements::body-loop-s-preserved : goal.statements::body-loop-s-preserved
statements::body-loop-s-preserved t c =
    let known = effect c.args.env.now in
    let is : sequence (map known c.args.statements.now) c.args.scope.now ≡ behind c.loop-s.steps (sequence (known c.s-item.result ∷ map known (drop (c.loop-s.s-index + 1) c.args.statements.now)) c.loop-s.scope) = grind (arith, common_steps) in
    let next = is ∙ sequence_step (known c.s-item.result) (map known (drop (c.loop-s.s-index + 1) c.args.statements.now)) c.loop-s.scope c.stmt.new.scope c.loop-s.steps _ c.in_ok-stmt.ensures in
    rw (c.in_ok-push.ensures.ok) next

pub statements::body-returns-clause-steps : goal.statements::body-returns-clause-steps
statements::body-returns-clause-steps t c =
    let known = effect c.args.env.now in
    let is : sequence (map known c.args.statements.now) c.args.scope.now ≡ behind c.loop-s.steps (sequence [] c.loop-s.scope) =
    c.loop-s.invariant ∙ at_drop_all (λ rest. behind c.loop-s.steps (sequence (map known rest) c.loop-s.scope)) c.args.statements.now c.loop-s.s-index (omega arith) in
    is ∙ sequence_end c.loop-s.steps c.loop-s.scope

pub statements::stmt-returns-in-If : goal.statements::stmt-returns-in-If
statements::stmt-returns-in-If t c = rw (c.in-If.is, effect_if _ _ _ _ _, sym c.get.ensures) c.choice.ensures

pub tries::clauses-returns-in_err-clause-clause-fault : goal.tries::clauses-returns-in_err-clause-clause-fault
tries::clauses-returns-in_err-clause-clause-fault t c =
    let known = catch_effect c.args.env.now in
    let is : clauses (map known c.args.trees.now) c.args.scope.now ≡ clauses_behind c.loop-tree.handlers (clauses (known c.tree-item.result ∷ map known (drop (c.loop-tree.tree-index + 1) c.args.trees.now)) c.loop-tree.scope) = grind (arith, common_steps) in
    let among : Refuses (clauses (map known c.args.trees.now) c.args.scope.now).faults c.in_err-clause.field-0.0 = clauses_fault _ (known c.tree-item.result) _ c.loop-tree.scope c.loop-tree.handlers _ is c.in_err-clause.ensures.fault in
    search rules

pub tries::clauses-loop-tree-preserved : goal.tries::clauses-loop-tree-preserved
tries::clauses-loop-tree-preserved t c =
    let known = catch_effect c.args.env.now in
    let is : clauses (map known c.args.trees.now) c.args.scope.now ≡ clauses_behind c.loop-tree.handlers (clauses (known c.tree-item.result ∷ map known (drop (c.loop-tree.tree-index + 1) c.args.trees.now)) c.loop-tree.scope) = grind (arith, common_steps) in
    let next = is ∙ clauses_step (known c.tree-item.result) (map known (drop (c.loop-tree.tree-index + 1) c.args.trees.now)) c.loop-tree.scope c.clause.new.scope c.loop-tree.handlers _ c.in_ok-clause.ensures.handler in
    rw (c.in_ok-push.ensures.ok) next

pub tries::clauses-returns-clause-handlers : goal.tries::clauses-returns-clause-handlers
tries::clauses-returns-clause-handlers t c =
    let known = catch_effect c.args.env.now in
    let is : clauses (map known c.args.trees.now) c.args.scope.now ≡ clauses_behind c.loop-tree.handlers (clauses [] c.loop-tree.scope) =
    c.loop-tree.invariant ∙ at_drop_all (λ rest. clauses_behind c.loop-tree.handlers (clauses (map known rest) c.loop-tree.scope)) c.args.trees.now c.loop-tree.tree-index (omega arith) in
    is ∙ clauses_end c.loop-tree.handlers c.loop-tree.scope

pub statements::stmt-returns-in-Try : goal.statements::stmt-returns-in-Try
statements::stmt-returns-in-Try t c = rw (c.in-Try.is, effect_try _ _ _ _ _, sym c.get-in-Try.ensures, sym c.as_slice-in-Try.ensures) c.try_block.ensures
