use Rattle.std.proofs.Common.{◌≡◌, ◌∙◌, sym, ap, subst, true, List, ℤ, arith}
use Rattle.std.specs.Prelude.{◌^◌}
use Rattle.std.specs.List.{All, list_any}
use Rattle.clause_form.specs.Clauses.{value, listed}
use Rattle.clause_form.specs.Derivation.{Refutes}
use Rattle.clause_solver.proofs.Logging.{run-push, run-refuted, run-fewer, run-given}
use Rattle.clause_solver.proofs.Satisfying.{settled-holds}
use Rattle.clause_solver.proofs.solver.search.Goals as goal

pub returns-in-Satisfied-clause-sat : goal.returns-in-Satisfied-clause-sat
returns-in-Satisfied-clause-sat c =
    let took = rw c.in-Satisfied.is at c.in_ok-turn.ensures.took in
    let values = c.in_ok-values-in-Satisfied.field-0.items in
    let facts = c.in_ok-values-in-Satisfied.ensures in
    let holds = settled-holds c.turn.new.self values facts.consistent c.in_ok-turn.ensures.kept took.1 took.2 facts.values in
    let P : List ℤ → Type 0 = λ d. list_any (value (listed values)) d ≡ true in
    run-given P c.args.clauses.now.clauses.items c.loop.search.clauses.items c.loop.log.items c.loop.counter c.loop.invariant.run (subst (λ cs. All P cs) took.0 holds)

pub returns-in-Refuted-clause-unsat : goal.returns-in-Refuted-clause-unsat
returns-in-Refuted-clause-unsat c =
    let took = rw c.in-Refuted.is at c.in_ok-turn.ensures.took in
    subst (λ log. Refutes c.args.clauses.now.clauses.items log) (sym c.in_ok-push-in-Refuted.ensures.items)
    (run-refuted c.args.clauses.now.clauses.items c.loop.search.clauses.items c.loop.log.items c.loop.counter c.in-Refuted.line c.loop.invariant.run took)

pub loop-preserved : goal.loop-preserved
loop-preserved c =
    let grew = rw c.in-Learned.is at c.in_ok-turn.ensures.took in
    record {
      kept = c.in_ok-turn.ensures.kept;
      variables = c.in_ok-turn.ensures.variables ∙ c.loop.invariant.variables;
      run = rw c.in_ok-push-in-Learned.ensures.items (run-push c.args.clauses.now.clauses.items c.loop.search.clauses.items c.turn.new.self.clauses.items c.loop.log.items c.loop.counter c.in-Learned.line grew.clause c.loop.invariant.run grew.made grew.adds grew.clauses);
    }

pub returns-clause-enough : goal.returns-clause-enough
returns-clause-enough c = λ enough.
    let fewer = run-fewer c.loop.search.trail c.args.clauses.now.clauses.items c.loop.search.clauses.items c.loop.log.items c.loop.counter c.loop.invariant.kept.named c.loop.invariant.run in
    let same = ap (λ n. 3 ^ n) c.loop.invariant.variables in
    absurd (omega (arith, fewer, same, enough, c.loop-test.false))
