use Rattle.std.proofs.Common.{◌≡◌, ◌∙◌, ◌++◌, ◌∷◌, [], ap, length, length-append, arith}
use Rattle.clause_solver.specs.Occurrences.{numbers_in}
use Rattle.clause_solver.proofs.OccurrenceLists.{empty-push}
use Rattle.clause_solver.proofs.occurrences.Occurrences.new.Goals as goal

pub loop-init : goal.loop-init
loop-init c = record {
  size = ap length c.new-lists.ensures.items;
  empty = λ q. ap (λ lists. numbers_in lists q) c.new-lists.ensures.items;
}

pub loop-preserved : goal.loop-preserved
loop-preserved c =
    let old = c.loop.lists.items in
    let list = c.new.result in
    let pushed : c.push.new.self.items ≡ old ++ list ∷ [] = c.in_ok-push.ensures.items in
    record {
      size = omega (arith, ap length pushed, length-append old (list ∷ []), c.loop.invariant.size);
      empty = λ q. ap (λ lists. numbers_in lists q) pushed ∙ empty-push old list c.new.ensures.items c.loop.invariant.empty q;
    }

pub returns : goal.returns
returns c = record {
  size = omega (arith, c.loop.invariant.size, c.loop-test.false);
  empty = c.loop.invariant.empty;
}
