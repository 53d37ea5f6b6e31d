use Rattle.std.proofs.Common.{◌≡◌, drop, map}
use Rattle.throw_check.specs.Statements.{behind_all, in_order, with_points}
use Rattle.throw_check.specs.Walks.{clauses_points, faults_left}
use Rattle.throw_check.proofs.+statements.Given as goal

abbrev pub invariant-statements::body-loop-s : goal.invariant-statements::body-loop-s
invariant-statements::body-loop-s l = record {
  scope : behind_all l.symbols l.list l.fn.scope ≡ behind_all l.symbols (drop l.s-index l.list) l.scope;
  handlers : l.handlers ≡ l.fn.handlers;
  left : faults_left l.symbols l.fn.handlers (in_order l.symbols (map (with_points l.symbols) l.list) l.fn.scope)
      ≡ faults_left l.symbols l.fn.handlers (in_order l.symbols (map (with_points l.symbols) (drop l.s-index l.list)) l.scope);
}

abbrev pub invariant-tries::each_clause-loop-tree : goal.invariant-tries::each_clause-loop-tree
invariant-tries::each_clause-loop-tree l = record {
  scope : l.scope ≡ l.fn.scope;
  handlers : l.handlers ≡ l.fn.handlers;
  left : faults_left l.symbols l.fn.handlers (clauses_points l.symbols l.list l.fn.scope)
      ≡ faults_left l.symbols l.fn.handlers (clauses_points l.symbols (drop l.tree-index l.list) l.fn.scope);
}
