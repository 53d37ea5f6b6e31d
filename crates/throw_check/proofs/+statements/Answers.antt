use Rattle.std.proofs.Common.{◌≡◌, ◌∙◌, ◌+◌, List, [], ◌∷◌, ◌++◌, ap, arith, drop, map, rules, sym}
use Rattle.std.specs.Prelude.{option_map}
use Rattle.std.proofs.lemmas.Grind.{common_steps}
use Rattle.token_reading.specs.declared.fault.Fault.{Fault}
use Rattle.java_syntax.specs.declared.statement.CatchTree.{CatchTree}
use Rattle.java_syntax.specs.declared.statement.Stmt.{Stmt}
use Rattle.java_names.specs.declared.scope.Scope.{Scope}
use Rattle.java_names.specs.Refusals.{Refuses}
use Rattle.throw_check.specs.Statements.{behind, behind_all, branch, clause, in_order, points, uncaught, with_points}
use Rattle.throw_check.specs.Walks.{classes_of, clauses_points, faults_left, outside_try}
use Rattle.throw_check.proofs.LeftLemmas.{handles_behind, left_both, left_first, left_none, left_try, outside_inside}
use Rattle.throw_check.proofs.StatementLemmas.{behind_all_end, behind_all_step, in_order_end, in_order_step, points_if, points_try_parts}
use Rattle.throw_check.proofs.+statements.Goals as goal

-- ---- statements in order

pub statements::body-returns-in_err-stmt-clause-handled : goal.statements::body-returns-in_err-stmt-clause-handled
statements::body-returns-in_err-stmt-clause-handled t c =
    let y = c.args.symbols.now in
    let h = c.args.handlers.now in
    let symbols = y in
    let k = c.s-item.result in
    let s = c.loop-s.scope in
    let rest = drop (c.loop-s.s-index + 1) c.args.list.now in
    let is : drop c.loop-s.s-index c.args.list.now ≡ k ∷ rest = grind (arith, common_steps) in
    let whole : faults_left y h (in_order symbols (map (with_points symbols) c.args.list.now) c.args.scope.now) ≡ faults_left y h (points symbols k s ++ in_order symbols (map (with_points symbols) rest) (behind symbols k s))
    = c.loop-s.invariant.left ∙ ap (λ (ks : List Stmt). faults_left y h (in_order symbols (map (with_points symbols) ks) s)) is ∙ ap (faults_left y h) (in_order_step symbols k rest s) in
    let there : Refuses (faults_left y h (points symbols k s)) c.in_err-stmt.field-0.0 = rw c.loop-s.invariant.handlers at c.in_err-stmt.ensures.handled in
    let among : Refuses (faults_left y h (in_order symbols (map (with_points symbols) c.args.list.now) c.args.scope.now)) c.in_err-stmt.field-0.0
    = rw whole (left_first y h (points symbols k s) (in_order symbols (map (with_points symbols) rest) (behind symbols k s)) c.in_err-stmt.field-0.0 there) in
    search rules

pub statements::body-loop-s-preserved : goal.statements::body-loop-s-preserved
statements::body-loop-s-preserved t c =
    let y = c.args.symbols.now in
    let h = c.args.handlers.now in
    let symbols = y in
    let k = c.s-item.result in
    let s = c.loop-s.scope in
    let rest = drop (c.loop-s.s-index + 1) c.args.list.now in
    let after = in_order symbols (map (with_points symbols) rest) (behind symbols k s) in
    let is : drop c.loop-s.s-index c.args.list.now ≡ k ∷ rest = grind (arith, common_steps) in
    let whole : faults_left y h (in_order symbols (map (with_points symbols) c.args.list.now) c.args.scope.now) ≡ faults_left y h (points symbols k s ++ after)
    = c.loop-s.invariant.left ∙ ap (λ (ks : List Stmt). faults_left y h (in_order symbols (map (with_points symbols) ks) s)) is ∙ ap (faults_left y h) (in_order_step symbols k rest s) in
    let none : faults_left y h (points symbols k s) ≡ [] = rw c.loop-s.invariant.handlers at c.in_ok-stmt.ensures.handled in
    record {
      scope = c.loop-s.invariant.scope ∙ ap (λ (ks : List Stmt). behind_all symbols ks s) is ∙ behind_all_step symbols k rest s ∙ ap (behind_all symbols rest) (sym c.in_ok-stmt.ensures.scope);
      handlers = c.in_ok-stmt.ensures.handlers ∙ c.loop-s.invariant.handlers;
      left = whole ∙ left_both y h (points symbols k s) after ∙ ap (λ (fs : List Fault). fs ++ faults_left y h after) none ∙ ap (λ (next : Scope). faults_left y h (in_order symbols (map (with_points symbols) rest) next)) (sym c.in_ok-stmt.ensures.scope);
    }

pub statements::body-returns-clause-scope : goal.statements::body-returns-clause-scope
statements::body-returns-clause-scope t c =
    let symbols = c.args.symbols.now in
    let is : drop c.loop-s.s-index c.args.list.now ≡ [] = grind (arith, common_steps) in
    sym (c.loop-s.invariant.scope ∙ ap (λ (ks : List Stmt). behind_all symbols ks c.loop-s.scope) is ∙ behind_all_end symbols c.loop-s.scope)

pub statements::body-returns-clause-handled : goal.statements::body-returns-clause-handled
statements::body-returns-clause-handled t c =
    let y = c.args.symbols.now in
    let h = c.args.handlers.now in
    let symbols = y in
    let is : drop c.loop-s.s-index c.args.list.now ≡ [] = grind (arith, common_steps) in
    c.loop-s.invariant.left ∙ ap (λ (ks : List Stmt). faults_left y h (in_order symbols (map (with_points symbols) ks) c.loop-s.scope)) is ∙ ap (faults_left y h) (in_order_end symbols c.loop-s.scope) ∙ left_none y h

pub statements::stmt-returns-in-If-clause-handled : goal.statements::stmt-returns-in-If-clause-handled
statements::stmt-returns-in-If-clause-handled t c = rw (c.in-If.is, points_if _ _ _ _ _, sym c.get.ensures) c.choice.ensures.handled

-- ---- catch clauses

pub tries::each_clause-returns-in_err-clause-clause-handled : goal.tries::each_clause-returns-in_err-clause-clause-handled
tries::each_clause-returns-in_err-clause-clause-handled t c =
    let y = c.args.symbols.now in
    let h = c.args.handlers.now in
    let symbols = y in
    let k = c.tree-item.result in
    let s = c.args.scope.now in
    let rest = drop (c.loop-tree.tree-index + 1) c.args.list.now in
    let is : drop c.loop-tree.tree-index c.args.list.now ≡ k ∷ rest = grind (arith, common_steps) in
    let whole : faults_left y h (clauses_points symbols c.args.list.now s) ≡ faults_left y h (clause symbols k s ++ clauses_points symbols rest s)
    = c.loop-tree.invariant.left ∙ ap (λ (ks : List CatchTree). faults_left y h (clauses_points symbols ks s)) is in
    let there : Refuses (faults_left y h (clause symbols k s)) c.in_err-clause.field-0.0 = rw (c.loop-tree.invariant.handlers, c.loop-tree.invariant.scope) at c.in_err-clause.ensures.handled in
    let among : Refuses (faults_left y h (clauses_points symbols c.args.list.now s)) c.in_err-clause.field-0.0
    = rw whole (left_first y h (clause symbols k s) (clauses_points symbols rest s) c.in_err-clause.field-0.0 there) in
    search rules

pub tries::each_clause-loop-tree-preserved : goal.tries::each_clause-loop-tree-preserved
tries::each_clause-loop-tree-preserved t c =
    let y = c.args.symbols.now in
    let h = c.args.handlers.now in
    let symbols = y in
    let k = c.tree-item.result in
    let s = c.args.scope.now in
    let rest = drop (c.loop-tree.tree-index + 1) c.args.list.now in
    let is : drop c.loop-tree.tree-index c.args.list.now ≡ k ∷ rest = grind (arith, common_steps) in
    let whole : faults_left y h (clauses_points symbols c.args.list.now s) ≡ faults_left y h (clause symbols k s ++ clauses_points symbols rest s)
    = c.loop-tree.invariant.left ∙ ap (λ (ks : List CatchTree). faults_left y h (clauses_points symbols ks s)) is in
    let none : faults_left y h (clause symbols k s) ≡ [] = rw (c.loop-tree.invariant.handlers, c.loop-tree.invariant.scope) at c.in_ok-clause.ensures.handled in
    record {
      scope = c.in_ok-clause.ensures.scope ∙ c.loop-tree.invariant.scope;
      handlers = c.in_ok-clause.ensures.handlers ∙ c.loop-tree.invariant.handlers;
      left = whole ∙ left_both y h (clause symbols k s) (clauses_points symbols rest s) ∙ ap (λ (fs : List Fault). fs ++ faults_left y h (clauses_points symbols rest s)) none;
    }

pub tries::each_clause-returns-clause-handled : goal.tries::each_clause-returns-clause-handled
tries::each_clause-returns-clause-handled t c =
    let y = c.args.symbols.now in
    let h = c.args.handlers.now in
    let symbols = y in
    let is : drop c.loop-tree.tree-index c.args.list.now ≡ [] = grind (arith, common_steps) in
    c.loop-tree.invariant.left ∙ ap (λ (ks : List CatchTree). faults_left y h (clauses_points symbols ks c.args.scope.now)) is ∙ left_none y h

-- ---- `try`

pub tries::try_block-returns-in_err-inside-clause-handled : goal.tries::try_block-returns-in_err-inside-clause-handled
tries::try_block-returns-in_err-inside-clause-handled t c =
    let y = c.args.symbols.now in
    let h = c.args.handlers.now in
    let symbols = y in
    let s = c.args.scope.now in
    let classes = classes_of symbols c.args.clauses.now in
    let tried = points symbols c.args.tried.now s in
    let more = clauses_points symbols c.args.clauses.now s ++ branch (option_map (with_points symbols) c.args.last.now) s in
    let there : Refuses (faults_left y h (uncaught symbols classes tried)) c.in_err-inside.field-0.0
    = rw (left_try symbols h classes tried, sym c.in_ok-enter.ensures) c.in_err-inside.ensures.handled in
    let among : Refuses (faults_left y h (uncaught symbols classes tried ++ more)) c.in_err-inside.field-0.0 = left_first y h (uncaught symbols classes tried) more c.in_err-inside.field-0.0 there in
    search rules

pub tries::try_block-returns-clause-handled : goal.tries::try_block-returns-clause-handled
tries::try_block-returns-clause-handled t c =
    let y = c.args.symbols.now in
    let h = c.args.handlers.now in
    let symbols = y in
    let s = c.args.scope.now in
    let classes = classes_of symbols c.args.clauses.now in
    let tried = points symbols c.args.tried.now s in
    let caught = clauses_points symbols c.args.clauses.now s in
    let last = branch (option_map (with_points symbols) c.args.last.now) s in
    let outside : c.leave.new.self ≡ h = c.leave.ensures ∙ ap outside_try (c.in_ok-inside.ensures.handlers ∙ c.in_ok-enter.ensures) ∙ outside_inside h classes in
    let none_tried : faults_left y h (uncaught symbols classes tried) ≡ [] = rw (left_try symbols h classes tried, sym c.in_ok-enter.ensures) c.in_ok-inside.ensures.handled in
    let none_caught : faults_left y h caught ≡ [] = rw (outside, c.in_ok-inside.ensures.scope) at c.in_ok-each_clause.ensures.handled in
    handles_behind y h (uncaught symbols classes tried) (caught ++ last) c.branch-alloc.result none_tried
    (handles_behind y h caught last c.branch-alloc.result none_caught
    (rw (c.in_ok-each_clause.ensures.handlers, outside, c.in_ok-each_clause.ensures.scope, c.in_ok-inside.ensures.scope) at c.branch-alloc.ensures.handled))

pub statements::stmt-returns-in-Try-clause-handled : goal.statements::stmt-returns-in-Try-clause-handled
statements::stmt-returns-in-Try-clause-handled t c = rw (c.in-Try.is, points_try_parts _ _ _ _ _, sym c.get-in-Try.ensures, sym c.as_slice-in-Try.ensures) c.try_block.ensures.handled
