use Rattle.std.proofs.Common.{◌≡◌, map, drop}
use Rattle.java_statements.specs.Effects.{sequence, clauses}
use Rattle.java_statements.specs.Statements.{effect, catch_effect}
use Rattle.java_statements.proofs.EffectLemmas.{behind, clauses_behind}
use Rattle.java_statements.proofs.+statements.Given as goal

abbrev pub invariant-statements::body-loop-s : goal.invariant-statements::body-loop-s
invariant-statements::body-loop-s l =
    sequence (map (effect l.env) l.statements) l.fn.scope ≡ behind l.steps (sequence (map (effect l.env) (drop l.s-index l.statements)) l.scope)

abbrev pub invariant-tries::clauses-loop-tree : goal.invariant-tries::clauses-loop-tree
invariant-tries::clauses-loop-tree l =
    clauses (map (catch_effect l.env) l.trees) l.fn.scope ≡ clauses_behind l.handlers (clauses (map (catch_effect l.env) (drop l.tree-index l.trees)) l.scope)
