-- What is known of a statement in a scope, and how statements follow one another.
use Rattle.std.specs.Prelude.{true, List, [], ◌∷◌, ◌++◌, Option, Some, None}
use Rattle.core_tree.specs.declared.stmt.Stmt.{Stmt as Step}
use Rattle.core_tree.specs.declared.stmt.Catch.{Catch as Handler}
use Rattle.token_reading.specs.declared.fault.Fault.{Fault}
use Rattle.java_syntax.specs.declared.statement.CatchTree.{CatchTree-F}
use Rattle.java_syntax.specs.declared.statement.Stmt.TheOpen.{Stmt-F}
use Rattle.java_names.specs.declared.scope.Scope.{Scope}
use Rattle.java_names.specs.Scope.{left}

-- the scope after a statement, what the statement resolves to, and the rules that are broken in it
pub record Effect : Type 0 where
  pub after : Scope
  pub step : Step
  pub faults : List Fault

-- the same of a catch clause
pub record CatchEffect : Type 0 where
  pub after : Scope
  pub handler : Handler
  pub faults : List Fault

-- the same of several statements, and of several catch clauses
pub record Effects : Type 0 where
  pub after : Scope
  pub steps : List Step
  pub faults : List Fault

pub record CatchEffects : Type 0 where
  pub after : Scope
  pub handlers : List Handler
  pub faults : List Fault

-- what is known of a part in each scope
abbrev pub Part : Type 0
Part = Scope → Effect

abbrev pub CatchPart : Type 0
CatchPart = Scope → CatchEffect

-- one node, with what is known of its parts
abbrev pub StmtNode : Type 0
StmtNode = Stmt-F Part CatchPart

abbrev pub CatchNode : Type 0
CatchNode = CatchTree-F Part CatchPart

-- each statement stands in the scope after the one before it
unfoldable pub sequence : List Part → Scope → Effects
sequence [] s = record { after = s; steps = []; faults = [] }
sequence (k ∷ ks) s = record {
  after = (sequence ks (k s).after).after;
  steps = (k s).step ∷ (sequence ks (k s).after).steps;
  faults = (k s).faults ++ (sequence ks (k s).after).faults;
}

unfoldable pub clauses : List CatchPart → Scope → CatchEffects
clauses [] s = record { after = s; handlers = []; faults = [] }
clauses (k ∷ ks) s = record {
  after = (clauses ks (k s).after).after;
  handlers = (k s).handler ∷ (clauses ks (k s).after).handlers;
  faults = (k s).faults ++ (clauses ks (k s).after).faults;
}

-- a statement by itself: the locals that it declares end with it
unfoldable pub inner : Part → Scope → Effect
inner k s = record (k s) { after = left s (k s).after }

abbrev pub in_loop : Scope → Scope
in_loop s = record s { in_loop = true }

-- the same, in a loop
unfoldable pub looped : Part → Scope → Effect
looped k s = record (k (in_loop s)) { after = left s (k (in_loop s)).after }

-- a statement that may be left out
pub record Branch : Type 0 where
  pub after : Scope
  pub step : Option Step
  pub faults : List Fault

unfoldable pub branch : Option Part → Scope → Branch
branch None s = record { after = s; step = None; faults = [] }
branch (Some k) s = record { after = (inner k s).after; step = Some (inner k s).step; faults = (inner k s).faults }
