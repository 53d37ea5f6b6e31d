use Rattle.type_safety.proofs.Runs.{never_stuck, uncaught_class}
use Rattle.type_safety.proofs.law.never_stuck.Goals as goal

pub returns-clause-never_stuck : goal.returns-clause-never_stuck
returns-clause-never_stuck c p args steps journal typed = never_stuck p typed args steps journal

pub returns-clause-uncaught : goal.returns-clause-uncaught
returns-clause-uncaught c p args steps journal class message typed = uncaught_class p typed args steps journal class message
