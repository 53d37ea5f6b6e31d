use Rattle.std.specs.BinaryHeap.{heap_len}
use Rattle.clause_solver.proofs.order.Order.pick.Given as goal

abbrev pub decreases-loop-candidate : goal.decreases-loop-candidate
decreases-loop-candidate l = heap_len l.self.waiting
