use Rattle.std.proofs.Common.{◌-◌, length}
use Rattle.table.specs.Means.{means}
use Rattle.compare.specs.Search.{Holds}
use Rattle.compare.proofs.search.Machines.search.Given as goal

abbrev pub invariant-loop-head : goal.invariant-loop-head
invariant-loop-head g l = Holds (means g.M.Machine l.self.left.now) (means g.N.Machine l.self.right.now) l.cells l.tail l.head 0

abbrev pub decreases-loop-head : goal.decreases-loop-head
decreases-loop-head g l = length l.initial.cells - l.head
