use Rattle.std.proofs.Common.{◌+◌}
use Rattle.table.specs.Means.{means}
use Rattle.compare.specs.Search.{Visiting}
use Rattle.compare.proofs.search.Machines.visit_head.Given as goal

abbrev pub invariant-loop-input : goal.invariant-loop-input
invariant-loop-input g l = Visiting (means g.M.Machine l.self.left.now) (means g.N.Machine l.self.right.now) l.cells l.end l.head l.from (l.input + 1)
