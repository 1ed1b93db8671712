use Rattle.std.proofs.Common.{ap, ◌∙◌}
use Rattle.table.specs.Means.{means}
use Rattle.compare.specs.declared.cell.Cell.{Cell}
use Rattle.compare.proofs.Visits.{held_first}
use Rattle.compare.proofs.search.Machines.search.Goals as goal

pub loop-head-init : goal.loop-head-init
loop-head-init g c = held_first (means g.M.Machine c.args.self.now.left.now) (means g.N.Machine c.args.self.now.right.now) (g.met.M.Machine.lawful c.args.self.now.left.now) (g.met.N.Machine.lawful c.args.self.now.right.now) c.args.cells.now c.requires.room c.requires.blank c.item-first.result (ap (λ (d : Cell). d.left) c.item-first.ensures ∙ c.start.ensures) (ap (λ (d : Cell). d.right) c.item-first.ensures ∙ c.start-2.ensures) c.queue-tail.new.cells c.queue-tail.result (rw c.count.ensures at c.queue-tail.ensures)
