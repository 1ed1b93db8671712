use Rattle.std.proofs.Common.{arith}
use Rattle.table.specs.Means.{means}
use Rattle.table.specs.declared.word.Step.TheVariants.{Tick, Take}
use Rattle.compare.specs.Search.{at}
use Rattle.compare.proofs.Visits.{Stepping, number_room, tail_fresh, visiting_first, visiting_tick, visiting_take, visit_agrees}
use Rattle.compare.proofs.search.Machines.visit_head.Given as given
use Rattle.compare.proofs.search.Machines.visit_head.Goals as goal
use Rattle.compare.proofs.search.Machines.visit_head.Goals.{After-ticked, In_ok-next}

-- the pair after a tick of both machines
tick_stepping : (g : given.Over) (c : After-ticked g) → Stepping (means g.M.Machine c.args.self.now.left.now) (means g.N.Machine c.args.self.now.right.now) c.args.cells.now c.args.tail c.args.head (at c.args.cells.now c.args.head) Tick c.ticked.result
tick_stepping g c = record {
  left_lawful = g.met.M.Machine.lawful c.args.self.now.left.now;
  right_lawful = g.met.N.Machine.lawful c.args.self.now.right.now;
  inputs = c.args.self.now.same_inputs;
  room = c.requires.room;
  fit = tt;
  visiting = visiting_first c.requires.more c.requires.holds;
  reached = c.ticked.ensures;
}

pub queue-end-requires : goal.queue-end-requires
queue-end-requires g c =
    let st = tick_stepping g (goal.at.queue-end-requires g c).After-ticked in
    record { inside = rw c.count-width.ensures (number_room st); room = rw c.count-width.ensures (tail_fresh st) }

pub loop-input-init : goal.loop-input-init
loop-input-init g c =
    let st = tick_stepping g (goal.at.loop-input-init g c).After-ticked in
    visiting_tick c.queue-end.new.cells c.queue-end.result (rw c.count-width.ensures at c.queue-end.ensures) st

-- the pair after a take of both machines
take_stepping : (g : given.Over) (c : In_ok-next g) → Stepping (means g.M.Machine c.args.self.now.left.now) (means g.N.Machine c.args.self.now.right.now) c.loop-input.cells c.loop-input.end c.args.head (at c.args.cells.now c.args.head) (Take c.loop-input.input) c.in_ok-next.next
take_stepping g c = record {
  left_lawful = g.met.M.Machine.lawful c.args.self.now.left.now;
  right_lawful = g.met.N.Machine.lawful c.args.self.now.right.now;
  inputs = c.args.self.now.same_inputs;
  room = omega (arith, c.loop-input.auto.cells, c.requires.room);
  fit = omega (arith, c.inputs-input-end.ensures, c.loop-input-test.true);
  visiting = c.loop-input.invariant;
  reached = c.in_ok-next.ensures.0;
}

pub queue-end-requires-in-loop-input : goal.queue-end-requires-in-loop-input
queue-end-requires-in-loop-input g c =
    let st = take_stepping g (goal.at.queue-end-requires-in-loop-input g c).In_ok-next in
    record { inside = rw c.count-width.ensures (number_room st); room = rw c.count-width.ensures (tail_fresh st) }

pub loop-input-preserved : goal.loop-input-preserved
loop-input-preserved g c =
    let st = take_stepping g (goal.at.loop-input-preserved g c).In_ok-next in
    visiting_take c.queue-end-in-loop-input.new.cells c.queue-end-in-loop-input.result (rw c.count-width.ensures at c.queue-end-in-loop-input.ensures) st c.in_ok-next.ensures.1

pub returns : goal.returns
returns g c = visit_agrees c.loop-input.invariant (omega (arith, c.inputs-input-end.ensures, c.loop-input.auto.input-end))
