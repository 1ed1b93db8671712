use Rattle.std.proofs.Common.{sym, arith}
use Rattle.compare.proofs.Walks.{walk_some, walk_tick, walk_take, walked, walked_rest}
use Rattle.compare.proofs.spell.spell.Goals as goal
use Rattle.compare.proofs.spell.spell.Goals.{in-Tick, in-Take}

pub overflow_sub-slot-in-Take : goal.overflow_sub-slot-in-Take
overflow_sub-slot-in-Take c = omega (arith, walk_some c.loop-item.invariant c.loop-item-test.true (sym c.in-Take.ensures))

pub loop-item-preserved : goal.loop-item-preserved
loop-item-preserved c = elim c.match-numbered_step.branch [
  | in-Tick w ↦ rw (w.slot-is, w.wait-is, w.next-is, w.word-is) (walk_tick c.loop-item.invariant c.loop-item-test.true (sym w.in-Tick.ensures))
  | in-Take w ↦ rw (w.slot-is, w.wait-is, w.next-is, w.word-is) (walk_take c.loop-item.invariant c.loop-item-test.true c.requires.room (sym w.in-Take.ensures))
]

pub returns : goal.returns
returns c = record { written = walked c.loop-item.invariant c.loop-item-test.false c.requires.room; rest = walked_rest c.loop-item.invariant c.loop-item-test.false }
