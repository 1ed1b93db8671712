use Rattle.std.proofs.Common.{◌<◌, ap, ◌∙◌, arith}
use Rattle.compare.specs.Search.{at}
use Rattle.compare.specs.Spell.{one_take}
use Rattle.compare.proofs.Walks.{tallied_more, earlier}
use Rattle.compare.proofs.spell.count_entries.Goals as goal

pub loop-item-preserved : goal.loop-item-preserved
loop-item-preserved c =
    let back : (at c.args.cells.now c.loop-item.item).parent < c.loop-item.item = earlier c.args.cells.now c.args.place c.loop-item.item c.loop-item-test.true c.loop-item.invariant.up c.requires.chained in
    record {
      up = omega arith;
      few = omega arith;
      some = omega arith;
      tallied = tallied_more c.args.cells.now c.args.place c.loop-item.item c.loop-item-test.true c.loop-item.invariant.up c.loop-item.entries c.entries_of-entries.result (c.entries_of-entries.ensures.is ∙ ap one_take c.numbered_step.ensures) c.loop-item.invariant.tallied;
    }
