use Rattle.std.proofs.Common.{length, ap, arith}
use Rattle.std.proofs.lemmas.List.Folds.{length-flat_map-take}
use Rattle.compare.specs.Report.{entry_line}
use Rattle.text.proofs.Puts.{puts_line, puts_as}
use Rattle.compare.proofs.Reports.{no_entry}
use Rattle.compare.proofs.report.put_lines.Goals as goal

pub put_line-at-requires : goal.put_line-at-requires
put_line-at-requires c =
    let room = length-flat_map-take entry_line c.args.entries.now c.loop-entry.entry-index no_entry c.loop-entry-test.true in
    omega (arith, room, ap length c.line_of.ensures, c.loop-entry.invariant.long, c.requires)

pub loop-entry-preserved : goal.loop-entry-preserved
loop-entry-preserved c = puts_line entry_line _ _ no_entry c.loop-entry-test.true c.loop-entry.invariant (puts_as c.line_of.ensures c.put_line-at.ensures)
