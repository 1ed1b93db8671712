use Rattle.std.proofs.Common.{take}
use Rattle.std.specs.List.{flat_map}
use Rattle.text.specs.Put.{Puts}
use Rattle.compare.specs.Report.{entry_line}
use Rattle.compare.proofs.report.put_lines.Given as goal

abbrev pub invariant-loop-entry : goal.invariant-loop-entry
invariant-loop-entry l = Puts l.initial.out l.from l.out l.at (flat_map entry_line (take l.entry-index l.entries))
