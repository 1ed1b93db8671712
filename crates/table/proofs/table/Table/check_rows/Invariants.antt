use Rattle.std.proofs.Common.{◌≡◌, None}
use Rattle.table.specs.First.{first}
use Rattle.table.specs.Sound.{row_fault}
use Rattle.table.proofs.table.Table.check_rows.Given as goal

abbrev pub invariant-loop-row : goal.invariant-loop-row
invariant-loop-row l = first (row_fault l.self.draft.now) l.row ≡ None
