use Rattle.std.proofs.Common.{rules}
use Rattle.table.specs.Sound.{row_fault}
use Rattle.table.proofs.FirstFaults.{refused_first}
use Rattle.table.proofs.table.Table.check_rows.Goals as goal

pub returns-in_err-check_row : goal.returns-in_err-check_row
returns-in_err-check_row c = refused_first (row_fault c.args.self.draft.now) c.loop-row.row c.args.self.draft.now.rows.count _ tt _ c.loop-row-test.true c.loop-row.invariant c.in_err-check_row.ensures (search rules)
