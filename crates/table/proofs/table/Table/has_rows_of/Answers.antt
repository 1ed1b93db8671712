use Rattle.std.proofs.Common.{rules, arith}
use Rattle.text.specs.Draft.{no_row}
use Rattle.table.specs.Rows.{belongs}
use Rattle.table.proofs.RowLists.{any_is}
use Rattle.table.proofs.table.Table.has_rows_of.Goals as goal

pub returns : goal.returns
returns c =
    let d = c.args.self.draft.now in
    let f = c.args.self.formed in
    any_is (belongs c.args.state c.args.input) d.rows.all no_row d.rows.count _ (omega (arith, f.sized.1, f.ranged.counts.3)) (search rules)
