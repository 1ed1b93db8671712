use Rattle.std.proofs.Common.{◌≡◌, take, count_by, ◌∙◌, rules, arith}
use Rattle.text.specs.Draft.{no_row}
use Rattle.table.specs.Rows.{covers}
use Rattle.table.proofs.RowLists.{count_is}
use Rattle.table.proofs.table.Table.count_rows_at.Goals as goal

pub returns : goal.returns
returns c =
    let d = c.args.self.draft.now in
    let f = c.args.self.formed in
    let e : c.count.result ≡ count_by (covers c.args.spot.state c.args.spot.input c.args.spot.stretch) (take c.args.self.draft.now.rows.count c.args.self.draft.now.rows.all) = search rules in
    e ∙ count_is (covers c.args.spot.state c.args.spot.input c.args.spot.stretch) d.rows.all no_row d.rows.count (omega (arith, f.sized.1, f.ranged.counts.3))
