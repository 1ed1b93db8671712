use Rattle.std.proofs.Common.{ap, ◌∙◌, rules, tests, arith}
use Rattle.std.specs.List.{position}
use Rattle.std.proofs.lemmas.Iterator.{YieldsList-from_slice}
use Rattle.std.proofs.lemmas.Iterator.Search.{position_from_yields_List}
use Rattle.text.specs.Draft.{no_row}
use Rattle.table.specs.Rows.{covers}
use Rattle.table.proofs.RowLists.{position_is}
use Rattle.table.proofs.table.Table.row_number_at.Goals as goal

pub returns : goal.returns
returns c =
    let d = c.args.self.draft.now in
    let f = c.args.self.formed in
    let p = covers c.args.spot.state c.args.spot.input c.args.spot.stretch in
    let e = position_from_yields_List p _ _ c.position.result c.position.ensures.ran (YieldsList-from_slice c.rows.result.now cc) (λ x b q k. search (rules, tests)) in
    e ∙ ap (position p) c.rows.ensures ∙ position_is p d.rows.all no_row d.rows.count (omega (arith, f.sized.1, f.ranged.counts.3))
