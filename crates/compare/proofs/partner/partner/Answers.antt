use Rattle.std.proofs.Common.{◌≡◌, ◌≢◌, rules, arith}
use Rattle.std.proofs.lemmas.Iterator.{first_from_Range}
use Rattle.table.specs.Means.{means}
use Rattle.compare.specs.Search.{at, pair_number}
use Rattle.compare.proofs.Partners.{partner_from, reached_in}
use Rattle.compare.proofs.partner.partner.Goals as goal

pub returns-then-state-count : goal.returns-then-state-count
returns-then-state-count g c holding reached = omega (arith, reached_in (means g.M.Machine c.args.left.now) (g.met.M.Machine.lawful c.args.left.now) c.args.state reached, c.count.ensures, c.if-state-count.true)

pub returns : goal.returns
returns g c holding =
    let n = means g.N.Machine c.args.right.now in
    partner_from (means g.M.Machine c.args.left.now) n c.args.cells.now holding c.args.state (omega (arith, c.count.ensures, c.if-state-count.false)) c.find.result
    (rw c.count-width.ensures at
    (first_from_Range _ _ _ _ (λ t. (at c.args.cells.now (pair_number c.count-width.result c.args.state t)).seen ≡ 1) (λ t. (at c.args.cells.now (pair_number c.count-width.result c.args.state t)).seen ≢ 1) c.find.ensures.ran
    (λ t q called. search rules) (λ t q called. (search rules, search rules))))
