use Rattle.std.proofs.Common.{nat_lt, take, drop, ap, ◌∙◌, rules, tests, arith}
use Rattle.std.proofs.lemmas.Iterator.{YieldsList-from_slice}
use Rattle.std.proofs.lemmas.Iterator.Search.{position_from_yields_List}
use Rattle.table.proofs.book.Book.state_of.Goals as goal

pub returns : goal.returns
returns c =
    let ends = drop 1 c.args.self.now.offsets in
    let counted = take c.args.self.now.draft.states.count ends in
    position_from_yields_List (nat_lt c.args.sought) _ _ _ c.position.ensures.ran
    (YieldsList-from_slice counted (c.iter.ensures.rest ∙ ap (λ n. take n ends) (omega (arith, c.from.ensures))))
    (λ x b q k. search (rules, tests))
