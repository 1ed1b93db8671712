use Rattle.std.proofs.Common.{ℕ, Bool, max, cond, eqb, fold, sym, ap, ◌∙◌, rules, tests, arith}
use Rattle.std.proofs.lemmas.Iterator.{YieldsList-from_slice}
use Rattle.std.proofs.lemmas.Iterator.Consumers.{fold_from_yields_List}
use Rattle.text.specs.declared.draft.Row.{Row}
use Rattle.table.specs.Guard.{last_end}
use Rattle.table.proofs.RowLists.{fold_filter, greatest_is}
use Rattle.table.proofs.table.Table.greatest_end_of.Goals as goal

pub returns : goal.returns
returns c =
    let d = c.args.self.draft.now in
    let f = c.args.self.formed in
    let own : Row → Bool = λ w. eqb w.state c.args.state in
    let later : ℕ → Row → ℕ = λ a w. max a (last_end w.guard) in
    let kept : ℕ → Row → ℕ = λ a w. cond (own w) (later a w) a in
    fold_from_yields_List _ kept 0 c.fold.result c.fold.ensures.ran (YieldsList-from_slice c.rows.result.now cc) (λ a x b q k. search (rules, tests))
    ∙ ap (fold kept 0) c.rows.ensures
    ∙ sym (fold_filter own later 0 _)
    ∙ greatest_is d c.args.state d.rows.count (omega (arith, f.sized.1, f.ranged.counts.3))
