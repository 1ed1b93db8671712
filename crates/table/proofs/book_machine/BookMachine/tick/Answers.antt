use Rattle.std.proofs.Common.{◌<◌, sym, subst}
use Rattle.text.specs.declared.draft.Draft.{Draft}
use Rattle.table.specs.Stretch.{stretches}
use Rattle.table.specs.Answering.{at_valid}
use Rattle.table.proofs.book_machine.BookMachine.tick.Goals as goal

pub invariant_of-state : goal.invariant_of-state
invariant_of-state c =
    let v = at_valid c.args.self.now.draft c.args.state c.in_ok-at.at c.in_ok-at.stretch c.in_ok-at.ensures in
    record { inside = subst (λ (d : Draft). c.in_ok-at.at < d.states.count) (sym c.table.ensures) v.state_in }

pub after_tick-next-requires : goal.after_tick-next-requires
after_tick-next-requires c =
    let v = at_valid c.args.self.now.draft c.args.state c.in_ok-at.at c.in_ok-at.stretch c.in_ok-at.ensures in
    subst (λ (d : Draft). c.in_ok-at.stretch < stretches d c.in_ok-at.at) (sym c.table.ensures) v.stretch_in
