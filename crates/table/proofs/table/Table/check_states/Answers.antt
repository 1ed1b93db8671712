use Rattle.std.proofs.Common.{rules}
use Rattle.table.specs.Sound.{state_fault}
use Rattle.table.proofs.FirstFaults.{refused_first}
use Rattle.table.proofs.table.Table.check_states.Goals as goal

pub returns-in_err-check : goal.returns-in_err-check
returns-in_err-check c = refused_first (state_fault c.args.self.draft.now) c.loop-number.number c.args.self.draft.now.states.count _ tt _ c.loop-number-test.true c.loop-number.invariant c.in_err-check.ensures (search rules)
