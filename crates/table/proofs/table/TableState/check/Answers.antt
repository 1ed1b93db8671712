use Rattle.std.proofs.Common.{rules}
use Rattle.table.specs.Sound.{input_fault}
use Rattle.table.proofs.FirstFaults.{refused_first}
use Rattle.table.proofs.table.TableState.check.Goals as goal

pub returns-in_err-check_input : goal.returns-in_err-check_input
returns-in_err-check_input c = refused_first (input_fault c.args.self.table.draft.now c.args.self.number) c.loop-input.input c.args.self.table.draft.now.inputs _ tt _ c.loop-input-test.true c.loop-input.invariant c.in_err-check_input.ensures (search rules)
