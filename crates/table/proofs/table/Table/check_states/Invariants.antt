use Rattle.std.proofs.Common.{◌≡◌, None}
use Rattle.table.specs.First.{first}
use Rattle.table.specs.Sound.{state_fault}
use Rattle.table.proofs.table.Table.check_states.Given as goal

abbrev pub invariant-loop-number : goal.invariant-loop-number
invariant-loop-number l = first (state_fault l.self.draft.now) l.number ≡ None
