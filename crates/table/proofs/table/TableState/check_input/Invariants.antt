use Rattle.std.proofs.Common.{◌≡◌, None}
use Rattle.table.specs.First.{first}
use Rattle.table.specs.Sound.{stretch_fault}
use Rattle.table.proofs.table.TableState.check_input.Given as goal

abbrev pub invariant-loop-stretch : goal.invariant-loop-stretch
invariant-loop-stretch l = first (stretch_fault l.self.table.draft.now l.self.number l.input) l.stretch ≡ None
