use Rattle.std.proofs.Common.{◌≡◌, None}
use Rattle.table.specs.First.{first}
use Rattle.table.specs.Sound.{input_fault}
use Rattle.table.proofs.table.TableState.check.Given as goal

abbrev pub invariant-loop-input : goal.invariant-loop-input
invariant-loop-input l = first (input_fault l.self.table.draft.now l.self.number) l.input ≡ None
