use Rattle.std.proofs.Common.{◌≡◌, ◌*◌, ◌^◌, ◌≤◌, take}
use Rattle.table.specs.Word.{steps}
use Rattle.table.proofs.grain.Grain.steps.Given as goal

abbrev pub invariant-loop-entry : goal.invariant-loop-entry
invariant-loop-entry l = (l.all ≤ 2 ^ 64 * l.entry-index) × (l.all ≡ steps l.self.parts (take l.entry-index l.word))
