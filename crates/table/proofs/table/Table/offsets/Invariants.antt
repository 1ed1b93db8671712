use Rattle.std.proofs.Common.{◌≡◌, ℕ, ◌+◌, ◌*◌, ◌<◌, ◌≤◌, length, get_or}
use Rattle.text.specs.Limits.{max_states}
use Rattle.table.specs.Stretch.{max_stretches}
use Rattle.table.specs.Offsets.{below}
use Rattle.table.proofs.table.Table.offsets.Given as goal

abbrev pub invariant-loop-number : goal.invariant-loop-number
invariant-loop-number l = (length l.offsets ≡ max_states + 1) × (l.sum ≤ max_stretches * l.number) × (l.sum ≡ below l.self.draft.now l.number) × ((k : ℕ) → k ≤ l.number → get_or l.offsets k 0 ≡ below l.self.draft.now k) × ((k : ℕ) → l.number < k → get_or l.offsets k 0 ≡ 0)
