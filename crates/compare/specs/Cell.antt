-- The blank cell, a list of nothing else, and the numbers that steps have in a cell.
use Rattle.std.specs.Prelude.{◌≡◌, ℕ, ◌+◌, ◌-◌, ◌<◌, cond, List, length, ◌==◌, slice_index_or}
use Rattle.table.specs.declared.word.Step.{Step}
use Rattle.table.specs.declared.word.Step.TheVariants.{Tick, Take}
use Rattle.compare.specs.declared.cell.Cell.{Cell}

abbrev pub blank : Cell
blank = record { left = 0; right = 0; parent = 0; step = 0; seen = 0 }

-- every cell of the list is blank
abbrev pub AllBlank : List Cell → Type 0
AllBlank cs = (k : ℕ) → k < length cs → slice_index_or cs k blank ≡ blank

-- a tick has the number 0, and the take of an input the next number after the input's
abbrev pub number_of : Step → ℕ
number_of Tick = 0
number_of (Take i) = i + 1

abbrev pub step_of : ℕ → Step
step_of n = cond (n == 0) Tick (Take (n - 1))
