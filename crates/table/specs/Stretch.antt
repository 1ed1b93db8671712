-- How many stretches a state of a draft has.
use Rattle.std.specs.Prelude.{ℕ, zero, suc, ◌+◌, ◌*◌, max, cond, ◌==◌}
use Rattle.text.specs.declared.draft.State.{State}
use Rattle.text.specs.declared.draft.State.TheVariants.{Stay, Hold}
use Rattle.text.specs.declared.draft.Draft.{Draft}
use Rattle.text.specs.Draft.{row_at, state_at}
use Rattle.text.specs.Limits.{max_days}
use Rattle.table.specs.Guard.{last_end}

-- the most stretches of a state
abbrev pub max_stretches : ℕ
max_stretches = 2 * max_days + 2

-- the greatest finite guard end among those of the first n rows that are the state's
abbrev pub greatest_end : Draft → ℕ → ℕ → ℕ
greatest_end d s zero = 0
greatest_end d s (suc n) = cond ((row_at d n).state == s) (max (greatest_end d s n) (last_end (row_at d n).guard)) (greatest_end d s n)

-- a hold state has two stretches for each day; a stay state has them up to the last end, and one for all clocks above it
abbrev pub stretch_count : State → ℕ → ℕ
stretch_count Stay c = 2 * c + 2
stretch_count (Hold t u) c = 2 * t

abbrev pub stretches : Draft → ℕ → ℕ
stretches d s = stretch_count (state_at d s) (greatest_end d s d.rows.count)
