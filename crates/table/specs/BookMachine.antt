-- What a book means as a machine: a tick goes from stretch to stretch, and a take follows the row whose guard the stretch lies in.
use Rattle.std.specs.Prelude.{ℕ, ◌+◌, cond, Some, None, Option, nat_lt}
use Rattle.text.specs.declared.draft.State.{State}
use Rattle.text.specs.declared.draft.State.TheVariants.{Stay, Hold}
use Rattle.text.specs.declared.draft.Row.{Row}
use Rattle.text.specs.declared.draft.Draft.{Draft}
use Rattle.text.specs.Draft.{row_at, state_at}
use Rattle.table.specs.Rows.{row_number}
use Rattle.table.specs.Stretch.{stretches}
use Rattle.table.specs.Meaning.{Meaning}
use Rattle.table.specs.Offsets.{number, place, all_stretches}

-- where one tick leads, by what the state is and how many stretches it has
abbrev pub moved : State → ℕ → ℕ × ℕ → ℕ × ℕ
moved Stay w p = cond (nat_lt (p.1 + 1) w) (p.0, p.1 + 1) p
moved (Hold t u) w p = cond (nat_lt (p.1 + 1) w) (p.0, p.1 + 1) (u, 0)

abbrev pub place_after : Draft → ℕ × ℕ → ℕ × ℕ
place_after d p = moved (state_at d p.0) (stretches d p.0) p

abbrev pub book_tick : Draft → ℕ → ℕ
book_tick d n = number d (place_after d (place d n))

-- the number that was found; of none the first
abbrev pub found_number : Option ℕ → ℕ
found_number (Some k) = k
found_number None = 0

-- the row that answers the input in a state and a stretch
abbrev pub answering_row : Draft → ℕ × ℕ → ℕ → Row
answering_row d p i = row_at d (found_number (row_number d p.0 i p.1))

abbrev pub book_take : Draft → ℕ → ℕ → ℕ × ℕ
book_take d n i = (number d ((answering_row d (place d n) i).next, 0), (answering_row d (place d n) i).output)

abbrev pub book_meaning : Draft → Meaning
book_meaning d = record { count = all_stretches d; inputs = d.inputs; start = 0; tick = book_tick d; take = book_take d }
