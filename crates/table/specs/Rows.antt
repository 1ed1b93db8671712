-- Which rows of a draft answer an input in a state, or in one of its stretches, and how many do.
use Rattle.std.specs.Prelude.{ℕ, zero, suc, ◌+◌, Bool, cond, ◌&&◌, Option, ◌==◌}
use Rattle.text.specs.declared.draft.Row.{Row}
use Rattle.text.specs.declared.draft.Draft.{Draft}
use Rattle.text.specs.Draft.{row_at}
use Rattle.table.specs.Meaning.{given_if}
use Rattle.table.specs.First.{first}
use Rattle.table.specs.Guard.{contains, half_days}

-- the row is one of the state and the input
abbrev pub belongs : ℕ → ℕ → Row → Bool
belongs s i w = w.state == s && w.input == i

-- the row is one of the state and the input, and contains the stretch
abbrev pub covers : ℕ → ℕ → ℕ → Row → Bool
covers s i r w = belongs s i w && contains half_days w.guard r

-- the same of the row with the number k
abbrev pub belongs_at : Draft → ℕ → ℕ → ℕ → Bool
belongs_at d s i k = belongs s i (row_at d k)

abbrev pub covers_at : Draft → ℕ → ℕ → ℕ → ℕ → Bool
covers_at d s i r k = covers s i r (row_at d k)

-- how many numbers below n pass a test
abbrev pub tally : (ℕ → Bool) → ℕ → ℕ
tally p zero = 0
tally p (suc n) = cond (p n) (tally p n + 1) (tally p n)

-- how many rows belong to the state and the input
abbrev pub rows_of : Draft → ℕ → ℕ → ℕ
rows_of d s i = tally (belongs_at d s i) d.rows.count

-- how many rows contain the stretch
abbrev pub rows_at : Draft → ℕ → ℕ → ℕ → ℕ
rows_at d s i r = tally (covers_at d s i r) d.rows.count

-- the number k, where the row with that number contains the stretch
abbrev pub if_covers : Draft → ℕ → ℕ → ℕ → ℕ → Option ℕ
if_covers d s i r k = given_if (covers_at d s i r k) k

-- the first row number whose row contains the stretch
abbrev pub row_number : Draft → ℕ → ℕ → ℕ → Option ℕ
row_number d s i r = first (if_covers d s i r) d.rows.count
