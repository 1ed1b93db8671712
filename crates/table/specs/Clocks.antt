-- Clocks of every fineness: which of them lie in a guard, and in which stretch of a state each of them is.
use Rattle.std.specs.Prelude.{◌≡◌, ℕ, ◌+◌, ◌*◌, ◌≤◌, min, true}
use Rattle.text.specs.declared.draft.Guard.{Guard}
use Rattle.text.specs.declared.draft.State.{State}
use Rattle.text.specs.declared.draft.State.TheVariants.{Stay, Hold}
use Rattle.text.specs.declared.draft.Draft.{Draft}
use Rattle.text.specs.Draft.{state_at}
use Rattle.table.specs.Guard.{contains}
use Rattle.table.specs.Stretch.{greatest_end}
use Rattle.table.specs.Word.{ticks}

-- a clock that shows a number of parts, of which a day has at least one
pub record Clock : Type 0 where
  pub a_day : ℕ
  pub some : 1 ≤ a_day
  pub parts : ℕ

abbrev pub Lies : Guard → Clock → Type 0
Lies g x = contains x.a_day g x.parts ≡ true

-- the clock shows t days or more
abbrev pub Reaches : ℕ → Clock → Type 0
Reaches t x = x.a_day * t ≤ x.parts

-- no clock lies in the guard
abbrev pub Empty : Guard → Type 0
Empty g = (x : Clock) → Lies g x → ⊥

-- the guard holds a clock that the state never shows
abbrev pub Past : State → Guard → Type 0
Past Stay g = ⊥
Past (Hold t u) g = (x : Clock) × Lies g x × Reaches t x

-- the stretch that a clock is in, where c is the greatest end of the state: 2n at n days sharp, 2n+1 between n and n+1 days, and in a stay state one stretch for all that is later than c
abbrev pub stretch_by : State → ℕ → Clock → ℕ
stretch_by Stay c x = min (ticks x.a_day x.parts) (2 * c + 1)
stretch_by (Hold t u) c x = ticks x.a_day x.parts

abbrev pub stretch_of : Draft → ℕ → Clock → ℕ
stretch_of d s x = stretch_by (state_at d s) (greatest_end d s d.rows.count) x

-- the guard contains the stretch: all clocks that are in it
abbrev pub Contains : Draft → ℕ → Guard → ℕ → Type 0
Contains d s g r = (x : Clock) → stretch_of d s x ≡ r → Lies g x
