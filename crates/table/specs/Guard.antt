-- Which clocks a guard contains, in q-ths of a day; a stretch is a clock in half days: stretch 2n is day n, stretch 2n+1 lies between n and n+1.
use Rattle.std.specs.Prelude.{ℕ, ◌*◌, max, Bool, true, false, ◌&&◌, nat_le, nat_lt}
use Rattle.text.specs.declared.draft.End.{End}
use Rattle.text.specs.declared.draft.End.TheVariants.{Shut, Open}
use Rattle.text.specs.declared.draft.High.{High}
use Rattle.text.specs.declared.draft.High.TheVariants.{At, Inf}
use Rattle.text.specs.declared.draft.Guard.{Guard}
use Rattle.text.specs.Draft.{high_day}

-- the grain in which a stretch counts as a clock
abbrev pub half_days : ℕ
half_days = 2

-- the clock of x q-ths is not below the low end at day n
abbrev pub above_low : ℕ → ℕ → End → ℕ → Bool
above_low q n Shut x = nat_le (q * n) x
above_low q n Open x = nat_lt (q * n) x

-- the clock of x q-ths is not above the high end
abbrev pub below_high : ℕ → High → ℕ → Bool
below_high q (At n Shut) x = nat_le x (q * n)
below_high q (At n Open) x = nat_lt x (q * n)
below_high q Inf x = true

-- the guard contains the clock of x q-ths
abbrev pub contains : ℕ → Guard → ℕ → Bool
contains q g x = above_low q g.low g.end x && below_high q g.high x

-- no clock lies between the ends
abbrev pub empty_between : ℕ → End → High → Bool
empty_between m Shut (At n Shut) = nat_lt n m
empty_between m Open (At n Shut) = nat_le n m
empty_between m Shut (At n Open) = nat_le n m
empty_between m Open (At n Open) = nat_le n m
empty_between m Shut Inf = false
empty_between m Open Inf = false

abbrev pub empty : Guard → Bool
empty g = empty_between g.low g.end g.high

-- the high end lies past t days: the guard, unless it is empty, holds a clock of t days or more
abbrev pub ends_past : ℕ → High → Bool
ends_past t (At n Shut) = nat_le t n
ends_past t (At n Open) = nat_lt t n
ends_past t Inf = true

abbrev pub passes : ℕ → Guard → Bool
passes t g = ends_past t g.high

-- the greatest finite end
abbrev pub last_end : Guard → ℕ
last_end g = max g.low (high_day g.high)
