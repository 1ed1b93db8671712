-- An allowance of n landings that is refilled after p quiet days: when it is refused, and what it means as a machine.
use Rattle.std.specs.Prelude.{ℕ, zero, suc, ◌+◌, ◌-◌, ◌*◌, ◌/◌, ◌%◌, cond, ◌||◌, Some, None, Option, nat_lt}
use Rattle.text.specs.Limits.{max_days}
use Rattle.table.specs.Limits.{max_landings}
use Rattle.table.specs.declared.fault.TableFault.{TableFault}
use Rattle.table.specs.declared.fault.TableFault.TheVariants.{Landings, QuietDays}

-- landings outside their range come before days outside theirs
abbrev pub allowance_fault : ℕ → ℕ → Option TableFault
allowance_fault n p =
    cond (nat_lt n 1 || nat_lt max_landings n) (Some Landings) (cond (nat_lt p 1 || nat_lt max_days p) (Some QuietDays) None)

-- the stretches of the quiet days, for each number of landings left from n to 0
abbrev pub allowance_count : ℕ → ℕ → ℕ
allowance_count n p = (n + 1) * (2 * p)

-- the number of the state with l landings left in stretch h
abbrev pub state_number : ℕ → ℕ → ℕ × ℕ → ℕ
state_number n p x = (n - x.0) * (2 * p) + x.1

-- the landings left and the stretch of the state with the number s
abbrev pub left_at : ℕ → ℕ → ℕ → ℕ × ℕ
left_at n p s = (n - s / (2 * p), s % (2 * p))

-- a tick goes to the next stretch, and from the last one to all landings
abbrev pub left_after : ℕ → ℕ → ℕ × ℕ → ℕ × ℕ
left_after n p x = cond (nat_lt (x.1 + 1) (2 * p)) (x.0, x.1 + 1) (n, 0)

abbrev pub allowance_tick : ℕ → ℕ → ℕ → ℕ
allowance_tick n p s = state_number n p (left_after n p (left_at n p s))

-- a landing that is left is taken away and answered by 1; with none left the answer is 0
abbrev pub landed : ℕ → ℕ × ℕ
landed zero = (0, 0)
landed (suc l) = (l, 1)

abbrev pub allowance_take : ℕ → ℕ → ℕ → ℕ × ℕ
allowance_take n p s = (state_number n p ((landed (left_at n p s).0).0, 0), (landed (left_at n p s).0).1)
