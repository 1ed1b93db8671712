-- The numbers of an allowance's states, and that its steps stay among them.
use Rattle.std.specs.Prelude.{ℕ, ◌*◌, ◌/◌, ◌<◌, ◌≤◌}
use Rattle.std.proofs.Common.{arith}
use Rattle.text.specs.Limits.{max_days}
use Rattle.table.specs.Limits.{max_landings}
use Rattle.table.specs.Meaning.{Lawful}
use Rattle.table.specs.Allowance.{allowance_count, state_number, allowance_tick, allowance_take}

pub quotient_in : (n p s : ℕ) → 1 ≤ p → s < allowance_count n p → s / (2 * p) ≤ n
quotient_in n p s l h = grind arith

-- the number of landings that are left and a stretch is that of a state
pub number_in : (n p l h : ℕ) → l ≤ n → h < 2 * p → state_number n p (l, h) < allowance_count n p
number_in n p l h a b = grind arith

pub allowance_lawful : (n p : ℕ) → n ≤ max_landings → 1 ≤ p → p ≤ max_days → Lawful (record { count = allowance_count n p; inputs = 1; start = 0; tick = allowance_tick n p; take = λ s i. allowance_take n p s })
allowance_lawful n p few some short = record {
  few_states = grind arith;
  some_input = grind arith;
  few_inputs = grind arith;
  start_in = grind arith;
  tick_in = λ s h. grind arith;
  next_in = λ s i l k. grind arith;
  output_in = λ s i l k. grind arith;
}
