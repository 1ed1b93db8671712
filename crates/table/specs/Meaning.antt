-- What a machine means: how many states and inputs it has, where it starts, and what a tick and a take do.
use Rattle.std.specs.Prelude.{ℕ, ◌<◌, ◌≤◌, Bool, true, false, Some, None, Option}
use Rattle.text.specs.Limits.{max_inputs, max_outputs}
use Rattle.table.specs.Limits.{max_machine_states}

pub record Meaning : Type 0 where
  pub count : ℕ
  pub inputs : ℕ
  pub start : ℕ
  pub tick : ℕ → ℕ
  -- the next state and the output
  pub take : ℕ → ℕ → ℕ × ℕ

abbrev pub next : Meaning → ℕ → ℕ → ℕ
next m s i = (m.take s i).0

abbrev pub output : Meaning → ℕ → ℕ → ℕ
output m s i = (m.take s i).1

-- the numbers are within their limits, and no step leaves the states
pub record Lawful (m : Meaning) : Type 0 where
  pub few_states : m.count ≤ max_machine_states
  pub some_input : 1 ≤ m.inputs
  pub few_inputs : m.inputs ≤ max_inputs
  pub start_in : m.start < m.count
  pub tick_in : (s : ℕ) → s < m.count → m.tick s < m.count
  pub next_in : (s i : ℕ) → s < m.count → i < m.inputs → (m.take s i).0 < m.count
  pub output_in : (s i : ℕ) → s < m.count → i < m.inputs → (m.take s i).1 < max_outputs

-- an answer that is given only where its question lies inside
abbrev pub given_if : {A : Type 0} → Bool → A → Option A
given_if true a = Some a
given_if false a = None
