-- The rows and states of a draft by their numbers, and the ranges of its numbers.
use Rattle.std.specs.Prelude.{◌≡◌, ℕ, ◌<◌, ◌≤◌, length, Some, None, Option, slice_index_or}
use Rattle.text.specs.declared.draft.End.TheVariants.{Shut}
use Rattle.text.specs.declared.draft.High.{High}
use Rattle.text.specs.declared.draft.High.TheVariants.{At, Inf}
use Rattle.text.specs.declared.draft.Guard.{Guard}
use Rattle.text.specs.declared.draft.Row.{Row}
use Rattle.text.specs.declared.draft.State.{State}
use Rattle.text.specs.declared.draft.State.TheVariants.{Stay, Hold}
use Rattle.text.specs.declared.draft.Draft.{Draft}
use Rattle.text.specs.Limits.{max_inputs, max_outputs, max_states, max_rows, max_days}

-- what stands at a place past the last row
abbrev pub no_row : Row
no_row = record { state = 0; input = 0; guard = record { low = 0; end = Shut; high = At 0 Shut }; output = 0; next = 0 }

abbrev pub row_at : Draft → ℕ → Row
row_at d k = slice_index_or d.rows.all k no_row

abbrev pub state_at : Draft → ℕ → State
state_at d s = slice_index_or d.states.all s Stay

-- the day that a high end names; of inf one that lies in every range
abbrev pub high_day : High → ℕ
high_day (At n e) = n
high_day Inf = 0

abbrev pub day_of : Option ℕ → ℕ
day_of (Some n) = n
day_of None = 0

-- the timeout and the target; of a stay state numbers that lie in every range
abbrev pub timeout_of : State → ℕ
timeout_of Stay = 1
timeout_of (Hold t u) = t

abbrev pub target_of : State → ℕ
target_of Stay = 0
target_of (Hold t u) = u

abbrev pub InputsRanged : Draft → Type 0
InputsRanged d = (1 ≤ d.inputs) × (d.inputs ≤ max_inputs) × (1 ≤ d.outputs) × (d.outputs ≤ max_outputs)

abbrev pub CountsRanged : Draft → Type 0
CountsRanged d = (1 ≤ d.states.count) × (d.states.count ≤ max_states) × (1 ≤ d.rows.count) × (d.rows.count ≤ max_rows)

abbrev pub StateRanged : ℕ → State → Type 0
StateRanged n s = (1 ≤ timeout_of s) × (timeout_of s ≤ max_days) × (target_of s < n)

abbrev pub StatesRanged : Draft → Type 0
StatesRanged d = (s : ℕ) → s < d.states.count → StateRanged d.states.count (state_at d s)

abbrev pub RowNamed : ℕ → ℕ → ℕ → Row → Type 0
RowNamed inputs outputs states r = (r.state < states) × (r.input < inputs) × (r.output < outputs) × (r.next < states)

abbrev pub RowsNamed : Draft → Type 0
RowsNamed d = (k : ℕ) → k < d.rows.count → RowNamed d.inputs d.outputs d.states.count (row_at d k)

abbrev pub GuardRanged : Guard → Type 0
GuardRanged g = (g.low ≤ max_days) × (high_day g.high ≤ max_days)

abbrev pub RowRanged : ℕ → ℕ → ℕ → Row → Type 0
RowRanged inputs outputs states r = RowNamed inputs outputs states r × GuardRanged r.guard

abbrev pub GuardsRanged : Draft → Type 0
GuardsRanged d = (k : ℕ) → k < d.rows.count → GuardRanged (row_at d k).guard

-- the arrays have the places that their types give them
abbrev pub Sized : Draft → Type 0
Sized d = (length d.states.all ≡ max_states) × (length d.rows.all ≡ max_rows)

-- places past the counts hold one fixed value, so that drafts that say the same are the same
abbrev pub StatesPadded : Draft → Type 0
StatesPadded d = (s : ℕ) → d.states.count ≤ s → state_at d s ≡ Stay

abbrev pub RowsPadded : Draft → Type 0
RowsPadded d = (k : ℕ) → d.rows.count ≤ k → row_at d k ≡ no_row

-- every number of the draft lies in its range
pub record Ranged (d : Draft) : Type 0 where
  pub inputs : InputsRanged d
  pub counts : CountsRanged d
  pub states : StatesRanged d
  pub named : RowsNamed d
  pub guards : GuardsRanged d
  pub states_padded : StatesPadded d
  pub rows_padded : RowsPadded d

-- a draft as the code holds one: its numbers lie in their ranges, and its arrays have their places
pub record Formed (d : Draft) : Type 0 where
  pub ranged : Ranged d
  pub sized : Sized d
