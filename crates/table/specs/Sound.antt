-- What makes a draft sound, and the first fault of a draft that is not, in the order of the check.
use Rattle.std.specs.Prelude.{◌≡◌, ℕ, zero, suc, ◌<◌, Bool, false, cond, Some, None, Option, ◌==◌}
use Rattle.std.specs.Option.{option_or}
use Rattle.text.specs.declared.draft.Guard.{Guard}
use Rattle.text.specs.declared.draft.State.{State}
use Rattle.text.specs.declared.draft.State.TheVariants.{Stay, Hold}
use Rattle.text.specs.declared.draft.Draft.{Draft}
use Rattle.text.specs.Draft.{row_at, state_at, Ranged}
use Rattle.table.specs.declared.fault.Spot.{Spot}
use Rattle.table.specs.declared.fault.TableFault.{TableFault}
use Rattle.table.specs.declared.fault.TableFault.TheVariants.{EmptyGuard, PastTimeout, TwoRows, NoRow}
use Rattle.table.specs.First.{first}
use Rattle.table.specs.Guard.{empty, passes}
use Rattle.table.specs.Rows.{rows_of, rows_at}
use Rattle.table.specs.Stretch.{stretches}

-- the guard holds a clock that the state never shows
abbrev pub past_timeout : State → Guard → Bool
past_timeout Stay g = false
past_timeout (Hold t u) g = passes t g

-- no guard is empty
abbrev pub NoneEmpty : Draft → Type 0
NoneEmpty d = (k : ℕ) → k < d.rows.count → empty (row_at d k).guard ≡ false

-- where a state holds, its guards end before the timeout
abbrev pub NonePast : Draft → Type 0
NonePast d = (k : ℕ) → k < d.rows.count → past_timeout (state_at d (row_at d k).state) (row_at d k).guard ≡ false

-- exactly one row contains each stretch of each state and input
abbrev pub OneRow : Draft → Type 0
OneRow d = (s i r : ℕ) → s < d.states.count → i < d.inputs → r < stretches d s → rows_at d s i r ≡ 1

pub record Sound (d : Draft) : Type 0 where
  pub ranged : Ranged d
  pub none_empty : NoneEmpty d
  pub none_past : NonePast d
  pub one_row : OneRow d

-- an empty guard comes before one past the timeout
abbrev pub row_fault : Draft → ℕ → Option TableFault
row_fault d k = cond (empty (row_at d k).guard) (Some (EmptyGuard k)) (cond (past_timeout (state_at d (row_at d k).state) (row_at d k).guard) (Some (PastTimeout k)) None)

-- a state, an input and a stretch as one value
abbrev pub spot : ℕ → ℕ → ℕ → Spot
spot s i r = record { state = s; input = i; stretch = r }

-- by how many rows contain the stretch
abbrev pub count_fault : Spot → ℕ → Option TableFault
count_fault p zero = Some (NoRow p)
count_fault p (suc zero) = None
count_fault p (suc (suc n)) = Some (TwoRows p)

abbrev pub stretch_fault : Draft → ℕ → ℕ → ℕ → Option TableFault
stretch_fault d s i r = count_fault (spot s i r) (rows_at d s i r)

-- a state and an input with no row at all are refused at stretch 0
abbrev pub input_fault : Draft → ℕ → ℕ → Option TableFault
input_fault d s i = cond (rows_of d s i == 0) (Some (NoRow (spot s i 0))) (first (stretch_fault d s i) (stretches d s))

abbrev pub state_fault : Draft → ℕ → Option TableFault
state_fault d s = first (input_fault d s) d.inputs

-- row by row, then by state, input and stretch
abbrev pub draft_fault : Draft → Option TableFault
draft_fault d = option_or (first (row_fault d) d.rows.count) (first (state_fault d) d.states.count)
