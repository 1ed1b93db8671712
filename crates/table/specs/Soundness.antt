-- When a table is sound, and which fault of one that is not comes first, said of clocks and rows and not by steps of the check.
use Rattle.std.specs.Prelude.{◌≡◌, ℕ, ◌<◌, ◌⊎◌, ◌↔◌, Some, None}
use Rattle.text.specs.declared.draft.Draft.{Draft}
use Rattle.text.specs.Draft.{row_at, state_at}
use Rattle.table.specs.declared.fault.TableFault.{TableFault}
use Rattle.table.specs.declared.fault.TableFault.TheVariants.{Text, EmptyGuard, PastTimeout, TwoRows, NoRow, Landings, QuietDays, Output}
use Rattle.table.specs.Clocks.{Empty, Past, Contains}
use Rattle.table.specs.Sound.{draft_fault}
use Rattle.table.specs.Stretch.{stretches}

-- the row k is one of the state and the input, and contains the stretch
pub record Answers (d : Draft) (s i r k : ℕ) : Type 0 where
  pub row_in : k < d.rows.count
  pub state : (row_at d k).state ≡ s
  pub input : (row_at d k).input ≡ i
  pub stretch : Contains d s (row_at d k).guard r

-- there are such a state, input and stretch
abbrev pub Spotted : Draft → ℕ → ℕ → ℕ → Type 0
Spotted d s i r = (s < d.states.count) × (i < d.inputs) × (r < stretches d s)

-- no guard is empty, no guard holds a clock that its state never shows, and one row answers each state, input and stretch
pub record SoundTable (d : Draft) : Type 0 where
  pub none_empty : (k : ℕ) → k < d.rows.count → Empty (row_at d k).guard → ⊥
  pub none_past : (k : ℕ) → k < d.rows.count → Past (state_at d (row_at d k).state) (row_at d k).guard → ⊥
  pub one_row : (s i r : ℕ) → Spotted d s i r → (k : ℕ) × Answers d s i r k × ((j : ℕ) → Answers d s i r j → j ≡ k)

-- the table has the fault
abbrev pub Has : Draft → TableFault → Type 0
Has d (Text f) = ⊥
Has d (EmptyGuard k) = (k < d.rows.count) × Empty (row_at d k).guard
Has d (PastTimeout k) = (k < d.rows.count) × Past (state_at d (row_at d k).state) (row_at d k).guard
Has d (TwoRows p) = Spotted d p.state p.input p.stretch × ((j : ℕ) × (k : ℕ) × (j < k) × Answers d p.state p.input p.stretch j × Answers d p.state p.input p.stretch k)
Has d (NoRow p) = Spotted d p.state p.input p.stretch × ((k : ℕ) → Answers d p.state p.input p.stretch k → ⊥)
Has d Landings = ⊥
Has d QuietDays = ⊥
Has d (Output k) = ⊥

abbrev pub Turn : Type 0
Turn = ℕ × ℕ × ℕ × ℕ

-- when a fault is looked for: first in each row, there an empty guard before one past the timeout; then at each state, for each of its inputs, stretch after stretch
abbrev pub turn : TableFault → Turn
turn (Text f) = (0, 0, 0, 0)
turn (EmptyGuard k) = (1, k, 0, 0)
turn (PastTimeout k) = (1, k, 1, 0)
turn (TwoRows p) = (2, p.state, p.input, p.stretch)
turn (NoRow p) = (2, p.state, p.input, p.stretch)
turn Landings = (0, 0, 0, 0)
turn QuietDays = (0, 0, 0, 0)
turn (Output k) = (0, 0, 0, 0)

-- the first number that differs is the smaller
abbrev pub Earlier : Turn → Turn → Type 0
Earlier t u = (t.0 < u.0) ⊎ ((t.0 ≡ u.0) × ((t.1 < u.1) ⊎ ((t.1 ≡ u.1) × ((t.2 < u.2) ⊎ ((t.2 ≡ u.2) × (t.3 < u.3))))))

-- the table has the fault, and none that is looked for earlier
pub record FirstFault (d : Draft) (f : TableFault) : Type 0 where
  pub has : Has d f
  pub none_before : (g : TableFault) → Has d g → Earlier (turn g) (turn f) → ⊥

-- the check finds nothing exactly in a sound table, and else exactly the first fault
pub record ChecksRight (d : Draft) : Type 0 where
  pub sound : (draft_fault d ≡ None) ↔ SoundTable d
  pub first : (f : TableFault) → (draft_fault d ≡ Some f) ↔ FirstFault d f
