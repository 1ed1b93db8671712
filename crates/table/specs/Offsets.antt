-- The numbers of a book's states as a machine: the stretches of state 0 come first, then those of state 1, and so on.
use Rattle.std.specs.Prelude.{◌≡◌, ℕ, zero, suc, ◌+◌, ◌-◌, ◌<◌, ◌≤◌, cond, List, length, nat_le, slice_index}
use Rattle.text.specs.declared.draft.Draft.{Draft}
use Rattle.text.specs.Limits.{max_states}
use Rattle.table.specs.Stretch.{stretches}

-- the stretches of all states below s
abbrev pub below : Draft → ℕ → ℕ
below d zero = 0
below d (suc s) = below d s + stretches d s

-- the stretches of all states
abbrev pub all_stretches : Draft → ℕ
all_stretches d = below d d.states.count

-- the number of a state and a stretch
abbrev pub number : Draft → ℕ × ℕ → ℕ
number d p = below d p.0 + p.1

-- the greatest state below k whose stretches begin at or before n
abbrev pub state_of : Draft → ℕ → ℕ → ℕ
state_of d n zero = 0
state_of d n (suc k) = cond (nat_le (below d k) n) k (state_of d n k)

-- the state and the stretch that have the number n
abbrev pub place : Draft → ℕ → ℕ × ℕ
place d n = (state_of d n d.states.count, n - below d (state_of d n d.states.count))

-- the list has the number at which each state begins, and past them the number of all
abbrev pub Offsets : Draft → List ℕ → Type 0
Offsets d os = (s : ℕ) → s ≤ d.states.count → slice_index os s ≡ below d s

-- the list has a place for each state that there can be and one more, and 0 behind the number of all
abbrev pub ZerosBehind : Draft → List ℕ → Type 0
ZerosBehind d os = (length os ≡ max_states + 1) × ((s : ℕ) → d.states.count < s → slice_index os s ≡ 0)
