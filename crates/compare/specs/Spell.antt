-- How the string that leads to an item is read off the parents and written as a timed word in half days.
use Rattle.std.specs.Prelude.{◌≡◌, ℕ, ◌+◌, ◌-◌, ◌<◌, ◌≤◌, List, [], ◌∷◌, ◌++◌, length, take, drop, sum_by}
use Rattle.table.specs.declared.word.Entry.{Entry}
use Rattle.table.specs.declared.word.Step.{Step}
use Rattle.table.specs.declared.word.Step.TheVariants.{Tick, Take}
use Rattle.table.specs.Steps.{string}
use Rattle.compare.specs.Search.{Link}
use Rattle.compare.specs.declared.cell.Cell.{Cell}

abbrev pub one_take : Step → ℕ
one_take Tick = 0
one_take (Take i) = 1

abbrev pub takes : List Step → ℕ
takes = sum_by one_take

-- W gives the string of each item up to `place`
pub record Chain (W : ℕ → List Step) (cs : List Cell) (place : ℕ) : Type 0 where
  pub root : W 0 ≡ []
  pub link : (k : ℕ) → 0 < k → k ≤ place → Link W cs k

pub record Chained (cs : List Cell) (place : ℕ) : Type 0 where
  pub strings : ℕ → List Step
  pub chain : Chain strings cs place

-- the string of the item has so many takes
pub record Counted (cs : List Cell) (place item count : ℕ) : Type 0 where
  pub strings : ℕ → List Step
  pub chain : Chain strings cs place
  pub count_is : takes (strings item) ≡ count

-- from the item on, the string of `place` and one take more have so many takes
abbrev pub Tallied : List Cell → ℕ → ℕ → ℕ → Type 0
Tallied cs place item entries = (W : ℕ → List Step) → Chain W cs place → takes (W place) + 1 ≡ takes (W item) + entries

-- the entries from one slot to another
abbrev pub from : List Entry → ℕ → ℕ → List Entry
from es low high = take (high - low) (drop low es)

-- from the item on, the entries spell the string of `place` and then the input
abbrev pub Spelled : List Cell → ℕ → ℕ → ℕ → List Entry → Type 0
Spelled cs place input item es = (W : ℕ → List Step) → Chain W cs place → W item ++ string 2 es ≡ W place ++ (Take input ∷ [])

abbrev pub entry : ℕ → ℕ → Entry
entry wait input = record { wait = wait; input = input }

-- the walk back stands at `item`: the entries past `slot` are written, and one with `wait` and `next` is at hand
pub record Walk (cs : List Cell) (place input entries : ℕ) (old : List Entry) (item slot wait next : ℕ) (es : List Entry) : Type 0 where
  pub up : item ≤ place
  pub low : slot < entries
  pub short : wait + item ≤ place
  pub long : length es ≡ length old
  pub counted : Counted cs place item slot
  pub spelled : Spelled cs place input item (entry wait next ∷ from es (slot + 1) entries)
  pub rest : drop entries es ≡ drop entries old
