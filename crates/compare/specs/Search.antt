-- The breadth-first search over pairs of states: what the cells hold, and what the search keeps true of them.
use Rattle.std.specs.Prelude.{◌≡◌, ℕ, ◌+◌, ◌*◌, ◌<◌, ◌≤◌, Bool, ◌≢◌, ◌⊎◌, List, [], ◌∷◌, ◌++◌, length, count_by, ◌==◌, slice_index_or, slice_set, Ok, Err, Result}
use Rattle.text.specs.Limits.{max_inputs}
use Rattle.table.specs.Limits.{max_machine_states}
use Rattle.table.specs.Meaning.{Meaning, output}
use Rattle.table.specs.Steps.{Fit, Over, after, leads}
use Rattle.table.specs.declared.word.Step.{Step}
use Rattle.table.specs.declared.word.Step.TheVariants.{Take}
use Rattle.compare.specs.Cell.{blank, AllBlank, number_of, step_of}
use Rattle.compare.specs.declared.cell.Cell.{Cell}
use Rattle.compare.specs.declared.search.Found.{Found}

abbrev pub at : List Cell → ℕ → Cell
at cs k = slice_index_or cs k blank

abbrev pub is_seen : Cell → Bool
is_seen c = c.seen == 1

-- how many pairs are marked as seen
abbrev pub marks : List Cell → ℕ
marks cs = count_by is_seen cs

-- an item written at place k, the mark there kept
abbrev pub placed : List Cell → ℕ → Cell → List Cell
placed cs k c = slice_set cs k (record c { seen = (at cs k).seen })

-- the mark set at the number p
abbrev pub marked : List Cell → ℕ → List Cell
marked cs p = slice_set cs p (record (at cs p) { seen = 1 })

-- the cells are blank, and as many as there are pairs of states
pub record Fresh (m n : Meaning) (cs : List Cell) : Type 0 where
  pub room : length cs ≡ m.count * n.count
  pub blank : AllBlank cs

-- the number of a pair of states, with `width` states on the right
abbrev pub pair_number : ℕ → ℕ → ℕ → ℕ
pair_number width a b = a * width + b

-- what queueing an item does: nothing where its pair is seen, else it stands at the tail and its pair is seen
pub record Queueing (width : ℕ) (cs ds : List Cell) (tail : ℕ) (c : Cell) (end : ℕ) : Type 0 where
  pub known : (at cs (pair_number width c.left c.right)).seen ≡ 1 → (ds ≡ cs) × (end ≡ tail)
  pub fresh : (at cs (pair_number width c.left c.right)).seen ≢ 1 → (ds ≡ marked (placed cs tail c) (pair_number width c.left c.right)) × (end ≡ tail + 1)

-- the item holds a state of each machine
pub record Inside (m n : Meaning) (c : Cell) : Type 0 where
  pub left_in : c.left < m.count
  pub right_in : c.right < n.count

-- the item d holds the pair that the step s leads to from the item c at `place`
pub record NextItem (m n : Meaning) (c : Cell) (place : ℕ) (s : Step) (d : Cell) : Type 0 where
  pub is_left : d.left ≡ after m s c.left
  pub is_right : d.right ≡ after n s c.right
  pub is_parent : d.parent ≡ place
  pub is_step : d.step ≡ number_of s

-- what a take of an input from the item c at `place` answers: the next item where the outputs agree, else where they differ
abbrev pub Taken : Meaning → Meaning → Cell → ℕ → ℕ → Result Cell Found → Type 0
Taken m n c place input (Ok d) = NextItem m n c place (Take input) d × (output m c.left input ≡ output n c.right input)
Taken m n c place input (Err f) = (f.place ≡ place) × (f.input ≡ input) × (output m c.left input ≢ output n c.right input)

-- the two states draw the same output at every input
abbrev pub Agreeing : Meaning → Meaning → ℕ → ℕ → Type 0
Agreeing m n a b = (i : ℕ) → i < m.inputs → output m a i ≡ output n b i

-- the place of a pair in the queue
pub record Queued (cs : List Cell) (tail a b : ℕ) : Type 0 where
  pub place : ℕ
  pub below : place < tail
  pub is_left : (at cs place).left ≡ a
  pub is_right : (at cs place).right ≡ b

-- the pair that the step s leads to from the item k stands in the queue, by a string at most one step longer
pub record Follow (m n : Meaning) (W : ℕ → List Step) (cs : List Cell) (tail k : ℕ) (s : Step) : Type 0 where
  pub queued : Queued cs tail (after m s (at cs k).left) (after n s (at cs k).right)
  pub close : length (W queued.place) ≤ length (W k) + 1

-- the string w leads the two machines from their starts to the pair (a, b)
pub record Item (m n : Meaning) (w : List Step) (a b : ℕ) : Type 0 where
  pub left_in : a < m.count
  pub right_in : b < n.count
  pub over : Over m.inputs w
  pub left_leads : leads m w m.start ≡ a
  pub right_leads : leads n w n.start ≡ b

-- the string of the item k is its parent's and one step more
pub record Link (W : ℕ → List Step) (cs : List Cell) (k : ℕ) : Type 0 where
  pub earlier : (at cs k).parent < k
  pub few : (at cs k).step ≤ max_inputs
  pub grown : W k ≡ W (at cs k).parent ++ (step_of (at cs k).step ∷ [])

-- the step s of the item k is dealt with
abbrev pub Past : ℕ → ℕ → ℕ → Step → Type 0
Past head done k s = (k < head) ⊎ ((k ≡ head) × (number_of s < done))

-- W gives the string of each of the `tail` items in the queue; at those before `head` the machines agree and every step
-- is dealt with, and of the item at `head` the first `done` steps are dealt with
pub record Inv (m n : Meaning) (W : ℕ → List Step) (cs : List Cell) (tail head done : ℕ) : Type 0 where
  pub count : marks cs ≡ tail
  pub some : 1 ≤ tail
  pub upto : head ≤ tail
  pub root : W 0 ≡ []
  pub item : (k : ℕ) → k < tail → Item m n (W k) (at cs k).left (at cs k).right
  pub link : (k : ℕ) → 0 < k → k < tail → Link W cs k
  pub mono : (j k : ℕ) → j ≤ k → k < tail → length (W j) ≤ length (W k)
  pub near : head < tail → (k : ℕ) → k < tail → length (W k) ≤ length (W head) + 1
  pub known : (a b : ℕ) → a < m.count → b < n.count → (at cs (pair_number n.count a b)).seen ≡ 1 → Queued cs tail a b
  pub all_seen : (k : ℕ) → k < tail → (at cs (pair_number n.count (at cs k).left (at cs k).right)).seen ≡ 1
  pub agree : (k : ℕ) → k < head → Agreeing m n (at cs k).left (at cs k).right
  pub closed : (k : ℕ) → k < tail → (s : Step) → Fit m.inputs s → Past head done k s → Follow m n W cs tail k s

abbrev pub max_pairs : ℕ
max_pairs = max_machine_states * max_machine_states

pub record Holds (m n : Meaning) (cs : List Cell) (tail head done : ℕ) : Type 0 where
  pub strings : ℕ → List Step
  pub inv : Inv m n strings cs tail head done
  -- what follows from that, at hand for bounds
  pub short : tail ≤ length cs
  pub few : length cs ≤ max_pairs

-- the item at `head`, whose pair c holds, is being dealt with: its first `done` steps are, and drew the same outputs
pub record Visiting (m n : Meaning) (cs : List Cell) (tail head : ℕ) (c : Cell) (done : ℕ) : Type 0 where
  pub more : head < tail
  pub holds : Holds m n cs tail head done
  pub is_left : (at cs head).left ≡ c.left
  pub is_right : (at cs head).right ≡ c.right
  pub same : (i : ℕ) → i + 1 < done → output m c.left i ≡ output n c.right i

-- every pair that a string leads to stands in the queue, and the machines agree at each
pub record Searched (m n : Meaning) (cs : List Cell) : Type 0 where
  pub tail : ℕ
  pub holds : Holds m n cs tail tail 0

-- where the search stopped: at the item `place`, whose states draw different outputs at `input`
pub record Told (m n : Meaning) (cs : List Cell) (place input : ℕ) : Type 0 where
  pub strings : ℕ → List Step
  pub tail : ℕ
  pub done : ℕ
  pub inv : Inv m n strings cs tail place done
  pub below : place < tail
  pub fits : input < m.inputs
  pub differ : output m (at cs place).left input ≢ output n (at cs place).right input

-- what a visit of the item at `head` answers: where the queue then ends, or an input at which the item's outputs differ
abbrev pub Visited : Meaning → Meaning → List Cell → ℕ → Result ℕ Found → Type 0
Visited m n cs head (Ok tail) = Holds m n cs tail (head + 1) 0
Visited m n cs head (Err f) = (f.place ≡ head) × Told m n cs head f.input
