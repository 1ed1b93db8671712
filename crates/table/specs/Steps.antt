-- Strings of steps, where they lead, and the outputs that they draw on the way.
use Rattle.std.specs.Prelude.{ℕ, zero, suc, ◌<◌, List, [], ◌∷◌}
use Rattle.table.specs.Meaning.{Meaning, next, output}
use Rattle.table.specs.Word.{ticks}
use Rattle.table.specs.declared.word.Entry.{Entry}
use Rattle.table.specs.declared.word.Step.{Step}
use Rattle.table.specs.declared.word.Step.TheVariants.{Tick, Take}

-- a step that a machine of n inputs can make
abbrev pub Fit : ℕ → Step → Type 0
Fit n Tick = Unit {0}
Fit n (Take i) = i < n

abbrev pub Over : ℕ → List Step → Type 0
Over n [] = Unit {0}
Over n (x ∷ w) = Fit n x × Over n w

-- the state after one step
abbrev pub after : Meaning → Step → ℕ → ℕ
after m Tick s = m.tick s
after m (Take i) s = next m s i

-- the state after a string
abbrev pub leads : Meaning → List Step → ℕ → ℕ
leads m [] s = s
leads m (x ∷ w) s = leads m w (after m x s)

-- the output of one step, before those of the rest
abbrev pub heard : Meaning → Step → ℕ → List ℕ → List ℕ
heard m Tick s os = os
heard m (Take i) s os = output m s i ∷ os

-- the outputs that the takes of a string draw, in their order
abbrev pub answers : Meaning → List Step → ℕ → List ℕ
answers m [] s = []
answers m (x ∷ w) s = heard m x s (answers m w (after m x s))

-- n ticks, and then a string
abbrev pub waiting : ℕ → List Step → List Step
waiting zero w = w
waiting (suc n) w = Tick ∷ waiting n w

-- the string of a timed word of grain q
abbrev pub string : ℕ → List Entry → List Step
string q [] = []
string q (e ∷ w) = waiting (ticks q e.wait) (Take e.input ∷ string q w)
