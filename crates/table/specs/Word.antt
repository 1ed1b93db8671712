-- Timed words of any grain q: what they draw from a machine, how many steps they take, and when they tell two machines apart.
use Rattle.std.specs.Prelude.{◌≡◌, ℕ, zero, suc, ◌+◌, ◌*◌, ◌/◌, ◌%◌, ◌<◌, ◌≤◌, cond, List, [], ◌∷◌, ◌==◌}
use Rattle.table.specs.Meaning.{Meaning, next, output}
use Rattle.table.specs.declared.word.Entry.{Entry}

-- the ticks of a wait of p q-ths: two for each whole day, and one more where a part of a day is left
abbrev pub ticks : ℕ → ℕ → ℕ
ticks q p = 2 * (p / q) + cond (p % q == 0) 0 1

-- the state after n ticks
abbrev pub ticked : (ℕ → ℕ) → ℕ → ℕ → ℕ
ticked tick zero s = s
ticked tick (suc n) s = tick (ticked tick n s)

-- every input of the word is one of n
abbrev pub Within : ℕ → List Entry → Type 0
Within n [] = Unit {0}
Within n (e ∷ w) = (e.input < n) × Within n w

-- the outputs that a word draws from a state: each entry is met with its ticks and one take
abbrev pub drawn : Meaning → ℕ → ℕ → List Entry → List ℕ
drawn m q s [] = []
drawn m q s (e ∷ w) =
    output m (ticked m.tick (ticks q e.wait) s) e.input ∷ drawn m q (next m (ticked m.tick (ticks q e.wait) s) e.input) w

-- how many steps a word takes
abbrev pub steps : ℕ → List Entry → ℕ
steps q [] = 0
steps q (e ∷ w) = (ticks q e.wait + 1) + steps q w

-- no word of any grain and length draws other outputs from the two
pub record Alike (a b : Meaning) : Type 0 where
  pub inputs : a.inputs ≡ b.inputs
  pub same : (q : ℕ) → 1 ≤ q → (w : List Entry) → Within a.inputs w → drawn a q a.start w ≡ drawn b q b.start w

-- the word draws other outputs from the two
pub record Tells (a b : Meaning) (q : ℕ) (w : List Entry) : Type 0 where
  pub grain : 1 ≤ q
  pub inputs : Within a.inputs w
  pub other : drawn a q a.start w ≡ drawn b q b.start w → ⊥
