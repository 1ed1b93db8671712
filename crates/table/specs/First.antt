-- The first answer of a run of questions.
use Rattle.std.specs.Prelude.{ℕ, zero, suc, Some, None, Ok, Err, Option, Result}
use Rattle.std.specs.Option.{option_or}

-- the first answer among f 0, f 1, .. f (n - 1)
abbrev pub first : {X : Type 0} → (ℕ → Option X) → ℕ → Option X
first f zero = None
first f (suc n) = option_or (first f n) (f n)

-- a value, unless there is a fault
abbrev pub unless_fault : {A E : Type 0} → Option E → A → Result A E
unless_fault None a = Ok a
unless_fault (Some f) a = Err f
