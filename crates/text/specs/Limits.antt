-- The limits of a book and of its text.
use Rattle.std.specs.Prelude.{ℕ}

-- the most inputs, outputs, states and rows of a book
abbrev pub max_inputs : ℕ
max_inputs = 8

abbrev pub max_outputs : ℕ
max_outputs = 32

abbrev pub max_states : ℕ
max_states = 16

abbrev pub max_rows : ℕ
max_rows = 256

-- the greatest day that a guard's end or a timeout can name
abbrev pub max_days : ℕ
max_days = 31

-- the most bytes of a text
abbrev pub max_bytes : ℕ
max_bytes = 16384

-- a number of a text lies below this: it has at most three digits
abbrev pub number_limit : ℕ
number_limit = 1000
