-- The limits of a machine and of an allowance; a machine has at most as many inputs and outputs as a book.
use Rattle.std.specs.Prelude.{ℕ}

-- the most states of a machine
abbrev pub max_machine_states : ℕ
max_machine_states = 1024

-- the most landings of an allowance
abbrev pub max_landings : ℕ
max_landings = 15
