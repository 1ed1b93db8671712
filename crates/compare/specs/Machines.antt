-- The meanings of two machines that are compared.
use Rattle.table.specs.Meaning.{Meaning}
use Rattle.table.specs.Means.{means}
use Rattle.table.specs.declared.machine.Machine.{Ghosts}
use Rattle.compare.specs.declared.search.Machines.{Machines}

abbrev pub left_of : {M N : Type 0} {a : Ghosts M} {b : Ghosts N} → Machines M N a b → Meaning
left_of {a = a} s = means a s.left.now

abbrev pub right_of : {M N : Type 0} {a : Ghosts M} {b : Ghosts N} → Machines M N a b → Meaning
right_of {b = b} s = means b s.right.now
