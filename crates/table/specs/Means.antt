-- The meaning of a machine, from the ghost members of its kind.
use Rattle.table.specs.Meaning.{Meaning}
use Rattle.table.specs.declared.machine.Machine.{Ghosts}

abbrev pub means : {M : Type 0} → Ghosts M → M → Meaning
means g m = record { count = g.count m; inputs = g.inputs m; start = g.start m; tick = g.tick m; take = g.take m }
