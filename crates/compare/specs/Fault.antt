-- The number, the layer and the place of each fault of a comparison; a fault of the table keeps its own.
use Rattle.std.specs.Prelude.{ℕ, List, None, codes, Option}
use Rattle.table.specs.Fault as table
use Rattle.table.specs.declared.fault.Place.{Place}
use Rattle.compare.specs.declared.fault.CompareFault.{CompareFault}
use Rattle.compare.specs.declared.fault.CompareFault.TheVariants.{Table, Inputs, Cells, Entries, Report}

abbrev pub number_of : CompareFault → ℕ
number_of (Table f) = table.number_of f
number_of Inputs = 31
number_of Cells = 32
number_of Entries = 33
number_of Report = 35

abbrev pub layer_of : CompareFault → List ℕ
layer_of (Table f) = table.layer_of f
layer_of _ = codes "compare"

abbrev pub place_of : CompareFault → Option Place
place_of (Table f) = table.place_of f
place_of _ = None
