-- The number, the layer and the place of each fault of a table; a fault of the text keeps its own.
use Rattle.std.specs.Prelude.{ℕ, List, Some, None, codes, Option, option_map}
use Rattle.text.specs.Fault as text
use Rattle.table.specs.declared.fault.TableFault.{TableFault}
use Rattle.table.specs.declared.fault.TableFault.TheVariants.{Text, EmptyGuard, PastTimeout, TwoRows, NoRow, Landings, QuietDays, Output}
use Rattle.table.specs.declared.fault.Place.{Place}
use Rattle.table.specs.declared.fault.Place.TheVariants.{At, Spot}

abbrev pub number_of : TableFault → ℕ
number_of (Text f) = text.number_of f
number_of (EmptyGuard k) = 21
number_of (PastTimeout k) = 22
number_of (TwoRows p) = 23
number_of (NoRow p) = 24
number_of Landings = 25
number_of QuietDays = 26
number_of (Output k) = 27

abbrev pub layer_of : TableFault → List ℕ
layer_of (Text f) = text.layer_of f
layer_of (EmptyGuard k) = codes "table"
layer_of (PastTimeout k) = codes "table"
layer_of (TwoRows p) = codes "table"
layer_of (NoRow p) = codes "table"
layer_of Landings = codes "table"
layer_of QuietDays = codes "table"
layer_of (Output k) = codes "table"

-- where a fault comes, if it has a place
abbrev pub place_of : TableFault → Option Place
place_of (Text f) = option_map At (text.place_of f)
place_of (EmptyGuard k) = Some (At k)
place_of (PastTimeout k) = Some (At k)
place_of (TwoRows p) = Some (Spot p)
place_of (NoRow p) = Some (Spot p)
place_of Landings = None
place_of QuietDays = None
place_of (Output k) = Some (At k)
