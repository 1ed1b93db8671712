-- The states that strings of steps lead to, in one machine and in two at once, and the partner that a search finds for a state.
use Rattle.std.specs.Prelude.{◌≡◌, ℕ, List, take, Some, None, Ok, Err, Option, Result}
use Rattle.table.specs.Meaning.{Meaning}
use Rattle.table.specs.Steps.{Over, leads}
use Rattle.table.specs.declared.word.Step.{Step}
use Rattle.compare.specs.Compare.{cells_needed}
use Rattle.compare.specs.Search.{Searched}
use Rattle.compare.specs.declared.cell.Cell.{Cell}
use Rattle.compare.specs.declared.compare.Verdict.{Verdict}
use Rattle.compare.specs.declared.compare.Verdict.TheVariants.{Alike, Different}
use Rattle.compare.specs.declared.fault.CompareFault.{CompareFault}

-- some string leads the machine from its start to s
pub record Reached (m : Meaning) (s : ℕ) : Type 0 where
  pub string : List Step
  pub over : Over m.inputs string
  pub leads_there : leads m string m.start ≡ s

-- one string leads the two machines from their starts to s and t
pub record Together (a b : Meaning) (s t : ℕ) : Type 0 where
  pub string : List Step
  pub over : Over a.inputs string
  pub left : leads a string a.start ≡ s
  pub right : leads b string b.start ≡ t

-- the state t that is found for s, or none where nothing leads to s
abbrev pub Partner : Meaning → Meaning → ℕ → Option ℕ → Type 0
Partner a b s (Some t) = Together a b s t
Partner a b s None = Reached a s → ⊥

-- the cells hold a whole search of the two
abbrev pub CellsSearched : Meaning → Meaning → List Cell → Type 0
CellsSearched a b cs = Searched a b (take (cells_needed a b) cs)

-- after a verdict of alike they do
abbrev pub SearchedIfAlike : Meaning → Meaning → Result Verdict CompareFault → List Cell → Type 0
SearchedIfAlike a b (Ok Alike) cs = CellsSearched a b cs
SearchedIfAlike a b (Ok (Different count entries)) cs = Unit {0}
SearchedIfAlike a b (Err f) cs = Unit {0}
