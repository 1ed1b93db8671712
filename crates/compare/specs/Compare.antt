-- What a comparison of two machines answers: when it is refused, when it finds them alike, and which word it hands over.
use Rattle.std.specs.Prelude.{◌≡◌, ℕ, ◌*◌, ◌<◌, ◌≤◌, ◌≢◌, List, length, take, drop, Ok, Err, Result}
use Rattle.table.specs.Meaning.{Meaning}
use Rattle.table.specs.Word.{steps, Alike, Tells}
use Rattle.table.specs.declared.word.Entry.{Entry}
use Rattle.compare.specs.declared.fault.CompareFault.{CompareFault}
use Rattle.compare.specs.declared.fault.CompareFault.TheVariants.{Table, Inputs, Cells, Entries, Report}
use Rattle.compare.specs.declared.compare.Verdict.{Verdict}
use Rattle.compare.specs.declared.compare.Verdict.TheVariants.{Alike as FoundAlike, Different}

-- the cells that comparing the two needs: one for each pair of states
abbrev pub cells_needed : Meaning → Meaning → ℕ
cells_needed a b = a.count * b.count

-- the word entries that it needs
abbrev pub entries_needed : Meaning → Meaning → ℕ
entries_needed a b = a.count * b.count

-- the entries at the buffer's start are a telling word of fewest steps, in half days, and both counts are its own;
-- the rest of the buffer is as it was
pub record Telling (a b : Meaning) (count entries : ℕ) (before after : List Entry) : Type 0 where
  pub fits : entries ≤ length after
  pub long : length after ≡ length before
  pub rest : drop entries after ≡ drop entries before
  pub tells : Tells a b 2 (take entries after)
  pub counted : count ≡ steps 2 (take entries after)
  pub fewest : (q : ℕ) (w : List Entry) → Tells a b q w → count ≤ steps q w

-- what a verdict on the two says, with the word buffer before and after
abbrev pub Decided : Meaning → Meaning → Verdict → List Entry → List Entry → Type 0
Decided a b FoundAlike before after = Alike a b × (after ≡ before)
Decided a b (Different count entries) before after = Telling a b count entries before after

-- what is answered with so many cells: a refusal exactly on its condition and on none before it, else the verdict
abbrev pub Compared : Meaning → Meaning → ℕ → Result Verdict CompareFault → List Entry → List Entry → Type 0
Compared a b cells (Err Inputs) before after = (a.inputs ≢ b.inputs) × (after ≡ before)
Compared a b cells (Err Cells) before after = (a.inputs ≡ b.inputs) × (cells < cells_needed a b) × (after ≡ before)
Compared a b cells (Err Entries) before after = (a.inputs ≡ b.inputs) × (cells_needed a b ≤ cells) × (length before < entries_needed a b) × (after ≡ before)
Compared a b cells (Err (Table f)) before after = ⊥
Compared a b cells (Err Report) before after = ⊥
Compared a b cells (Ok verdict) before after = (a.inputs ≡ b.inputs) × (cells_needed a b ≤ cells) × (entries_needed a b ≤ length before) × Decided a b verdict before after
