-- Reading a book: the draft that a text writes, where the draft is sound; and what reading and writing promise, said without the reader's steps.
use Rattle.std.specs.Prelude.{◌≡◌, ℕ, ◌-◌, ◌≤◌, ◌↔◌, List, ◌++◌, length, Ok, Err, Result}
use Rattle.text.specs.declared.draft.Draft.{Draft}
use Rattle.text.specs.declared.fault.TextFault.{TextFault}
use Rattle.text.specs.Grammar.{reading}
use Rattle.text.specs.Limits.{max_bytes}
use Rattle.text.specs.Parts.{PartsOf, Writes}
use Rattle.text.specs.Refusal.{Refused}
use Rattle.text.specs.Write.{canonical, written, filled}
use Rattle.table.specs.declared.book.Book.{Book}
use Rattle.table.specs.declared.fault.TableFault.{TableFault}
use Rattle.table.specs.declared.fault.TableFault.TheVariants.{Text}
use Rattle.table.specs.First.{unless_fault}
use Rattle.table.specs.Sound.{draft_fault}
use Rattle.table.specs.Soundness.{SoundTable, FirstFault}

-- a fault of the text comes before those of the table
abbrev pub sound_draft : Result (Draft × ℕ) TextFault → Result (Draft × ℕ) TableFault
sound_draft (Ok p) = unless_fault (draft_fault p.0) p
sound_draft (Err f) = Err (Text f)

-- the sound draft that a text writes from a place on, and the place where its last part ends
abbrev pub book_reading : List ℕ → ℕ → Result (Draft × ℕ) TableFault
book_reading t from = sound_draft (reading t from)

-- what a caller's book is afterwards, and the answer
abbrev pub ReadsAs : Result (Draft × ℕ) TableFault → Book → Book → Result ℕ TableFault → Type 0
ReadsAs (Ok p) before after r = (after.draft ≡ p.0) × (r ≡ Ok p.1)
ReadsAs (Err f) before after r = (after ≡ before) × (r ≡ Err f)

-- between two places a text of no more bytes than a text may have writes the book: it has the parts of the book's canonical text
pub record WritesBook (text : List ℕ) (from : ℕ) (b : Book) (to : ℕ) : Type 0 where
  pub few : length text ≤ max_bytes
  pub parts : PartsOf (canonical b.draft) text from to

-- the answer is a place and the caller's book becomes b exactly where the text writes b up to that place
abbrev pub ReadsExactly : List ℕ → ℕ → Book → Result ℕ TableFault → Type 0
ReadsExactly text from after r = (b : Book) (to : ℕ) → ((r ≡ Ok to) × (after ≡ b)) ↔ WritesBook text from b to

-- a draft that a text writes is taken exactly where its table is sound, and is refused exactly with the table's first fault
pub record Checked (d : Draft) (to : ℕ) (r : Result ℕ TableFault) : Type 0 where
  pub taken : (r ≡ Ok to) ↔ SoundTable d
  pub refused : (f : TableFault) → (r ≡ Err f) ↔ FirstFault d f

abbrev pub ChecksTable : List ℕ → ℕ → Result ℕ TableFault → Type 0
ChecksTable text from r = (d : Draft) (to : ℕ) → Writes text from d to → Checked d to r

-- the answer is a fault of the text exactly where the text has that fault
abbrev pub RefusesText : List ℕ → ℕ → Result ℕ TableFault → Type 0
RefusesText text from r = (f : TextFault) → (r ≡ Err (Text f)) ↔ Refused text from f

-- what a call that reads a book from a place of a text on does: the caller's book before and after it, and its answer
pub record ReadsBook (text : List ℕ) (from : ℕ) (before after : Book) (r : Result ℕ TableFault) : Type 0 where
  pub is : ReadsAs (book_reading text from) before after r
  pub exactly : ReadsExactly text from after r
  pub refused : RefusesText text from r
  pub checked : ChecksTable text from r

-- the book's canonical text reads as the book whatever stands behind it, and takes all of it but the end of its last line
abbrev pub ReadsBack : Book → Type 0
ReadsBack b = (behind : List ℕ) → length (canonical b.draft ++ behind) ≤ max_bytes → book_reading (canonical b.draft ++ behind) 0 ≡ Ok (b.draft, length (canonical b.draft) - 1)

-- no other book has the same text
abbrev pub OnlyText : Book → Type 0
OnlyText b = (other : Book) → canonical other.draft ≡ canonical b.draft → other ≡ b

abbrev pub carried : {A : Type 0} → Result A TextFault → Result A TableFault
carried (Ok a) = Ok a
carried (Err f) = Err (Text f)

abbrev pub book_written : List ℕ → List ℕ → Result ℕ TableFault
book_written t buffer = carried (written t buffer)

-- what a call that writes a book does: the caller's buffer before and after it, and its answer
pub record WritesText (b : Book) (before after : List ℕ) (r : Result ℕ TableFault) : Type 0 where
  pub answers : r ≡ book_written (canonical b.draft) before
  pub fills : after ≡ filled (canonical b.draft) before
  -- what is written is never too long to be read
  pub short : length (canonical b.draft) ≤ max_bytes
  pub back : ReadsBack b
  pub only : OnlyText b
