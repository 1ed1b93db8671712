-- What a judge makes of an input: the two books in it, the outcome of comparing them, and the report.
use Rattle.std.specs.Prelude.{◌≡◌, ℕ, List, Some, None, Ok, Err, Option, Result}
use Rattle.text.specs.declared.draft.Draft.{Draft}
use Rattle.text.specs.declared.fault.TextFault.TheVariants.{Trailing}
use Rattle.text.specs.Token.{first_part}
use Rattle.text.specs.Write.{filled}
use Rattle.table.specs.declared.book.Book.{Book}
use Rattle.table.specs.declared.fault.TableFault.{TableFault}
use Rattle.table.specs.declared.fault.TableFault.TheVariants.{Text}
use Rattle.table.specs.declared.word.Entry.{Entry}
use Rattle.table.specs.BookMachine.{book_meaning}
use Rattle.table.specs.Read.{book_reading}
use Rattle.compare.specs.declared.compare.Verdict.{Verdict}
use Rattle.compare.specs.declared.fault.CompareFault.{CompareFault}
use Rattle.compare.specs.declared.fault.CompareFault.TheVariants.{Table}
use Rattle.compare.specs.declared.outcome.Finding.{Finding}
use Rattle.compare.specs.declared.outcome.Refusal.{Refusal}
use Rattle.compare.specs.Compare.{Compared}
use Rattle.compare.specs.Report.{report, reported}

abbrev pub refusing : ℕ → TableFault → Refusal
refusing book f = record { book = book; fault = Table f }

-- blanks alone may follow the second book
abbrev pub unless_trailing : Draft × Draft → Option ℕ → Result (Draft × Draft) Refusal
unless_trailing ds None = Ok ds
unless_trailing ds (Some at) = Err (refusing 2 (Text (Trailing at)))

abbrev pub with_second : List ℕ → Draft → Result (Draft × ℕ) TableFault → Result (Draft × Draft) Refusal
with_second t d (Ok p) = unless_trailing (d, p.0) (first_part t p.1)
with_second t d (Err f) = Err (refusing 2 f)

abbrev pub with_first : List ℕ → Result (Draft × ℕ) TableFault → Result (Draft × Draft) Refusal
with_first t (Ok p) = with_second t p.0 (book_reading t p.1)
with_first t (Err f) = Err (refusing 1 f)

-- the two books of an input, or which of them is refused and why
abbrev pub books_of : List ℕ → Result (Draft × Draft) Refusal
books_of t = with_first t (book_reading t 0)

-- the drafts that books hold
abbrev pub drafts_of : Result (Book × Book) Refusal → Result (Draft × Draft) Refusal
drafts_of (Ok bs) = Ok (bs.0.draft, bs.1.draft)
drafts_of (Err r) = Err r

-- what there is to report of the comparison of two books with so many states
abbrev pub outcome_of : ℕ → ℕ → Result Verdict CompareFault → Result Finding Refusal
outcome_of a b (Ok v) = Ok (record { left = a; right = b; verdict = v })
outcome_of a b (Err f) = Err (record { book = 2; fault = f })

-- o is what there is to report of what the comparison of two books answered
pub record FindsBetween (d e : Draft) (cells : ℕ) (before after : List Entry) (o : Result Finding Refusal) : Type 0 where
  pub answer : Result Verdict CompareFault
  pub compared : Compared (book_meaning d) (book_meaning e) cells answer before after
  pub outcome : o ≡ outcome_of (book_meaning d).count (book_meaning e).count answer

-- the outcome of an input, with the word buffer before and after
abbrev pub Finds : Result (Draft × Draft) Refusal → ℕ → List Entry → List Entry → Result Finding Refusal → Type 0
Finds (Ok ds) cells before after o = FindsBetween ds.0 ds.1 cells before after o
Finds (Err q) cells before after o = (after ≡ before) × (o ≡ Err q)

pub record Judged (books : Result (Draft × Draft) Refusal) (cells : ℕ) (before after : List Entry) (buffer now : List ℕ) (r : Result ℕ CompareFault) : Type 0 where
  pub outcome : Result Finding Refusal
  pub finds : Finds books cells before after outcome
  pub answers : r ≡ reported (report outcome after) buffer
  pub fills : now ≡ filled (report outcome after) buffer
