-- What a comparison of two books that were read says of the input.
use Rattle.std.proofs.Common.{◌≡◌, ℕ, List, Ok, Result, ◌∙◌}
use Rattle.text.specs.declared.draft.Draft.{Draft}
use Rattle.table.specs.declared.book.Book.{Book}
use Rattle.table.specs.declared.word.Entry.{Entry}
use Rattle.table.specs.BookMachine.{book_meaning}
use Rattle.compare.specs.declared.compare.Verdict.{Verdict}
use Rattle.compare.specs.declared.fault.CompareFault.{CompareFault}
use Rattle.compare.specs.declared.outcome.Finding.{Finding}
use Rattle.compare.specs.declared.outcome.Refusal.{Refusal}
use Rattle.compare.specs.Compare.{Compared}
use Rattle.compare.specs.Judge.{drafts_of, Finds, outcome_of}

pub finds_answer : (books : Result (Draft × Draft) Refusal) (bs : Book × Book) (cells : ℕ) (before after : List Entry) (o : Result Finding Refusal) (v : Result Verdict CompareFault) (left right : ℕ)
    → books ≡ drafts_of (Ok bs)
    → Compared (book_meaning bs.0.draft) (book_meaning bs.1.draft) cells v before after
    → left ≡ (book_meaning bs.0.draft).count
    → right ≡ (book_meaning bs.1.draft).count
    → o ≡ outcome_of left right v
    → Finds books cells before after o
finds_answer books bs cells before after o v left right read compared l r is = rw read (record { answer = v; compared = compared; outcome = is ∙ (λ i. outcome_of (l i) (r i) v) })
