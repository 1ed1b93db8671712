use Rattle.std.proofs.Common.{rules}
use Rattle.table.proofs.Reading.{reads_book}
use Rattle.table.proofs.book.Book.read_from.Goals as goal

pub returns-in_err-draft : goal.returns-in_err-draft
returns-in_err-draft c = reads_book _ _ _ _ _ (search rules)

pub returns-in_err-self : goal.returns-in_err-self
returns-in_err-self c = reads_book _ _ _ _ _ (search rules)

pub returns : goal.returns
returns c = reads_book _ _ _ _ _ (search rules)
