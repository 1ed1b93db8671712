use Rattle.std.proofs.Common.{rules}
use Rattle.table.proofs.Reading.{writes_text}
use Rattle.table.proofs.book.Book.write.Goals as goal

pub returns : goal.returns
returns c = writes_text _ _ _ _ (search rules) (search rules) (search rules)
