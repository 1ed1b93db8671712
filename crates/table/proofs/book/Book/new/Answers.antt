use Rattle.std.proofs.Common.{sym, subst}
use Rattle.text.specs.Draft.{Sized}
use Rattle.table.specs.Sound.{Sound}
use Rattle.table.specs.Books.{book_sound}
use Rattle.table.proofs.Checks.{sound_table}
use Rattle.table.proofs.Freshes.{fresh_sized, fresh_sound}
use Rattle.table.proofs.book.Book.new.Goals as goal

pub invariant_of-offsets : goal.invariant_of-offsets
invariant_of-offsets c = record {
  formed = record {
    ranged = (subst Sound (sym c.fresh-draft.ensures) fresh_sound).ranged;
    sized = subst Sized (sym c.fresh-draft.ensures) fresh_sized;
  };
}

pub returns-clause-sound : goal.returns-clause-sound
returns-clause-sound c = λ b. sound_table b.draft (book_sound b)
