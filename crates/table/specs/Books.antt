-- Every book is sound, and its draft is formed.
use Rattle.text.specs.Draft.{Formed}
use Rattle.table.specs.declared.book.Book.{Book}
use Rattle.table.specs.Sound.{Sound}

pub book_sound : (b : Book) → Sound b.draft
book_sound b = b.sound

pub book_formed : (b : Book) → Formed b.draft
book_formed b = record { ranged = b.sound.ranged; sized = b.sized }
