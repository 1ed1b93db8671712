use Rattle.std.proofs.Common.{arith}
use Rattle.table.specs.Numbers.{below_few}
use Rattle.table.specs.Books.{book_sound}
use Rattle.table.proofs.book.Book.number_of.Goals as goal

pub overflow_add-result : goal.overflow_add-result
overflow_add-result c =
    let b = c.args.self.now.numbered c.args.state c.requires in
    let f = below_few c.args.self.now.draft (book_sound c.args.self.now).ranged c.args.state c.requires in
    let s = c.args.self.now.sound.ranged.counts.1 in
    let p = c.requires in
    omega (arith, b, f)
