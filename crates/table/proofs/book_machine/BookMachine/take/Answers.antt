use Rattle.std.proofs.Common.{◌≡◌, ℕ, ◌<◌, Some, Option, nat_lt, ap, ◌∙◌, arith}
use Rattle.text.specs.Limits.{max_rows}
use Rattle.table.specs.declared.book.Book.{Book}
use Rattle.table.specs.BookMachine.{found_number}
use Rattle.table.specs.Meaning.{given_if}
use Rattle.table.specs.Offsets.{all_stretches, place}
use Rattle.table.specs.Rows.{row_number}
use Rattle.table.specs.Answering.{at_valid, answering}
use Rattle.table.proofs.book_machine.BookMachine.take.Goals as goal

-- at a place that was found for a number a row answers each input
row_found : (b : Book) (n i s r : ℕ) (o : Option ℕ) → Some (s, r) ≡ given_if (nat_lt n (all_stretches b.draft)) (place b.draft n) → i < b.draft.inputs → o ≡ row_number b.draft s i r → (k : ℕ) × (k < max_rows) × (o ≡ Some k)
row_found b n i s r o at few is =
    let v = at_valid b.draft n s r at in
    let f = answering b.draft b.sound s i r v.state_in few v.stretch_in in
    (f.row, omega (arith, f.row_in, b.sound.ranged.counts.3), is ∙ f.is)

pub returns-in_err-number : goal.returns-in_err-number
returns-in_err-number c =
    let f = row_found c.args.self.now c.args.state c.args.input c.in_ok-at.at c.in_ok-at.stretch _ c.in_ok-at.ensures (omega (arith, c.if-input-self.false)) (c.in_err-number.ensures ∙ ap (λ x. row_number x c.in_ok-at.at c.args.input c.in_ok-at.stretch) c.table.ensures) in
    let none = f.2 in
    cc

pub bounds-self-number : goal.bounds-self-number
bounds-self-number c =
    let f = row_found c.args.self.now c.args.state c.args.input c.in_ok-at.at c.in_ok-at.stretch _ c.in_ok-at.ensures (omega (arith, c.if-input-self.false)) (c.in_ok-number.ensures ∙ ap (λ x. row_number x c.in_ok-at.at c.args.input c.in_ok-at.stretch) c.table.ensures) in
    let e : c.in_ok-number.number ≡ f.0 = ap found_number f.2 in
    omega (arith, e, f.1)

pub offset_bounds-self-number : goal.offset_bounds-self-number
offset_bounds-self-number c =
    let f = row_found c.args.self.now c.args.state c.args.input c.in_ok-at.at c.in_ok-at.stretch _ c.in_ok-at.ensures (omega (arith, c.if-input-self.false)) (c.in_ok-number.ensures ∙ ap (λ x. row_number x c.in_ok-at.at c.args.input c.in_ok-at.stretch) c.table.ensures) in
    let e : c.in_ok-number.number ≡ f.0 = ap found_number f.2 in
    omega (arith, e, f.1)
