-- A book is read exactly where a text writes it, a draft is taken exactly where it is sound, and a book's text reads back.
use Rattle.std.proofs.Common.{◌≡◌, ℕ, ◌-◌, ◌≤◌, ◌↔◌, List, [], ◌++◌, length, Some, None, Ok, Err, Option, Result, sym, refl, ap, ◌∙◌, subst, append-nil, arith}
use mathlib.Core.Logic.Iff
use Rattle.text.specs.declared.draft.Draft.{Draft}
use Rattle.text.specs.declared.fault.TextFault.{TextFault}
use Rattle.text.specs.Draft.{Ranged}
use Rattle.text.specs.Grammar.{reading}
use Rattle.text.specs.Limits.{max_bytes}
use Rattle.text.specs.Write.{canonical, filled}
use Rattle.text.proofs.Exactly.{reads_exactly as drafts_exactly, reads_back as drafts_back}
use Rattle.text.proofs.Refusals.{refuses_exactly as drafts_refused}
use Rattle.table.specs.declared.book.Book.{Book}
use Rattle.table.specs.declared.fault.TableFault.{TableFault}
use Rattle.table.specs.declared.fault.TableFault.TheVariants.{Text}
use Rattle.table.specs.First.{unless_fault}
use Rattle.table.specs.Read.{sound_draft, book_reading, ReadsAs, WritesBook, ReadsExactly, RefusesText, ChecksTable, ReadsBook, ReadsBack, OnlyText, book_written, WritesText}
use Rattle.table.specs.Sound.{draft_fault}
use Rattle.table.specs.Books.{book_sound, book_formed}
use Rattle.table.proofs.Checks.{checks_right, sound_table}
use Rattle.table.proofs.SameBooks.{same_book}

pub book_faultless : (b : Book) → draft_fault b.draft ≡ None
book_faultless b = (checks_right b.draft (book_sound b).ranged).sound.1 (sound_table b.draft (book_sound b))

-- the reading of a text whose draft is known

book_of_draft : (t : List ℕ) (from : ℕ) (p : Draft × ℕ) → reading t from ≡ Ok p → book_reading t from ≡ unless_fault (draft_fault p.0) p
book_of_draft t from p e = ap sound_draft e

reading_of_book : (t : List ℕ) (from : ℕ) (b : Book) (to : ℕ) → reading t from ≡ Ok (b.draft, to) → book_reading t from ≡ Ok (b.draft, to)
reading_of_book t from b to e = book_of_draft t from (b.draft, to) e ∙ ap (λ o. unless_fault o (b.draft, to)) (book_faultless b)

-- a book that was read is the draft of its text
unless_ok : {A : Type 0} (o : Option TableFault) (a c : A) → unless_fault o a ≡ Ok c → a ≡ c
unless_ok None a c e = cc
unless_ok (Some f) a c e = cc

draft_read : (r : Result (Draft × ℕ) TextFault) (p : Draft × ℕ) → sound_draft r ≡ Ok p → r ≡ Ok p
draft_read (Ok q) p e = ap Ok (unless_ok (draft_fault q.0) q p e)
draft_read (Err f) p e = grind arith

-- what the answer tells of the reading

answered : (x : Result (Draft × ℕ) TableFault) (before after : Book) (r : Result ℕ TableFault) (to : ℕ) → ReadsAs x before after r → r ≡ Ok to → x ≡ Ok (after.draft, to)
answered (Ok p) before after r to a e = grind arith
answered (Err f) before after r to a e = grind arith

taken_as : (x : Result (Draft × ℕ) TableFault) (before after : Book) (r : Result ℕ TableFault) (d : Draft) (to : ℕ) → ReadsAs x before after r → x ≡ Ok (d, to) → (r ≡ Ok to) × (after.draft ≡ d)
taken_as x before after r d to a e = let b = subst (λ y. ReadsAs y before after r) e a in (b.1, b.0)

-- what a fault of the draft makes of the answer
module _ (before after : Book) (r : Result ℕ TableFault) (p : Draft × ℕ) where
  none_taken : (o : Option TableFault) → ReadsAs (unless_fault o p) before after r → (r ≡ Ok p.1) ↔ (o ≡ None)
  none_taken None a = grind arith
  none_taken (Some g) a = grind arith

  some_refused : (o : Option TableFault) (f : TableFault) → ReadsAs (unless_fault o p) before after r → (r ≡ Err f) ↔ (o ≡ Some f)
  some_refused None f a = grind arith
  some_refused (Some g) f a = grind arith

module _ (t : List ℕ) (from : ℕ) (before after : Book) (r : Result ℕ TableFault) (a : ReadsAs (book_reading t from) before after r) where
  read_writes : (b : Book) (to : ℕ) → (r ≡ Ok to) × (after ≡ b) → WritesBook t from b to
  read_writes b to h =
      let e = draft_read (reading t from) (after.draft, to) (answered (book_reading t from) before after r to a h.0) in
      let w = (drafts_exactly t from b.draft to).0 (subst (λ (c : Book). reading t from ≡ Ok (c.draft, to)) h.1 e) in
      record { few = w.few; parts = w.parts }

  writes_read : (b : Book) (to : ℕ) → WritesBook t from b to → (r ≡ Ok to) × (after ≡ b)
  writes_read b to w =
      let e = (drafts_exactly t from b.draft to).1 (record { few = w.few; formed = book_formed b; parts = w.parts }) in
      let k = taken_as (book_reading t from) before after r b.draft to a (reading_of_book t from b to e) in
      (k.0, same_book after b k.1)

  pub reads_exactly : ReadsExactly t from after r
  reads_exactly b to = (read_writes b to, writes_read b to)

  pub checks_table : ChecksTable t from r
  checks_table d to w =
      let e = book_of_draft t from (d, to) ((drafts_exactly t from d to).1 w) in
      let b = subst (λ (x : Result (Draft × ℕ) TableFault). ReadsAs x before after r) e a in
      let check = checks_right d w.formed.ranged in
      record {
        taken = Iff.trans (none_taken before after r (d, to) (draft_fault d) b) check.sound;
        refused = λ f. Iff.trans (some_refused before after r (d, to) (draft_fault d) f b) (check.first f);
      }

-- the answer is a fault of the text just where the reading is

refused_as : (x : Result (Draft × ℕ) TableFault) (before after : Book) (r : Result ℕ TableFault) (f : TableFault) → ReadsAs x before after r → (r ≡ Err f) ↔ (x ≡ Err f)
refused_as (Ok p) before after r f a = grind arith
refused_as (Err g) before after r f a = grind arith

unless_some : {A : Type 0} (o : Option TableFault) (a : A) (f : TableFault) → unless_fault o a ≡ Err f → o ≡ Some f
unless_some None a f e = grind arith
unless_some (Some g) a f e = grind arith

-- no fault of a table is one of a text
text_refused : (r : Result (Draft × ℕ) TextFault) (f : TextFault) → ((p : Draft × ℕ) → r ≡ Ok p → Ranged p.0) → sound_draft r ≡ Err (Text f) → r ≡ Err f
text_refused (Ok p) f ranged e = absurd (((checks_right p.0 (ranged p refl)).first (Text f)).0 (unless_some (draft_fault p.0) p (Text f) e)).has
text_refused (Err g) f ranged e = grind arith

module _ (t : List ℕ) (from : ℕ) (before after : Book) (r : Result ℕ TableFault) (a : ReadsAs (book_reading t from) before after r) where
  pub refuses_text : RefusesText t from r
  refuses_text f =
      let answer = refused_as (book_reading t from) before after r (Text f) a in
      let law = drafts_refused t from f in
      (λ e. law.0 (text_refused (reading t from) f (λ p is. ((drafts_exactly t from p.0 p.1).0 is).formed.ranged) (answer.0 e)), λ h. answer.1 (ap sound_draft (law.1 h)))

-- how a text reads decides all that a call that reads it does
pub reads_book : (t : List ℕ) (from : ℕ) (before after : Book) (r : Result ℕ TableFault) → ReadsAs (book_reading t from) before after r → ReadsBook t from before after r
reads_book t from before after r a = record {
  is = a;
  exactly = reads_exactly t from before after r a;
  refused = refuses_text t from before after r a;
  checked = checks_table t from before after r a;
}

pub reads_back : (b : Book) → ReadsBack b
reads_back b behind few = reading_of_book (canonical b.draft ++ behind) 0 b (length (canonical b.draft) - 1) (drafts_back b.draft (book_formed b) behind few)

-- a book is known by its text
pub only_text : (b : Book) → length (canonical b.draft) ≤ max_bytes → OnlyText b
only_text b few other same =
    let whole : (c : Book) → canonical c.draft ≡ canonical b.draft → reading (canonical b.draft) 0 ≡ Ok (c.draft, length (canonical b.draft) - 1) =
    λ c e.
    let alone : canonical c.draft ++ [] ≡ canonical b.draft = append-nil (canonical c.draft) ∙ e in
    let short : length (canonical c.draft ++ []) ≤ max_bytes = subst (λ (t : List ℕ). length t ≤ max_bytes) (sym alone) few in
    ap (λ t. reading t 0) (sym alone) ∙ drafts_back c.draft (book_formed c) [] short ∙ ap (λ (t : List ℕ). Ok (c.draft, length t - 1)) e in
    let both : ◌≡◌ {A = Draft × ℕ} (other.draft, length (canonical b.draft) - 1) (b.draft, length (canonical b.draft) - 1) = (let e = sym (whole other same) ∙ whole b refl in cc) in
    same_book other b (ap (λ (p : Draft × ℕ). p.0) both)

-- the text that was written decides all that a call that writes it does
pub writes_text : (b : Book) (before after : List ℕ) (r : Result ℕ TableFault) → r ≡ book_written (canonical b.draft) before → after ≡ filled (canonical b.draft) before → length (canonical b.draft) ≤ max_bytes → WritesText b before after r
writes_text b before after r a f s = record {
  answers = a;
  fills = f;
  short = s;
  back = reads_back b;
  only = only_text b s;
}
