-- Two books of one draft are the same.
use Rattle.std.proofs.Common.{◌≡◌, ℕ, List, sym, ◌∙◌, subst, arith}
use denote.Struct.Record.{values_one}
use Rattle.std.proofs.lemmas.List.{ext_get_or}
use Rattle.text.specs.declared.draft.Draft.{Draft}
use Rattle.table.specs.declared.book.Book.{Book}
use Rattle.table.specs.contracts.book.Book as contracts
use Rattle.table.specs.Offsets.{Offsets, ZerosBehind}

-- a draft has one list of offsets
one_list : (d : Draft) (os ps : List ℕ) → Offsets d os → ZerosBehind d os → Offsets d ps → ZerosBehind d ps → os ≡ ps
one_list d os ps a y b z = ext_get_or 0 os ps (y.0 ∙ sym z.0) (λ s _. grind arith)

pub same_offsets : (b c : Book) → b.draft ≡ c.draft → b.offsets ≡ c.offsets
same_offsets b c e =
    one_list c.draft b.offsets c.offsets (subst (λ d. Offsets d b.offsets) e b.numbered) (subst (λ d. ZerosBehind d b.offsets) e b.offsets_padded) c.numbered c.offsets_padded

pub same_book : (b c : Book) → b.draft ≡ c.draft → b ≡ c
same_book b c e =
    let f = same_offsets b c e in
    values_one contracts.struct (contracts.the_type).propositions b c (λ i. (e i, (f i, tt)))
