-- A text reads as a draft exactly where it has the parts of the draft's canonical text, and the canonical text reads back.
use Rattle.std.proofs.Common.{◌≡◌, ℕ, ◌+◌, ◌-◌, Bool, true, false, cond, ltb, List, [], ◌∷◌, ◌++◌, length, drop, Ok, Err, Result, sym, refl, ap, ◌∙◌, subst, append-nil, arith, length-append, length-drop}
use Rattle.std.proofs.lemmas.List.{drop-drop}
use Rattle.std.proofs.lemmas.Bool.{le-ltb, ltb-false}
use Rattle.text.specs.declared.draft.Draft.{Draft}
use Rattle.text.specs.declared.fault.TextFault.{TextFault}
use Rattle.text.specs.declared.fault.TextFault.TheVariants.{TooLong}
use Rattle.text.specs.Draft.{Formed}
use Rattle.text.specs.Grammar.{book, placed, reading_from, reading}
use Rattle.text.specs.Limits.{max_bytes}
use Rattle.text.specs.Parts.{Begins, HasParts, Writes, ReadsExactly, ReadsBack}
use Rattle.text.specs.Token.{Part, Got, got, no}
use Rattle.text.specs.Write.{canonical}
use Rattle.text.proofs.Canonical.{canonical_begins}
use Rattle.text.proofs.DraftParts.{draft_parts, spelt_draft}
use Rattle.text.proofs.Follows.{begins_follows, follows_begins, same_parts, begins_drop, end_placed}

-- the parts of a canonical text
pub canonical_parts : (d : Draft) → Formed d → HasParts (canonical d) (draft_parts d)
canonical_parts d r = (10 ∷ [], subst (λ (t : List ℕ). Begins (draft_parts d) t (10 ∷ [])) (append-nil (canonical d)) (canonical_begins d [] r), (refl, tt))

-- a draft is read just where its parts stand

book_begins : (d : Draft) (bs rest : List ℕ) → book bs ≡ got d rest → Formed d × Begins (draft_parts d) bs rest
book_begins d bs rest e = let b = spelt_draft.back d bs rest e in (b.0, follows_begins (draft_parts d) bs rest b.1)

begins_book : (d : Draft) (bs rest : List ℕ) → Formed d → Begins (draft_parts d) bs rest → book bs ≡ got d rest
begins_book d bs rest r b = spelt_draft.forth d bs rest r (begins_follows (draft_parts d) bs rest b)

placed_got : (t : List ℕ) (g : Got Draft) (d : Draft) (to : ℕ) → placed t g ≡ Ok (d, to) → (rest : List ℕ) × (g ≡ got d rest) × (to ≡ length t - length rest)
placed_got t (got e rest) d to h = let p : (e, length t - length rest) ≡ (d, to) = cc in (rest, ap (λ (x : Draft × ℕ). got x.0 rest) p, sym (ap (λ (x : Draft × ℕ). x.1) p))
placed_got t (no f from) d to h = cc

not_too_long : (b : Bool) (r : Result (Draft × ℕ) TextFault) (p : Draft × ℕ) → cond b (Err TooLong) r ≡ Ok p → (b ≡ false) × (r ≡ Ok p)
not_too_long true r p e = cc
not_too_long false r p e = (refl, e)

module _ (text : List ℕ) (from : ℕ) (d : Draft) (to : ℕ) where
  reads_writes : reading text from ≡ Ok (d, to) → Writes text from d to
  unfolding reading_from
  reads_writes e =
      let short = not_too_long (ltb max_bytes (length text)) (reading_from text from) (d, to) e in
      let g = placed_got text (book (drop from text)) d to short.1 in
      let b = book_begins d (drop from text) g.0 g.1 in
      let tail = begins_drop (draft_parts d) (drop from text) g.0 b.1 in
      let end : g.0 ≡ drop to text = end_placed text g.0 (from + tail.0) (tail.1 ∙ drop-drop tail.0 from text) ∙ ap (λ n. drop n text) (sym g.2) in
      record {
        few = ltb-false max_bytes (length text) short.0;
        formed = b.0;
        parts = record {
          parts = draft_parts d;
          others = canonical_parts d b.0;
          within = omega (arith, g.2);
          there = subst (λ (t : List ℕ). Begins (draft_parts d) (drop from text) t) end b.1;
        };
      }

  writes_reads : Writes text from d to → reading text from ≡ Ok (d, to)
  unfolding reading_from
  writes_reads w =
      let p = w.parts in
      let same : p.parts ≡ draft_parts d = same_parts (canonical d) p.parts (draft_parts d) p.others (canonical_parts d w.formed) in
      let b : Begins (draft_parts d) (drop from text) (drop to text) = subst (λ (ps : List Part). Begins ps (drop from text) (drop to text)) same p.there in
      let place : length text - length (drop to text) ≡ to = simp length-drop (omega (arith, p.within)) in
      rw (le-ltb max_bytes (length text) w.few, begins_book d (drop from text) (drop to text) w.formed b) (ap (λ n. Ok (d, n)) place)

pub reads_exactly : (text : List ℕ) (from : ℕ) → ReadsExactly text from (reading text from)
reads_exactly text from d to = (reads_writes text from d to, writes_reads text from d to)

pub reads_back : (d : Draft) → Formed d → ReadsBack d
reads_back d r behind few =
    let text : List ℕ = canonical d ++ behind in
    let b = canonical_begins d behind r in
    let tail = begins_drop (draft_parts d) text (10 ∷ behind) b in
    let place : length text - length (10 ∷ behind) ≡ length (canonical d) - 1 = simp length-append (omega arith) in
    let end : 10 ∷ behind ≡ drop (length (canonical d) - 1) text = end_placed text (10 ∷ behind) tail.0 tail.1 ∙ ap (λ n. drop n text) place in
    writes_reads text 0 d (length (canonical d) - 1) (record {
      few = few;
      formed = r;
      parts = record {
        parts = draft_parts d;
        others = canonical_parts d r;
        within = simp length-append (omega arith);
        there = subst (λ (t : List ℕ). Begins (draft_parts d) text t) end b;
      };
    })

-- an answer that is the reading of a text
pub answers_exactly : (text : List ℕ) (from : ℕ) (r : Result (Draft × ℕ) TextFault) → r ≡ reading text from → ReadsExactly text from r
answers_exactly text from r is = subst (ReadsExactly text from) (sym is) (reads_exactly text from)
