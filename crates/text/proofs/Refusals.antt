-- A text is refused with a fault exactly where it has the fault: at the first part with which no draft's text goes on.
use Rattle.std.proofs.Common.{◌≡◌, ℕ, ◌+◌, ◌-◌, ◌<◌, ◌≤◌, Bool, true, false, cond, ltb, ◌⊎◌, List, [], ◌∷◌, ◌++◌, length, take, drop, Ok, Err, Result, sym, refl, ap, ◌∙◌, subst, inl, inr, ⊎_elim, append_assoc, append-nil, arith, length-append, length-drop, take-append-drop}
use Rattle.std.proofs.lemmas.List.{drop-drop}
use Rattle.std.proofs.lemmas.Bool.{ltb-true, ltb-false, lt-ltb, cases_Bool, cases_lt, cond-true}
use Rattle.text.specs.declared.draft.Draft.{Draft}
use Rattle.text.specs.declared.fault.TextFault.{TextFault}
use Rattle.text.specs.declared.fault.TextFault.TheVariants.{TooLong, Malformed, Unexpected, OutOfRange, Trailing, BufferTooShort}
use Rattle.text.specs.declared.token.Kind.TheVariants.{Blank}
use Rattle.text.specs.Draft.{Formed}
use Rattle.text.specs.Grammar.{book, placed, reading_from, reading}
use Rattle.text.specs.Limits.{max_bytes}
use Rattle.text.specs.Parts.{Other, Proper, Next, Begins, HasParts, Writes}
use Rattle.text.specs.Refusal.{GoesOn, Stopped, NoPart, OtherNumber, OtherPart, Refused, RefusesExactly}
use Rattle.text.specs.Token.{Part, number, end, run, Got, got, no, skip, part}
use Rattle.text.specs.Write.{canonical}
use Rattle.text.proofs.DraftParts.{draft_parts, spelt_draft}
use Rattle.text.proofs.Exactly.{canonical_parts, reads_exactly}
use Rattle.text.proofs.Follows.{Follows, begins_follows, follows_begins, same_parts, begins_drop, end_placed}
use Rattle.text.proofs.Lexing.{real, at_end, part_refused, next_lexed, lexed_next, run_front, run_rest, skip_blanks}
use Rattle.text.proofs.Readers.{never_both}
use Rattle.text.proofs.Readers as readers

-- what goes on by the parts of drafts goes on by their texts

goes_on : (ps : List Part) (p : Part) → readers.GoesOn draft_parts Formed ps p → GoesOn ps p
goes_on ps p go = record { draft = go.thing; formed = go.fits; later = go.later; parts = subst (HasParts (canonical go.thing)) go.is (canonical_parts go.thing go.fits) }

goes_back : (ps : List Part) (p : Part) → GoesOn ps p → readers.GoesOn draft_parts Formed ps p
goes_back ps p go = record { thing = go.draft; fits = go.formed; later = go.later; is = same_parts (canonical go.draft) (draft_parts go.draft) (ps ++ (p ∷ go.later)) (canonical_parts go.draft go.formed) go.parts }

-- what stands at the place, as the lexer finds it

module _ (here : List ℕ) (first : Other Blank here) where
  skip_here : skip here ≡ here
  skip_here = skip_blanks [] here tt first

  no_part : (from : List ℕ) → part here ≡ no Malformed from → (here ≡ [] → ⊥) × ((p : Part) (more : List ℕ) → Next p here more → ⊥)
  no_part from e = (
    λ nothing. never_both (part here) end [] Malformed from (ap part nothing) e,
    λ p more n. never_both (part here) p more Malformed from (ap part (sym skip_here) ∙ next_lexed p here more n) e,
  )

  next_here : (p : Part) (more : List ℕ) → part here ≡ got p more → real p ≡ true → Next p here more
  next_here p more e r = lexed_next p here more (ap part skip_here ∙ e) r

-- a text that stops at a place, with the reason

module _ (text : List ℕ) (from : ℕ) (few : length text ≤ max_bytes) (e : ℕ → TextFault) (left : List ℕ) (r : readers.Refusal draft_parts Formed (drop from text) e left) where
  abbrev at : ℕ
  at = length text - length left

  begins : Begins r.before (drop from text) r.rest
  begins = follows_begins r.before (drop from text) r.rest r.follow

  here_is : left ≡ drop at text
  here_is =
      let k = begins_drop r.before (drop from text) r.rest begins in
      let rest : r.rest ≡ drop (from + k.0) text = k.1 ∙ drop-drop k.0 from text in
      end_placed text left (from + k.0 + run Blank r.rest) (r.place ∙ ap (drop (run Blank r.rest)) rest ∙ drop-drop (run Blank r.rest) (from + k.0) text)

  first_here : Other Blank (drop at text)
  first_here = subst (Other Blank) (sym r.place ∙ here_is) (run_rest Blank r.rest)

  part_here : (g : Got Part) → part (skip r.rest) ≡ g → part (drop at text) ≡ g
  part_here g h = ap part (sym here_is ∙ r.place) ∙ h

  stopped : Stopped text from at
  stopped = record {
    few = few;
    before = r.before;
    rest = r.rest;
    begins = begins;
    due = r.due;
    goes = goes_on r.before r.due r.goes;
    blanks = take (run Blank r.rest) r.rest;
    blank = run_front Blank r.rest;
    place = sym (take-append-drop (run Blank r.rest) r.rest) ∙ ap (λ t. take (run Blank r.rest) r.rest ++ t) (sym r.place ∙ here_is);
    first = first_here;
    within = omega arith;
  }

  other_part : (w : readers.Other (readers.GoesOn draft_parts Formed r.before) (part (skip r.rest))) → (drop at text ≡ []) ⊎ OtherPart r.before text at
  other_part w =
      ⊎_elim
      (λ (one : real w.found ≡ true). inr (record {
        found = w.found;
        more = w.rest;
        is = next_here (drop at text) first_here w.found w.rest (part_here _ w.is) one;
        never = λ go. w.never (goes_back r.before w.found go);
        no_number = λ n m is go. w.no_number n m is (goes_back r.before (number m) go);
      }))
      (λ (none : real w.found ≡ false). inl (at_end (drop at text) w.found w.rest (part_here _ w.is) none))
      (cases_Bool (real w.found))

  refused_why : readers.Why (readers.GoesOn draft_parts Formed r.before) (part (skip r.rest)) e → Refused text from (e at)
  unfolding stopped
  refused_why (inl w) =
      let n = no_part (drop at text) first_here w.1.from (part_here _ w.1.is) in
      subst (λ (x : ℕ → TextFault). Refused text from (x at)) (sym w.0) (stopped, record { some = n.0; none = n.1 })
  refused_why (inr (inl w)) =
      let o = w.1 in
      subst (λ (x : ℕ → TextFault). Refused text from (x at)) (sym w.0) (
        stopped,
        record {
          found = o.found;
          more = o.rest;
          is = next_here (drop at text) first_here (number o.found) o.rest (part_here _ o.is) refl;
          never = λ go. o.never (goes_back r.before (number o.found) go);
          other = o.other;
          goes = goes_on r.before (number o.other) o.goes;
        },
      )
  refused_why (inr (inr w)) = subst (λ (x : ℕ → TextFault). Refused text from (x at)) (sym w.0) (stopped, other_part w.1)

placed_no : (t : List ℕ) (g : Got Draft) (f : TextFault) → placed t g ≡ Err f → (e : ℕ → TextFault) × (left : List ℕ) × (g ≡ no e left) × (f ≡ e (length t - length left))
placed_no t (got d rest) f h = cc
placed_no t (no e left) f h = (e, left, refl, cc)

refused_by : (text : List ℕ) (from : ℕ) (f : TextFault) (b : Bool) → ltb max_bytes (length text) ≡ b → cond b (Err TooLong) (reading_from text from) ≡ Err f → Refused text from f
unfolding reading_from
refused_by text from f true is h = let same : TooLong ≡ f = cc in subst (Refused text from) same (ltb-true max_bytes (length text) is)
refused_by text from f false is h =
    let n = placed_no text (book (drop from text)) f h in
    let r = spelt_draft.fails (drop from text) n.0 n.1 n.2 in
    subst (Refused text from) (sym n.3) (refused_why text from (ltb-false max_bytes (length text) is) n.0 n.1 r r.why)

refused_right : (text : List ℕ) (from : ℕ) (f : TextFault) → reading text from ≡ Err f → Refused text from f
refused_right text from f h = refused_by text from f (ltb max_bytes (length text)) refl h

-- a text has one fault at most, and none if it reads as a draft

-- what goes on behind more parts goes on with the first of them
goes_before : (ps qs : List Part) (p q : Part) → GoesOn (ps ++ (p ∷ qs)) q → GoesOn ps p
goes_before ps qs p q go = record {
  draft = go.draft;
  formed = go.formed;
  later = qs ++ (q ∷ go.later);
  parts = subst (HasParts (canonical go.draft)) (append_assoc ps (p ∷ qs) (q ∷ go.later)) go.parts;
}

same_next : (p q : Part) (bs more others : List ℕ) → part (skip bs) ≡ got p more → part (skip bs) ≡ got q others → (p ≡ q) × (more ≡ others)
same_next p q bs more others e f = let both : got p more ≡ got q others = sym e ∙ f in (cc, cc)

-- behind the parts that two have in common, each of them is stuck at the same place
one_stop : (before ps qs : List Part) (bs rest others : List ℕ)
    → Follows ps bs rest
    → Follows qs bs others
    → ((p : Part) (more : List ℕ) → part (skip rest) ≡ got p more → GoesOn (before ++ ps) p → ⊥)
    → ((p : Part) (more : List ℕ) → part (skip others) ≡ got p more → GoesOn (before ++ qs) p → ⊥)
    → ((p : Part) × GoesOn (before ++ ps) p)
    → ((p : Part) × GoesOn (before ++ qs) p)
    → (ps ≡ qs) × (rest ≡ others)
one_stop before [] [] bs rest others f g never none goes go = (refl, sym f ∙ g)
one_stop before [] (q ∷ qs) bs rest others f g never none goes go =
    absurd (never q g.0 (ap (λ t. part (skip t)) (sym f) ∙ g.1) (subst (λ (ps : List Part). GoesOn ps q) (sym (append-nil before)) (goes_before before qs q go.0 go.1)))
one_stop before (p ∷ ps) [] bs rest others f g never none goes go =
    absurd (none p f.0 (ap (λ t. part (skip t)) (sym g) ∙ f.1) (subst (λ (qs : List Part). GoesOn qs p) (sym (append-nil before)) (goes_before before ps p goes.0 goes.1)))
one_stop before (p ∷ ps) (q ∷ qs) bs rest others f g never none goes go =
    let same = same_next p q bs f.0 g.0 f.1 g.1 in
    let front : (xs : List Part) → before ++ (p ∷ xs) ≡ (before ++ (p ∷ [])) ++ xs = λ xs. sym (append_assoc before (p ∷ []) xs) in
    let shift : before ++ (q ∷ qs) ≡ (before ++ (p ∷ [])) ++ qs = ap (λ x. before ++ (x ∷ qs)) (sym same.0) ∙ front qs in
    let later = one_stop (before ++ (p ∷ [])) ps qs g.0 rest others (subst (λ (t : List ℕ). Follows ps t rest) same.1 f.3) g.3
    (λ x more e go. never x more e (subst (λ (xs : List Part). GoesOn xs x) (sym (front ps)) go))
    (λ x more e go. none x more e (subst (λ (xs : List Part). GoesOn xs x) (sym shift) go))
    (goes.0, subst (λ (xs : List Part). GoesOn xs goes.0) (front ps) goes.1)
    (go.0, subst (λ (xs : List Part). GoesOn xs go.0) shift go.1) in
    (λ i. same.0 i ∷ later.0 i, later.1)

-- no draft's parts go on behind all parts of a draft
goes_no_further : (d : Draft) (qs : List Part) (p : Part) → Formed d → GoesOn (draft_parts d ++ qs) p → ⊥
goes_no_further d qs p r go =
    let back = goes_back (draft_parts d ++ qs) p go in
    let all : draft_parts back.thing ≡ draft_parts d ++ (qs ++ (p ∷ back.later)) = back.is ∙ append_assoc (draft_parts d) qs (p ∷ back.later) in
    let same : back.thing ≡ d = spelt_draft.free d back.thing r back.fits (qs ++ (p ∷ back.later)) all in
    let long = ap length (ap draft_parts (sym same) ∙ all) ∙ length-append (draft_parts d) (qs ++ (p ∷ back.later)) in
    let some = length-append qs (p ∷ back.later) in
    omega arith

-- a text that reads as a draft is stuck nowhere
read_free : (d : Draft) (before ps qs : List Part) (bs rest others : List ℕ)
    → Formed d
    → draft_parts d ≡ before ++ qs
    → Follows ps bs rest
    → Follows qs bs others
    → ((p : Part) (more : List ℕ) → part (skip rest) ≡ got p more → GoesOn (before ++ ps) p → ⊥)
    → (p : Part) → GoesOn (before ++ ps) p → ⊥
read_free d before ps [] bs rest others r is f g never p go = goes_no_further d ps p r (subst (λ (xs : List Part). GoesOn (xs ++ ps) p) (sym (is ∙ append-nil before)) go)
read_free d before [] (q ∷ qs) bs rest others r is f g never p go =
    never q g.0 (ap (λ t. part (skip t)) (sym f) ∙ g.1)
    (goes_on (before ++ []) q (record { thing = d; fits = r; later = qs; is = is ∙ ap (λ xs. xs ++ (q ∷ qs)) (sym (append-nil before)) }))
read_free d before (x ∷ ps) (q ∷ qs) bs rest others r is f g never p go =
    let same = same_next x q bs f.0 g.0 f.1 g.1 in
    let front : before ++ (x ∷ ps) ≡ (before ++ (q ∷ [])) ++ ps = ap (λ y. before ++ (y ∷ ps)) same.0 ∙ sym (append_assoc before (q ∷ []) ps) in
    read_free d (before ++ (q ∷ [])) ps qs g.0 rest others r (is ∙ sym (append_assoc before (q ∷ []) qs)) (subst (λ (t : List ℕ). Follows ps t rest) same.1 f.3) g.3
    (λ y more e go. never y more e (subst (λ (xs : List Part). GoesOn xs y) (sym front) go))
    p (subst (λ (xs : List Part). GoesOn xs p) front go)

-- no text has the end among its parts
begins_proper : (ps qs : List Part) (p : Part) (bs rest : List ℕ) → Begins (ps ++ (p ∷ qs)) bs rest → Proper p
begins_proper [] qs p bs rest b = b.1.proper
begins_proper (x ∷ ps) qs p bs rest b = begins_proper ps qs p b.0 rest b.2

goes_proper : (ps : List Part) (p : Part) → GoesOn ps p → Proper p
goes_proper ps p go = begins_proper ps go.later p (canonical go.draft) go.parts.0 go.parts.1

-- where a text stops, and why
record Halts (text : List ℕ) (from : ℕ) (f : TextFault) : Type 0 where
  at : ℕ
  stop : Stopped text from at
  kind : ℕ → TextFault
  is : f ≡ kind at
  why : readers.Why (GoesOn stop.before) (part (skip stop.rest)) kind

module _ (text : List ℕ) (from at : ℕ) (s : Stopped text from at) where
  there : skip s.rest ≡ drop at text
  there = ap skip s.place ∙ skip_blanks s.blanks (drop at text) s.blank s.first

  next_there : (p : Part) (more : List ℕ) → Next p (drop at text) more → part (skip s.rest) ≡ got p more
  next_there p more n = ap part (there ∙ sym (skip_here (drop at text) s.first)) ∙ next_lexed p (drop at text) more n

  broken : (g : Got Part) → part (drop at text) ≡ g → NoPart text at → readers.Broken g
  broken (got p more) e n =
      ⊎_elim
      (λ (one : real p ≡ true). absurd (n.none p more (next_here (drop at text) s.first p more e one)))
      (λ (none : real p ≡ false). absurd (n.some (at_end (drop at text) p more e none)))
      (cases_Bool (real p))
  broken (no x left) e n = record { from = left; is = ap (λ y. no y left) (part_refused (drop at text) left x e).0 }

  malformed_halts : NoPart text at → Halts text from (Malformed at)
  malformed_halts n = record { at = at; stop = s; kind = Malformed; is = refl; why = inl (refl, broken (part (skip s.rest)) (ap part (sym there)) n) }

  range_halts : OtherNumber s.before text at → Halts text from (OutOfRange at)
  range_halts o = record { at = at; stop = s; kind = OutOfRange; is = refl; why = inr (inl (refl, record { found = o.found; rest = o.more; is = next_there (number o.found) o.more o.is; never = o.never; other = o.other; goes = o.goes })) }

  other_halts : (drop at text ≡ []) ⊎ OtherPart s.before text at → Halts text from (Unexpected at)
  other_halts (inl nothing) = record { at = at; stop = s; kind = Unexpected; is = refl; why = inr (inr (refl, record { found = end; rest = []; is = ap part (there ∙ nothing); never = λ go. goes_proper s.before end go; no_number = λ n m e go. cc })) }
  other_halts (inr o) = record { at = at; stop = s; kind = Unexpected; is = refl; why = inr (inr (refl, record { found = o.found; rest = o.more; is = next_there o.found o.more o.is; never = o.never; no_number = o.no_number })) }

refused_halts : (text : List ℕ) (from : ℕ) (f : TextFault) → length text ≤ max_bytes → Refused text from f → Halts text from f
refused_halts text from TooLong few h = absurd (omega arith)
refused_halts text from (Malformed at) few h = malformed_halts text from at h.0 h.1
refused_halts text from (Unexpected at) few h = other_halts text from at h.0 h.1
refused_halts text from (OutOfRange at) few h = range_halts text from at h.0 h.1
refused_halts text from (Trailing _) few h = absurd h
refused_halts text from BufferTooShort few h = absurd h

-- a part that is refused is none with which the text could go on
why_never : {Goes : Part → Type 0} {g : Got Part} {e : ℕ → TextFault} → readers.Why Goes g e → (p : Part) (more : List ℕ) → g ≡ got p more → Goes p → ⊥
why_never {Goes} {g} (inl w) p more is go = never_both g p more Malformed w.1.from is w.1.is
why_never {Goes} (inr (inl w)) p more is go =
    let both : got (number w.1.found) w.1.rest ≡ got p more = sym w.1.is ∙ is in
    let same : p ≡ number w.1.found = cc in
    w.1.never (subst Goes same go)
why_never {Goes} (inr (inr w)) p more is go =
    let both : got w.1.found w.1.rest ≡ got p more = sym w.1.is ∙ is in
    let same : p ≡ w.1.found = cc in
    w.1.never (subst Goes same go)

-- one place has one reason
one_reason : {Goes : Part → Type 0} {g : Got Part} {e f : ℕ → TextFault} → readers.Why Goes g e → readers.Why Goes g f → e ≡ f
one_reason (inl w) (inl v) = w.0 ∙ sym v.0
one_reason {Goes} {g} (inl w) (inr (inl v)) = absurd (never_both g (number v.1.found) v.1.rest Malformed w.1.from v.1.is w.1.is)
one_reason {Goes} {g} (inl w) (inr (inr v)) = absurd (never_both g v.1.found v.1.rest Malformed w.1.from v.1.is w.1.is)
one_reason {Goes} {g} (inr (inl w)) (inl v) = absurd (never_both g (number w.1.found) w.1.rest Malformed v.1.from w.1.is v.1.is)
one_reason (inr (inl w)) (inr (inl v)) = w.0 ∙ sym v.0
one_reason (inr (inl w)) (inr (inr v)) =
    let both : got v.1.found v.1.rest ≡ got (number w.1.found) w.1.rest = sym v.1.is ∙ w.1.is in
    let same : v.1.found ≡ number w.1.found = cc in
    absurd (v.1.no_number w.1.found w.1.other same w.1.goes)
one_reason {Goes} {g} (inr (inr w)) (inl v) = absurd (never_both g w.1.found w.1.rest Malformed v.1.from w.1.is v.1.is)
one_reason (inr (inr w)) (inr (inl v)) =
    let both : got w.1.found w.1.rest ≡ got (number v.1.found) v.1.rest = sym w.1.is ∙ v.1.is in
    let same : w.1.found ≡ number v.1.found = cc in
    absurd (w.1.no_number v.1.found v.1.other same v.1.goes)
one_reason (inr (inr w)) (inr (inr v)) = w.0 ∙ sym v.0

module _ (text : List ℕ) (from : ℕ) where
  follow_of : {f : TextFault} (h : Halts text from f) → Follows h.stop.before (drop from text) h.stop.rest
  follow_of h = begins_follows h.stop.before (drop from text) h.stop.rest h.stop.begins

  halts_once : (f g : TextFault) → Halts text from f → Halts text from g → f ≡ g
  halts_once f g h k =
      let s = h.stop in
      let t = k.stop in
      let same = one_stop [] s.before t.before (drop from text) s.rest t.rest (follow_of h) (follow_of k) (why_never h.why) (why_never k.why) (s.due, s.goes) (t.due, t.goes) in
      let here : drop h.at text ≡ drop k.at text = sym (there text from h.at s) ∙ ap skip same.1 ∙ there text from k.at t in
      let long : length text - h.at ≡ length text - k.at = sym (length-drop h.at text) ∙ ap length here ∙ length-drop k.at text in
      let place : h.at ≡ k.at = omega (arith, s.within, t.within) in
      let moved : readers.Why (GoesOn t.before) (part (skip t.rest)) h.kind = subst (λ (ps : List Part). readers.Why (GoesOn ps) (part (skip t.rest)) h.kind) same.0 (subst (λ (bs : List ℕ). readers.Why (GoesOn s.before) (part (skip bs)) h.kind) same.1 h.why) in
      let kind : h.kind ≡ k.kind = one_reason moved k.why in
      h.is ∙ (λ i. kind i (place i)) ∙ sym k.is

  halts_unread : (f : TextFault) (d : Draft) (to : ℕ) → Halts text from f → Writes text from d to → ⊥
  halts_unread f d to h w =
      let s = h.stop in
      let p = w.parts in
      let same : p.parts ≡ draft_parts d = same_parts (canonical d) p.parts (draft_parts d) p.others (canonical_parts d w.formed) in
      let all = begins_follows (draft_parts d) (drop from text) (drop to text) (subst (λ (ps : List Part). Begins ps (drop from text) (drop to text)) same p.there) in
      read_free d [] s.before (draft_parts d) (drop from text) s.rest (drop to text) w.formed refl (follow_of h) all (why_never h.why) s.due s.goes

  -- a text that is too long has no other fault
  too_long : (f : TextFault) → Refused text from f → max_bytes < length text → reading text from ≡ Err f
  too_long TooLong h many = cond-true _ (Err TooLong) _ (lt-ltb max_bytes (length text) many)
  too_long (Malformed at) h many = absurd (omega (arith, h.0.few))
  too_long (Unexpected at) h many = absurd (omega (arith, h.0.few))
  too_long (OutOfRange at) h many = absurd (omega (arith, h.0.few))
  too_long (Trailing at) h many = absurd h
  too_long BufferTooShort h many = absurd h

  refused_found : (f : TextFault) (r : Result (Draft × ℕ) TextFault) → reading text from ≡ r → length text ≤ max_bytes → Halts text from f → r ≡ Err f
  refused_found f (Ok p) is few h = absurd (halts_unread f p.0 p.1 h ((reads_exactly text from p.0 p.1).0 is))
  refused_found f (Err g) is few h = ap Err (halts_once g f (refused_halts text from g few (refused_right text from g is)) h)

  found_refused : (f : TextFault) → Refused text from f → reading text from ≡ Err f
  found_refused f h = ⊎_elim (too_long f h) (λ few. refused_found f (reading text from) refl few (refused_halts text from f few h)) (cases_lt max_bytes (length text))

  pub refuses_exactly : RefusesExactly text from (reading text from)
  refuses_exactly f = (refused_right text from f, found_refused f)

-- an answer that is the reading of a text
pub answers_refused : (text : List ℕ) (from : ℕ) (r : Result (Draft × ℕ) TextFault) → r ≡ reading text from → RefusesExactly text from r
answers_refused text from r is = subst (RefusesExactly text from) (sym is) (refuses_exactly text from)
