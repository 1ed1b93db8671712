-- The search's invariant at its start and from head to head, and what it gives at the end: likeness, or a shortest string.
use Rattle.std.proofs.Common.{◌≡◌, ℕ, ◌+◌, ◌<◌, ◌≤◌, ◌≢◌, List, [], ◌∷◌, ◌++◌, length, sym, refl, ap, ◌∙◌, subst, inl, inr, ⊎_elim, arith}
use Rattle.std.proofs.lemmas.Bool.{cases_eq, cases_lt}
use Rattle.table.specs.Meaning.{Meaning, Lawful, output}
use Rattle.table.specs.Steps.{Fit, Over, after, leads, heard, answers}
use Rattle.table.specs.declared.word.Step.{Step}
use Rattle.table.specs.declared.word.Step.TheVariants.{Tick, Take}
use Rattle.table.proofs.Strings.{over_append, answers_append, answers_cut, length_push}
use Rattle.compare.specs.Cell.{number_of}
use Rattle.compare.specs.Search.{at, marks, pair_number, Agreeing, Queued, Inv, Past, Told}
use Rattle.compare.specs.declared.cell.Cell.{Cell}
use Rattle.compare.proofs.Grown.{Grown}
use Rattle.compare.proofs.Queue.{queued_new, number_within, first_left, first_right}

-- along any string from a queued pair the machines draw the same outputs while the search has dealt with every pair near enough
module _ (m n : Meaning) (W : ℕ → List Step) (cs : List Cell) (tail head done : ℕ) (inv : Inv m n W cs tail head done) where
  same_heard : (x : Step) (a b : ℕ) (us vs : List ℕ) → Fit m.inputs x → Agreeing m n a b → us ≡ vs → heard m x a us ≡ heard n x b vs
  same_heard Tick a b us vs f g e = e
  same_heard (Take i) a b us vs f g e = let h : output m a i ≡ output n b i = g i f in cc

  same_near : (limit : ℕ) → ((k : ℕ) → k < tail → length (W k) < limit → k < head) → (w : List Step) (k : ℕ) → k < tail → Over m.inputs w → length w + length (W k) ≤ limit → answers m w (at cs k).left ≡ answers n w (at cs k).right
  same_near limit far [] k h ok short = refl
  same_near limit far (x ∷ w) k h ok short =
      let before : k < head = far k h (omega arith) in
      let f = inv.closed k h x ok.0 (inl before) in
      let q = f.queued in
      let rest : answers m w (after m x (at cs k).left) ≡ answers n w (after n x (at cs k).right) = rw (q.is_left, q.is_right) at (same_near limit far w q.place q.below ok.1 (omega (arith, f.close))) in
      same_heard x _ _ _ _ ok.0 (inv.agree k before) rest

  -- the same from the starts
  pub same_from_start : (limit : ℕ) → ((k : ℕ) → k < tail → length (W k) < limit → k < head) → (w : List Step) → Over m.inputs w → length w ≤ limit → answers m w m.start ≡ answers n w n.start
  same_from_start limit far w ok short = rw (first_left inv, first_right inv) at (same_near limit far w 0 inv.some ok (omega (arith, ap length inv.root)))

pub all_same : (m n : Meaning) (W : ℕ → List Step) (cs : List Cell) (tail : ℕ) → Inv m n W cs tail tail 0 → (w : List Step) → Over m.inputs w → answers m w m.start ≡ answers n w n.start
all_same m n W cs tail inv w ok = same_from_start m n W cs tail tail 0 inv (length w) (λ k h _. h) w ok (omega arith)

-- the machines agree at the head, and every step of it is dealt with
pub keeps_next : (m n : Meaning) (W : ℕ → List Step) (cs : List Cell) (tail head : ℕ) → Inv m n W cs tail head (m.inputs + 1) → head < tail → Agreeing m n (at cs head).left (at cs head).right → Inv m n W cs tail (head + 1) 0
keeps_next m n W cs tail head inv more same = record {
  count = inv.count;
  some = inv.some;
  upto = omega arith;
  root = inv.root;
  item = inv.item;
  link = inv.link;
  mono = inv.mono;
  near = λ h k hk. omega (arith, inv.near more k hk, inv.mono head (head + 1) (omega arith) h);
  known = inv.known;
  all_seen = inv.all_seen;
  agree = λ k hk.
      ⊎_elim {C = Agreeing m n (at cs k).left (at cs k).right}
      (λ (e : k ≡ head). subst (λ (j : ℕ). Agreeing m n (at cs j).left (at cs j).right) (sym e) same)
      (λ ne. inv.agree k (omega (arith, ne)))
      (cases_eq k head);
  closed = λ k hk s f p.
      inv.closed k hk s f (
      ⊎_elim {C = Past head (m.inputs + 1) k s}
      (λ (e : k ≡ head). inr (e, omega (arith, number_within m.inputs s f)))
      (λ ne. inl (⊎_elim (λ (l : k < head + 1). omega (arith, ne)) (λ (l : (k ≡ head + 1) × (number_of s < 0)). absurd (omega (arith, l.1))) p))
      (cases_eq k head));
}

-- blank cells, and the pair of the starts put into the queue
module _ (m n : Meaning) (lm : Lawful m) (ln : Lawful n) (cs ds : List Cell) (c : Cell) (none : marks cs ≡ 0) (is_left : c.left ≡ m.start) (is_right : c.right ≡ n.start) (gr : Grown cs ds 0 c (pair_number n.count c.left c.right)) (fresh : (k : ℕ) → (at cs k).seen ≡ 0) where
  pub keeps_first : Inv m n (λ _. []) ds 1 0 0
  keeps_first =
      let l : (at ds 0).left ≡ m.start = gr.new.left ∙ is_left in
      let r : (at ds 0).right ≡ n.start = gr.new.right ∙ is_right in
      let right_in : c.right < n.count = omega (arith, ln.start_in) in
      record {
        count = omega (arith, gr.count);
        some = omega arith;
        upto = omega arith;
        root = refl;
        item = λ k h.
            let z : k ≡ 0 = omega arith in
            rw (z, l, r) (record { left_in = lm.start_in; right_in = ln.start_in; over = tt; left_leads = refl; right_leads = refl });
        link = λ k pos h. absurd (omega arith);
        mono = λ j k le h. omega arith;
        near = λ _ k h. omega arith;
        known = λ a b ha hb seen.
            ⊎_elim {C = Queued ds 1 a b}
            (queued_new gr n.count a b hb right_in)
            (λ ne. absurd (let z : 0 ≡ 1 = sym (fresh (pair_number n.count a b)) ∙ sym (gr.seen (pair_number n.count a b) ne) ∙ seen in omega arith))
            (cases_eq (pair_number n.count a b) (pair_number n.count c.left c.right));
        all_seen = λ k h.
            let z : k ≡ 0 = omega arith in
            rw (z, gr.new.left, gr.new.right) gr.here;
        agree = λ k h. absurd (omega arith);
        closed = λ k h s f p. absurd (⊎_elim (λ (x : k < 0). omega arith) (λ (x : (k ≡ 0) × (number_of s < 0)). omega (arith, x.1)) p);
      }

-- the string w tells the machines apart, and no shorter one does
pub record Shortest (m n : Meaning) (w : List Step) : Type 0 where
  pub over : Over m.inputs w
  pub tells : answers m w m.start ≢ answers n w n.start
  pub least : (v : List Step) → Over m.inputs v → answers m v m.start ≢ answers n v n.start → length w ≤ length v

pub shortest : (m n : Meaning) (cs : List Cell) (place input : ℕ) (told : Told m n cs place input) (w : List Step) → w ≡ told.strings place ++ (Take input ∷ []) → Shortest m n w
shortest m n cs place input told w is =
    let W = told.strings in
    let inv = told.inv in
    let i = inv.item place told.below in
    let long : length w ≡ length (W place) + 1 = ap length is ∙ length_push (W place) (Take input) in
    record {
      over = rw is (over_append m.inputs (W place) (Take input ∷ []) i.over (told.fits, tt));
      tells = λ same.
          let last =
          answers_cut m n (W place) m.start n.start _ _
          (rw (is, answers_append m (W place) (Take input ∷ []) m.start, answers_append n (W place) (Take input ∷ []) n.start) at same) in
          let last_same : output m (leads m (W place) m.start) input ≡ output n (leads n (W place) n.start) input = cc in
          told.differ (rw (i.left_leads, i.right_leads) at last_same);
      least = λ v ok tells.
          ⊎_elim {C = length w ≤ length v}
          (λ (short : length v < length w).
          absurd (tells (same_from_start m n W cs told.tail place told.done inv (length (W place))
          (λ k h l. ⊎_elim {C = k < place} (λ x. x) (λ (far : place ≤ k). absurd (omega (arith, inv.mono place k far h))) (cases_lt k place))
          v ok (omega arith))))
          (λ x. x)
          (cases_lt (length v) (length w));
    }
