-- The search's invariant over one item more in the queue.
use Rattle.std.proofs.Common.{◌≡◌, ℕ, ◌+◌, ◌-◌, ◌/◌, ◌%◌, ◌<◌, ◌≤◌, cond, eqb, ◌≢◌, ◌⊎◌, List, [], ◌∷◌, ◌++◌, length, sym, refl, ap, ◌∙◌, subst, inl, inr, ⊎_elim, arith, below_more}
use Rattle.std.proofs.lemmas.Bool.{cases_eq, eq-eqb, ne_eqb, cond-true, cond-false}
use Rattle.std.proofs.lemmas.Nat.{div-mul-add, mod-mul-add}
use Rattle.text.specs.Limits.{max_inputs}
use Rattle.table.specs.Meaning.{Meaning, output}
use Rattle.table.specs.Steps.{Fit, after, leads}
use Rattle.table.specs.declared.word.Step.{Step}
use Rattle.table.specs.declared.word.Step.TheVariants.{Tick, Take}
use Rattle.table.proofs.Strings.{over_append, leads_append, length_push}
use Rattle.compare.specs.Cell.{number_of, step_of}
use Rattle.compare.specs.Search.{at, pair_number, Queued, Follow, Item, Link, Inv, Past}
use Rattle.compare.specs.declared.cell.Cell.{Cell}
use Rattle.compare.proofs.Grown.{Same, Grown}

-- a family of strings with one changed
unfoldable pub with_string : (ℕ → List Step) → ℕ → List Step → ℕ → List Step
with_string W t w k = cond (eqb k t) w (W k)

with_same : (W : ℕ → List Step) (t : ℕ) (w : List Step) → with_string W t w t ≡ w
unfolding with_string
with_same W t w = cond-true (eqb t t) w (W t) (eq-eqb t t refl)

with_other : (W : ℕ → List Step) (t : ℕ) (w : List Step) (k : ℕ) → k ≢ t → with_string W t w k ≡ W k
unfolding with_string
with_other W t w k ne = cond-false (eqb k t) w (W k) (ne_eqb k t ne)

-- a step and its number stand for each other

pub numbered : (s : Step) → step_of (number_of s) ≡ s
numbered Tick = refl
numbered (Take i) =
    let back : i + 1 - 1 ≡ i = omega arith in
    cond-false (eqb (i + 1) 0) Tick (Take (i + 1 - 1)) (ne_eqb (i + 1) 0 (λ e. omega arith)) ∙ ap Take back

number_apart : (s t : Step) → number_of s ≡ number_of t → s ≡ t
number_apart s t e = sym (numbered s) ∙ ap step_of e ∙ numbered t

pub number_within : (r : ℕ) (s : Step) → Fit r s → number_of s ≤ r
number_within r Tick f = omega arith
number_within r (Take i) f = omega arith

-- one number stands for one pair

pub row_same : (w a b c d : ℕ) → b < w → d < w → pair_number w a b ≡ pair_number w c d → a ≡ c
row_same w a b c d hb hd e = sym (div-mul-add a w b hb) ∙ ap (λ (x : ℕ). x / w) e ∙ div-mul-add c w d hd

pub column_same : (w a b c d : ℕ) → b < w → d < w → pair_number w a b ≡ pair_number w c d → b ≡ d
column_same w a b c d hb hd e = sym (mod-mul-add a w b hb) ∙ ap (λ (x : ℕ). x % w) e ∙ mod-mul-add c w d hd

-- the pair of the new item stands at the tail
pub queued_new : {cs ds : List Cell} {tail : ℕ} {c : Cell} {p : ℕ} → Grown cs ds tail c p → (w a b : ℕ) → b < w → c.right < w → pair_number w a b ≡ pair_number w c.left c.right → Queued ds (tail + 1) a b
queued_new {tail = tail} {c = c} gr w a b hb hc e = record {
  place = tail;
  below = omega arith;
  is_left = gr.new.left ∙ sym (row_same w a b c.left c.right hb hc e);
  is_right = gr.new.right ∙ sym (column_same w a b c.left c.right hb hc e);
}

-- what is dealt with after one step more
past_more : (head done k : ℕ) (s t : Step) → number_of s ≡ done → Past head (done + 1) k t → Past head done k t ⊎ ((k ≡ head) × (t ≡ s))
past_more head done k s t e (inl h) = inl (inl h)
past_more head done k s t e (inr h) =
    ⊎_elim {C = Past head done k t ⊎ ((k ≡ head) × (t ≡ s))}
    (λ (same : number_of t ≡ done). inr (h.0, number_apart t s (same ∙ sym e)))
    (λ ne. inl (inr (h.0, omega (arith, h.1))))
    (cases_eq (number_of t) done)

-- the first item holds the pair of the starts
module _ {m n : Meaning} {W : ℕ → List Step} {cs : List Cell} {tail head done : ℕ} (inv : Inv m n W cs tail head done) where
  pub first_left : (at cs 0).left ≡ m.start
  first_left = sym (inv.item 0 inv.some).left_leads ∙ ap (λ (w : List Step). leads m w m.start) inv.root

  pub first_right : (at cs 0).right ≡ n.start
  first_right = sym (inv.item 0 inv.some).right_leads ∙ ap (λ (w : List Step). leads n w n.start) inv.root

module _ (m n : Meaning) (W : ℕ → List Step) (cs : List Cell) (tail head done : ℕ) (inv : Inv m n W cs tail head done) (s : Step) (fit : Fit m.inputs s) (turn : number_of s ≡ done) (more : head < tail) where
  -- the pair that s leads to is queued already
  pub keeps_known : Queued cs tail (after m s (at cs head).left) (after n s (at cs head).right) → Inv m n W cs tail head (done + 1)
  keeps_known q = record {
    count = inv.count;
    some = inv.some;
    upto = inv.upto;
    root = inv.root;
    item = inv.item;
    link = inv.link;
    mono = inv.mono;
    near = inv.near;
    known = inv.known;
    all_seen = inv.all_seen;
    agree = inv.agree;
    closed = λ k hk t ft p.
        ⊎_elim {C = Follow m n W cs tail k t}
        (λ old. inv.closed k hk t ft old)
        (λ (now : (k ≡ head) × (t ≡ s)).
        let here : Follow m n W cs tail head s = record { queued = q; close = inv.near more q.place q.below } in
        rw (now.0, now.1) here)
        (past_more head done k s t turn p);
  }

  module _ (ds : List Cell) (c : Cell) (is_left : c.left ≡ after m s (at cs head).left) (is_right : c.right ≡ after n s (at cs head).right) (is_parent : c.parent ≡ head) (is_step : c.step ≡ number_of s) (left_in : c.left < m.count) (right_in : c.right < n.count) (gr : Grown cs ds tail c (pair_number n.count c.left c.right)) (few : m.inputs ≤ max_inputs) where
    abbrev V : ℕ → List Step
    V = with_string W tail (W head ++ (s ∷ []))

    old_string : (k : ℕ) → k < tail → V k ≡ W k
    old_string k h = with_other W tail _ k (omega arith)

    new_string : V tail ≡ W head ++ (s ∷ [])
    new_string = with_same W tail _

    new_length : length (V tail) ≡ length (W head) + 1
    new_length = ap length new_string ∙ length_push (W head) s

    old_length : (k : ℕ) → k < tail → length (V k) ≡ length (W k)
    old_length k h = ap length (old_string k h)

    old_same : (k : ℕ) → k < tail → Same (at ds k) (at cs k)
    old_same k h = gr.kept k (omega arith)

    queued_old : (a b : ℕ) → Queued cs tail a b → Queued ds (tail + 1) a b
    queued_old a b q = record {
      place = q.place;
      below = omega (arith, q.below);
      is_left = (old_same q.place q.below).left ∙ q.is_left;
      is_right = (old_same q.place q.below).right ∙ q.is_right;
    }

    new_item : Item m n (V tail) (at ds tail).left (at ds tail).right
    new_item =
        let i = inv.item head more in
        let base : Item m n (W head ++ (s ∷ [])) c.left c.right = record {
          left_in = left_in;
          right_in = right_in;
          over = over_append m.inputs (W head) (s ∷ []) i.over (fit, tt);
          left_leads = leads_append m (W head) (s ∷ []) m.start ∙ ap (after m s) i.left_leads ∙ sym is_left;
          right_leads = leads_append n (W head) (s ∷ []) n.start ∙ ap (after n s) i.right_leads ∙ sym is_right;
        } in
        rw (new_string, gr.new.left, gr.new.right) base

    old_item : (k : ℕ) → k < tail → Item m n (V k) (at ds k).left (at ds k).right
    old_item k h = rw (old_string k h, (old_same k h).left, (old_same k h).right) (inv.item k h)

    old_link : (k : ℕ) → 0 < k → k < tail → Link V ds k
    old_link k pos h =
        let l = inv.link k pos h in
        let same = old_same k h in
        let earlier : (at cs k).parent < tail = omega (arith, l.earlier) in
        record {
          earlier = omega (arith, l.earlier, same.parent);
          few = omega (arith, l.few, same.step);
          grown = rw (same.parent, same.step, old_string k h, old_string (at cs k).parent earlier) l.grown;
        }

    new_link : Link V ds tail
    new_link =
        let from : (at ds tail).parent ≡ head = gr.new.parent ∙ is_parent in
        let by : (at ds tail).step ≡ number_of s = gr.new.step ∙ is_step in
        record {
          earlier = omega arith;
          few = omega (arith, by, number_within m.inputs s fit);
          grown = rw (from, by, numbered s, old_string head more) new_string;
        }

    -- the follower of an old item
    moved : (k : ℕ) → k < tail → (t : Step) → Follow m n W cs tail k t → Follow m n V ds (tail + 1) k t
    unfolding queued_old
    moved k h t f =
        let q = f.queued in
        let same = old_same k h in
        record {
          queued = rw (same.left, same.right) (queued_old _ _ q);
          close = omega (arith, f.close, old_length q.place q.below, old_length k h);
        }

    new_follow : Follow m n V ds (tail + 1) head s
    new_follow = record {
      queued = record {
        place = tail;
        below = omega arith;
        is_left = gr.new.left ∙ is_left ∙ ap (after m s) (sym (old_same head more).left);
        is_right = gr.new.right ∙ is_right ∙ ap (after n s) (sym (old_same head more).right);
      };
      close = omega (arith, new_length, old_length head more);
    }

    -- a pair that was seen is seen
    still_seen : (q : ℕ) → (at cs q).seen ≡ 1 → (at ds q).seen ≡ 1
    still_seen q was =
        ⊎_elim {C = (at ds q).seen ≡ 1}
        (λ (e : q ≡ pair_number n.count c.left c.right). subst (λ (j : ℕ). (at ds j).seen ≡ 1) (sym e) gr.here)
        (λ ne. gr.seen q ne ∙ was)
        (cases_eq q (pair_number n.count c.left c.right))

    number_same : (j : ℕ) (d : Cell) → Same (at ds j) d → (at ds (pair_number n.count d.left d.right)).seen ≡ 1 → (at ds (pair_number n.count (at ds j).left (at ds j).right)).seen ≡ 1
    number_same j d same seen = rw (same.left, same.right) seen

    pub keeps_new : Inv m n V ds (tail + 1) head (done + 1)
    keeps_new = record {
      count = gr.count ∙ ap (λ (x : ℕ). x + 1) inv.count;
      some = omega arith;
      upto = omega arith;
      root = old_string 0 inv.some ∙ inv.root;
      item = below_more (λ (j : ℕ). Item m n (V j) (at ds j).left (at ds j).right) tail old_item new_item;
      link = λ k pos h. below_more (λ (j : ℕ). 0 < j → Link V ds j) tail (λ j hj p. old_link j p hj) (λ _. new_link) k h pos;
      mono = λ j k le h.
          below_more (λ (i : ℕ). j ≤ i → length (V j) ≤ length (V i)) tail
          (λ i hi l. let jt : j < tail = omega arith in omega (arith, inv.mono j i l hi, old_length i hi, old_length j jt))
          (λ l. below_more (λ (i : ℕ). length (V i) ≤ length (V tail)) tail (λ i hi. omega (arith, inv.near more i hi, old_length i hi, new_length)) (omega arith) j (omega arith))
          k h le;
      near = λ _.
          below_more (λ (i : ℕ). length (V i) ≤ length (V head) + 1) tail
          (λ i hi. omega (arith, inv.near more i hi, old_length i hi, old_length head more))
          (omega (arith, new_length, old_length head more));
      known = λ a b ha hb seen.
          ⊎_elim {C = Queued ds (tail + 1) a b}
          (queued_new gr n.count a b hb right_in)
          (λ ne. queued_old a b (inv.known a b ha hb (sym (gr.seen (pair_number n.count a b) ne) ∙ seen)))
          (cases_eq (pair_number n.count a b) (pair_number n.count c.left c.right));
      all_seen =
          below_more (λ (j : ℕ). (at ds (pair_number n.count (at ds j).left (at ds j).right)).seen ≡ 1) tail
          (λ j hj. number_same j (at cs j) (old_same j hj) (still_seen _ (inv.all_seen j hj)))
          (number_same tail c gr.new gr.here);
      agree = λ k h i hi.
          let old = old_same k (omega arith) in
          ap (λ (a : ℕ). output m a i) old.left ∙ inv.agree k h i hi ∙ ap (λ (b : ℕ). output n b i) (sym old.right);
      closed = λ k hk t ft p.
          ⊎_elim {C = Follow m n V ds (tail + 1) k t}
          (λ old. let kt : k < tail = ⊎_elim (λ (l : k < head). omega arith) (λ (l : (k ≡ head) × (number_of t < done)). omega (arith, l.0)) old in moved k kt t (inv.closed k kt t ft old))
          (λ (now : (k ≡ head) × (t ≡ s)). rw (now.0, now.1) new_follow)
          (past_more head done k s t turn p);
    }
