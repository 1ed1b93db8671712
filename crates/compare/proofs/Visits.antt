-- What the functions of the search need of its invariant.
use Rattle.std.proofs.Common.{◌≡◌, ℕ, ◌+◌, ◌*◌, ◌<◌, ◌≤◌, ◌≢◌, List, [], ◌∷◌, ◌++◌, length, sym, refl, ap, ◌∙◌, subst, ⊎_elim, arith, length-set}
use Rattle.std.proofs.lemmas.Bool.{cases_eq}
use Rattle.std.proofs.lemmas.Nat.{mul-add-lt, mul-le}
use Rattle.table.specs.Limits.{max_machine_states}
use Rattle.table.specs.Meaning.{Meaning, Lawful, output}
use Rattle.table.specs.Steps.{Fit, after}
use Rattle.table.specs.declared.word.Step.{Step}
use Rattle.table.specs.declared.word.Step.TheVariants.{Tick, Take}
use Rattle.table.proofs.Strings.{after_in}
use Rattle.compare.specs.Cell.{AllBlank, number_of}
use Rattle.compare.specs.Search.{at, marks, placed, marked, pair_number, max_pairs, Queueing, NextItem, Agreeing, Queued, Holds, Visiting}
use Rattle.compare.specs.declared.cell.Cell.{Cell}
use Rattle.compare.proofs.Grown.{Grown, grown, tail_room, fresh_room, blank_seen, blank_marks}
use Rattle.compare.proofs.Queue.{keeps_known, keeps_new, with_string}
use Rattle.compare.proofs.Findings.{keeps_first, keeps_next}

pub number_in : (a b w h : ℕ) → a < h → b < w → a * w + b < h * w
number_in a b w h p q = omega (arith, mul-add-lt a w b h p q)

pub few_pairs : (m n : Meaning) → Lawful m → Lawful n → m.count * n.count ≤ max_pairs
few_pairs m n lm ln = mul-le m.count n.count max_machine_states max_machine_states lm.few_states ln.few_states

-- the item c holds the pair that the step s leads to from the head's pair, which `from` is
pub record Stepping (m n : Meaning) (cs : List Cell) (tail head : ℕ) (from : Cell) (s : Step) (c : Cell) : Type 0 where
  pub left_lawful : Lawful m
  pub right_lawful : Lawful n
  pub inputs : m.inputs ≡ n.inputs
  pub room : length cs ≡ m.count * n.count
  pub fit : Fit m.inputs s
  pub visiting : Visiting m n cs tail head from (number_of s)
  pub reached : NextItem m n from head s c

module _ {m n : Meaning} {cs : List Cell} {tail head : ℕ} {from : Cell} {s : Step} {c : Cell} (st : Stepping m n cs tail head from s c) where
  more : head < tail
  more = st.visiting.more

  from_left : c.left ≡ after m s (at cs head).left
  from_left = st.reached.is_left ∙ ap (after m s) (sym st.visiting.is_left)

  from_right : c.right ≡ after n s (at cs head).right
  from_right = st.reached.is_right ∙ ap (after n s) (sym st.visiting.is_right)

  left_in : c.left < m.count
  left_in = omega (arith, from_left, after_in m st.left_lawful s (at cs head).left st.fit (st.visiting.holds.inv.item head st.visiting.more).left_in)

  right_in : c.right < n.count
  right_in = omega (arith, from_right, after_in n st.right_lawful s (at cs head).right (rw st.inputs at st.fit) (st.visiting.holds.inv.item head st.visiting.more).right_in)

  pub number_room : pair_number n.count c.left c.right < length cs
  number_room = omega (arith, st.room, number_in c.left c.right n.count m.count left_in right_in)

  pub tail_fresh : (at cs (pair_number n.count c.left c.right)).seen ≢ 1 → tail < length cs
  tail_fresh fresh = omega (arith, fresh_room cs (pair_number n.count c.left c.right) number_room fresh, st.visiting.holds.inv.count)

  held_known : (at cs (pair_number n.count c.left c.right)).seen ≡ 1 → Holds m n cs tail head (number_of s + 1)
  held_known seen =
      let holds = st.visiting.holds in
      let q = holds.inv.known c.left c.right left_in right_in seen in
      let q2 : Queued cs tail (after m s (at cs head).left) (after n s (at cs head).right) = record { place = q.place; below = q.below; is_left = q.is_left ∙ from_left; is_right = q.is_right ∙ from_right } in
      record { short = holds.short; few = holds.few; strings = holds.strings; inv = keeps_known m n holds.strings cs tail head (number_of s) holds.inv s st.fit refl more q2 }

  module _ (fresh : (at cs (pair_number n.count c.left c.right)).seen ≢ 1) where
    abbrev ds : List Cell
    ds = marked (placed cs tail c) (pair_number n.count c.left c.right)

    gr : Grown cs ds tail c (pair_number n.count c.left c.right)
    gr = grown cs tail c (pair_number n.count c.left c.right) (tail_fresh fresh) number_room fresh

    held_new : Holds m n ds (tail + 1) head (number_of s + 1)
    held_new =
        let holds = st.visiting.holds in
        let more_marks : marks ds ≡ tail + 1 = gr.count ∙ ap (λ (x : ℕ). x + 1) holds.inv.count in
        let long : length ds ≡ length cs = length-set (placed cs tail c) (pair_number n.count c.left c.right) _ ∙ length-set cs tail _ in
        record {
          short = tail_room ds (tail + 1) more_marks;
          few = omega (arith, holds.few);
          strings = with_string holds.strings tail (holds.strings head ++ (s ∷ []));
          inv = keeps_new m n holds.strings cs tail head (number_of s) holds.inv s st.fit refl more ds c from_left from_right st.reached.is_parent st.reached.is_step left_in right_in gr st.left_lawful.few_inputs;
        }

    visiting_new : ((i : ℕ) → i + 1 < number_of s + 1 → output m from.left i ≡ output n from.right i) → Visiting m n ds (tail + 1) head from (number_of s + 1)
    visiting_new same = record {
      more = omega (arith, more);
      holds = held_new;
      is_left = (gr.kept head (omega (arith, more))).left ∙ st.visiting.is_left;
      is_right = (gr.kept head (omega (arith, more))).right ∙ st.visiting.is_right;
      same = same;
    }

  -- one step more of the head is dealt with
  pub visiting_more : ((i : ℕ) → i + 1 < number_of s + 1 → output m from.left i ≡ output n from.right i) → (es : List Cell) (end : ℕ) → Queueing n.count cs es tail c end → Visiting m n es end head from (number_of s + 1)
  visiting_more same es end q =
      ⊎_elim {C = Visiting m n es end head from (number_of s + 1)}
      (λ (seen : (at cs (pair_number n.count c.left c.right)).seen ≡ 1).
      let is = q.known seen in
      let base : Visiting m n cs tail head from (number_of s + 1) = record { more = more; holds = held_known seen; is_left = st.visiting.is_left; is_right = st.visiting.is_right; same = same } in
      rw (is.0, is.1) base)
      (λ unseen.
      let is = q.fresh unseen in
      rw (is.0, is.1) (visiting_new unseen same))
      (cases_eq (at cs (pair_number n.count c.left c.right)).seen 1)

-- the visit begins
pub visiting_first : {m n : Meaning} {cs : List Cell} {tail head : ℕ} → head < tail → Holds m n cs tail head 0 → Visiting m n cs tail head (at cs head) 0
visiting_first more holds = record { more = more; holds = holds; is_left = refl; is_right = refl; same = λ i h. absurd (omega arith) }

-- the outputs agree at one input more
pub same_more : (m n : Meaning) (a b input : ℕ) (x y : ℕ × ℕ) → x ≡ m.take a input → y ≡ n.take b input → x.1 ≡ y.1 → ((i : ℕ) → i + 1 < input + 1 → output m a i ≡ output n b i) → (i : ℕ) → i + 1 < input + 1 + 1 → output m a i ≡ output n b i
same_more m n a b input x y is_x is_y same below i h =
    let here : output m a input ≡ output n b input = sym (ap (λ (p : ℕ × ℕ). p.1) is_x) ∙ same ∙ ap (λ (p : ℕ × ℕ). p.1) is_y in
    ⊎_elim {C = output m a i ≡ output n b i}
    (λ (e : i ≡ input). subst (λ (j : ℕ). output m a j ≡ output n b j) (sym e) here)
    (λ ne. below i (omega (arith, ne)))
    (cases_eq i input)

module _ {m n : Meaning} {cs : List Cell} {tail head : ℕ} {from c : Cell} (es : List Cell) (end : ℕ) (q : Queueing n.count cs es tail c end) where
  -- the tick of the head is dealt with
  pub visiting_tick : Stepping m n cs tail head from Tick c → Visiting m n es end head from 1
  visiting_tick st = visiting_more st (λ i h. absurd (omega arith)) es end q

  -- a take of the head is dealt with, at which the outputs agree
  pub visiting_take : {input : ℕ} → Stepping m n cs tail head from (Take input) c → output m from.left input ≡ output n from.right input → Visiting m n es end head from (input + 1 + 1)
  visiting_take {input} st here = visiting_more st (same_more m n from.left from.right input _ _ refl refl here st.visiting.same) es end q

-- the outputs agree at every input of the head
pub visit_agrees : {m n : Meaning} {cs : List Cell} {tail head : ℕ} {from : Cell} {done : ℕ} → Visiting m n cs tail head from done → done ≡ m.inputs + 1 → Holds m n cs tail (head + 1) 0
visit_agrees {m} {n} {cs} {tail} {head} v is =
    let same : Agreeing m n (at cs head).left (at cs head).right = λ i h. rw (v.is_left, v.is_right) (v.same i (omega arith)) in
    let holds : Holds m n cs tail head (m.inputs + 1) = rw is at v.holds in
    record { short = holds.short; few = holds.few; strings = holds.strings; inv = keeps_next m n holds.strings cs tail head holds.inv v.more same }

-- the search begins with the pair of the starts, queued in blank cells
module _ (m n : Meaning) (lm : Lawful m) (ln : Lawful n) (cs : List Cell) (room : length cs ≡ m.count * n.count) (clear : AllBlank cs) (c : Cell) (is_left : c.left ≡ m.start) (is_right : c.right ≡ n.start) where
  pub first_room : pair_number n.count c.left c.right < length cs
  first_room = omega (arith, number_in c.left c.right n.count m.count (omega (arith, lm.start_in)) (omega (arith, ln.start_in)))

  pub held_first : (ds : List Cell) (end : ℕ) → Queueing n.count cs ds 0 c end → Holds m n ds end 0 0
  held_first ds end q =
      let p : ℕ = pair_number n.count c.left c.right in
      let some : 0 < length cs = omega (arith, first_room) in
      let unseen : (at cs p).seen ≢ 1 = λ one. omega (arith, blank_seen cs clear p) in
      let is = q.fresh unseen in
      let gr : Grown cs ds 0 c p = rw is.0 (grown cs 0 c p some first_room unseen) in
      let one_mark : marks ds ≡ 1 = gr.count ∙ ap (λ (x : ℕ). x + 1) (blank_marks cs clear) in
      let long : length ds ≡ length cs = ap length is.0 ∙ length-set (placed cs 0 c) p _ ∙ length-set cs 0 _ in
      let one : Holds m n ds 1 0 0 = record {
        short = tail_room ds 1 one_mark;
        few = omega (arith, few_pairs m n lm ln);
        strings = λ _. [];
        inv = keeps_first m n lm ln cs ds c (blank_marks cs clear) is_left is_right gr (blank_seen cs clear);
      } in
      rw is.1 one
