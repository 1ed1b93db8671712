-- The one row of a state, an input and a stretch of a sound draft, and the states that a book's steps lead to.
use Rattle.std.specs.Prelude.{◌≡◌, ℕ, ◌+◌, ◌<◌, true, Some, None, Option, nat_lt, refl}
use Rattle.std.proofs.Common.{sym, ap, subst, ◌∙◌, arith}
use Rattle.std.proofs.lemmas.Bool.{cond_both, leb-true, ltb-true}
use Rattle.text.specs.declared.draft.State.{State}
use Rattle.text.specs.declared.draft.State.TheVariants.{Stay, Hold}
use Rattle.text.specs.declared.draft.Row.{Row}
use Rattle.text.specs.declared.draft.Draft.{Draft}
use Rattle.text.specs.Limits.{max_outputs}
use Rattle.text.specs.Draft.{row_at, state_at, target_of, Ranged}
use Rattle.table.specs.Meaning.{Lawful, given_if}
use Rattle.table.specs.Rows.{covers_at, rows_at, if_covers, row_number}
use Rattle.table.specs.Stretch.{stretches}
use Rattle.table.specs.Sound.{Sound}
use Rattle.table.specs.Offsets.{all_stretches, number, place}
use Rattle.table.specs.BookMachine.{moved, place_after, book_tick, found_number, answering_row, book_take}
use Rattle.table.specs.GivenIf.{given_some, given_none}
use Rattle.table.specs.Firsts.{first_none, first_some}
use Rattle.table.specs.Tally.{tally_none}
use Rattle.table.specs.Stretches.{some_stretch}
use Rattle.table.specs.Numbers.{Valid, below_few, number_in, place_valid}

-- a place that was found for a number is a state and one of its stretches
pub at_valid : (d : Draft) (n s r : ℕ) → Some (s, r) ≡ given_if (nat_lt n (all_stretches d)) (place d n) → Valid d (s, r)
at_valid d n s r e =
    let g = given_some (nat_lt n (all_stretches d)) (s, r) (place d n) (sym e) in
    subst (Valid d) g.1 (place_valid d n (ltb-true n (all_stretches d) g.0))

-- the row that contains the stretch
pub record Answering (d : Draft) (s i r : ℕ) : Type 0 where
  pub row : ℕ
  pub row_in : row < d.rows.count
  pub covering : covers_at d s i r row ≡ true
  pub is : row_number d s i r ≡ Some row

find : (d : Draft) (s i r : ℕ) → rows_at d s i r ≡ 1 → (o : Option ℕ) → row_number d s i r ≡ o → Answering d s i r
find d s i r one (Some k) e =
    let h = first_some (if_covers d s i r) d.rows.count k e in
    let g = given_some (covers_at d s i r h.0) k h.0 h.2 in
    record { row = h.0; row_in = h.1; covering = g.0; is = e ∙ ap Some (sym g.1) }
find d s i r one None e =
    let n = tally_none (covers_at d s i r) d.rows.count (λ k l. given_none _ _ (first_none (if_covers d s i r) d.rows.count e k l)) in
    absurd (omega arith)

step_valid : (d : Draft) (h : State) (s r : ℕ) → Ranged d → s < d.states.count → r < stretches d s → target_of h < d.states.count → Valid d (moved h (stretches d s) (s, r))
step_valid d Stay s r g l m u =
    cond_both (nat_lt (r + 1) (stretches d s)) (s, r + 1) (s, r) (Valid d) (λ b. record { state_in = l; stretch_in = leb-true _ _ b }) (λ b. record { state_in = l; stretch_in = m })
step_valid d (Hold t v) s r g l m u =
    cond_both (nat_lt (r + 1) (stretches d s)) (s, r + 1) (v, 0) (Valid d) (λ b. record { state_in = l; stretch_in = leb-true _ _ b }) (λ b. record { state_in = u; stretch_in = some_stretch d g v u })

pub after_valid : (d : Draft) → Ranged d → (p : ℕ × ℕ) → Valid d p → Valid d (place_after d p)
after_valid d g p v = step_valid d (state_at d p.0) p.0 p.1 g v.state_in v.stretch_in (g.states p.0 v.state_in).2

module _ (d : Draft) (g : Sound d) where
  pub answering : (s i r : ℕ) → s < d.states.count → i < d.inputs → r < stretches d s → Answering d s i r
  answering s i r l m n = find d s i r (g.one_row s i r l m n) (row_number d s i r) refl

  pub row_is : (s i r : ℕ) (f : Answering d s i r) → answering_row d (s, r) i ≡ row_at d f.row
  row_is s i r f = ap (λ o. row_at d (found_number o)) f.is

  start_in : (s : ℕ) → s < d.states.count → number d (s, 0) < all_stretches d
  start_in s l = number_in d s 0 l (some_stretch d g.ranged s l)

  tick_in : (n : ℕ) → n < all_stretches d → book_tick d n < all_stretches d
  tick_in n l = let v = after_valid d g.ranged (place d n) (place_valid d n l) in number_in d _ _ v.state_in v.stretch_in

  take_in : (n i : ℕ) → n < all_stretches d → i < d.inputs → ((book_take d n i).0 < all_stretches d) × ((book_take d n i).1 < max_outputs)
  take_in n i l m =
      let v = place_valid d n l in
      let f = answering (place d n).0 i (place d n).1 v.state_in m v.stretch_in in
      let e : answering_row d (place d n) i ≡ row_at d f.row = row_is (place d n).0 i (place d n).1 f in
      let w = g.ranged.named f.row f.row_in in (
        subst (λ (x : Row). number d (x.next, 0) < all_stretches d) (sym e) (start_in (row_at d f.row).next w.3),
        subst (λ (x : Row). x.output < max_outputs) (sym e) (omega (arith, w.2, g.ranged.inputs.3)),
      )

  pub book_lawful : Lawful (record { count = all_stretches d; inputs = d.inputs; start = 0; tick = book_tick d; take = book_take d })
  book_lawful =
      let z = start_in 0 g.ranged.counts.0 in
      let b = below_few d g.ranged d.states.count (omega arith) in
      record {
        few_states = omega (arith, b, g.ranged.counts.1);
        some_input = g.ranged.inputs.0;
        few_inputs = g.ranged.inputs.1;
        start_in = omega arith;
        tick_in = tick_in;
        next_in = λ s i l m. (take_in s i l m).0;
        output_in = λ s i l m. (take_in s i l m).1;
      }
