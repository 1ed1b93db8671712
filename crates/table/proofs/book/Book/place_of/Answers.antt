use Rattle.std.proofs.Common.{◌≡◌, ℕ, zero, suc, ◌+◌, ◌<◌, ◌≤◌, length, get_or, nat_lt, false, List, take, drop, Some, None, sym, ap, ◌∙◌, rules, arith}
use Rattle.std.specs.List.{position}
use Rattle.std.proofs.Math.Seq.{take-length}
use Rattle.std.proofs.lemmas.Bool.{ltb-true, ltb-false, le-ltb}
use Rattle.std.proofs.lemmas.List.{get_or-drop, get_or-take, length-drop, length-take-le}
use Rattle.std.proofs.lemmas.List.Quantifiers.{position-Some}
use Rattle.table.specs.declared.book.Book.{Book}
use Rattle.table.specs.Firsts.{first_none}
use Rattle.table.specs.GivenIf.{given_none}
use Rattle.table.specs.Meaning.{given_if}
use Rattle.table.specs.Numbers.{below_suc, placed}
use Rattle.table.specs.Offsets.{below, all_stretches, place}
use Rattle.table.specs.Stretch.{stretches}
use Rattle.table.specs.Stretches.{few_stretches}
use Rattle.table.proofs.RowLists.{position_is}
use Rattle.table.proofs.book.Book.place_of.Goals as goal

-- the state has the number
record HasNumber (b : Book) (n s : ℕ) : Type 0 where
  state_in : s < b.draft.states.count
  offset : get_or b.offsets s 0 ≡ below b.draft s
  above : get_or b.offsets s 0 ≤ n
  under : n < get_or b.offsets s 0 + stretches b.draft s

module _ (b : Book) (n : ℕ) where
  -- the ends of the states' stretches, as they stand behind the first offset
  abbrev ends : List ℕ
  ends = take b.draft.states.count (drop 1 b.offsets)

  ends_long : length ends ≡ b.draft.states.count
  ends_long = length-take-le b.draft.states.count (drop 1 b.offsets) (omega (arith, length-drop 1 b.offsets, b.offsets_padded.0, b.sound.ranged.counts.1))

  end_at : (s : ℕ) → s < b.draft.states.count → get_or ends s 0 ≡ get_or b.offsets (s + 1) 0
  end_at s l = get_or-take b.draft.states.count (drop 1 b.offsets) s 0 l ∙ get_or-drop 1 b.offsets s 0 ∙ ap (λ k. get_or b.offsets k 0) (omega arith)

  -- the states before the one that is found end at or before the number
  above_at : (s : ℕ) → s ≤ b.draft.states.count → ((k : ℕ) → k < s → nat_lt n (get_or ends k 0) ≡ false) → below b.draft s ≤ n
  above_at zero l before = omega arith
  above_at (suc k) l before =
      let e : get_or b.offsets (k + 1) 0 ≡ below b.draft (k + 1) = b.numbered (k + 1) (omega arith) in
      let m : suc k ≡ k + 1 = omega arith in
      let a : below b.draft (suc k) ≡ below b.draft (k + 1) = ap (below b.draft) m in
      omega (arith, e, a, end_at k (omega arith), ltb-false _ _ (before k (omega arith)))

  found : (s : ℕ) → position (nat_lt n) ends ≡ Some s → HasNumber b n s
  found s e =
      let h = position-Some (nat_lt n) ends s 0 e in
      let state_in : s < b.draft.states.count = omega (arith, h.0, ends_long) in
      let here : n < get_or b.offsets (s + 1) 0 = omega (arith, end_at s state_in, ltb-true _ _ h.1) in
      let offset = b.numbered s (omega arith) in
      let next = b.numbered (s + 1) (omega arith) in
      record {
        state_in = state_in;
        offset = offset;
        above = omega (arith, above_at s (omega arith) h.2);
        under = omega (arith, below_suc b.draft s);
      }

  none_found : position (nat_lt n) ends ≡ None → all_stretches b.draft ≤ n
  none_found e =
      let none = first_none (λ k. given_if (nat_lt n (get_or ends k 0)) k) (length ends) (sym (position_is (nat_lt n) ends 0 (length ends) (omega arith)) ∙ ap (position (nat_lt n)) (take-length ends) ∙ e) in
      above_at b.draft.states.count (omega arith) (λ k l. given_none _ _ (none k (omega (arith, ends_long))))

pub returns-in_err-state : goal.returns-in_err-state
returns-in_err-state c =
    let b = c.args.self.now in
    let past = none_found b c.args.sought (sym c.in_err-state.ensures) in
    let none : c.from_residual.result ≡ None = search rules in
    none ∙ sym (ap (λ v. given_if v (place b.draft c.args.sought)) (le-ltb _ _ past))

pub overflow_sub-result : goal.overflow_sub-result
overflow_sub-result c = (found c.args.self.now c.args.sought c.in_ok-state.state (sym c.in_ok-state.ensures)).above

pub overflow_cast-result-2 : goal.overflow_cast-result-2
overflow_cast-result-2 c =
    let b = c.args.self.now in
    let f = found b c.args.sought c.in_ok-state.state (sym c.in_ok-state.ensures) in
    omega (arith, f.above, f.under, few_stretches b.draft b.sound.ranged c.in_ok-state.state f.state_in)

pub returns : goal.returns
returns c =
    let b = c.args.self.now in
    let f = found b c.args.sought c.in_ok-state.state (sym c.in_ok-state.ensures) in
    placed b.draft c.args.sought c.in_ok-state.state _ f.state_in f.offset f.above f.under
