-- The check of a draft finds nothing exactly in a sound table, and else exactly the first fault.
use Rattle.std.proofs.Common.{◌≡◌, ℕ, zero, suc, ◌<◌, ◌≤◌, Bool, true, false, cond, eqb, ◌⊎◌, Some, None, Option, sym, refl, ap, ◌∙◌, subst, inl, inr, ⊎_elim, arith}
use Rattle.std.specs.Option.{option_or}
use Rattle.std.proofs.lemmas.Bool.{both_ways, and_parts, and_from, and_left, cases_order, cond-true, cond-false, cond_both, eqb-true, eq-eqb, false_from_ne_true, true_from_ne_false}
use Rattle.text.specs.declared.draft.Draft.{Draft}
use Rattle.text.specs.Draft.{row_at, state_at, Ranged}
use Rattle.table.specs.declared.fault.Spot.{Spot}
use Rattle.table.specs.declared.fault.TableFault.{TableFault}
use Rattle.table.specs.declared.fault.TableFault.TheVariants.{Text, EmptyGuard, PastTimeout, TwoRows, NoRow, Landings, QuietDays, Output}
use Rattle.table.specs.Clocks.{Contains}
use Rattle.table.specs.First.{first}
use Rattle.table.specs.Guard.{empty}
use Rattle.table.specs.Rows.{belongs_at, covers_at, rows_of, rows_at}
use Rattle.table.specs.Sound.{Sound, spot, past_timeout, row_fault, count_fault, stretch_fault, input_fault, state_fault, draft_fault}
use Rattle.table.specs.Soundness.{Answers, Spotted, SoundTable, Has, Turn, turn, Earlier, FirstFault, ChecksRight}
use Rattle.table.specs.Stretch.{stretches}
use Rattle.table.specs.Firsts.{or_none, first_at, first_none, first_from, first_all, no_answer, none_some}
use Rattle.table.proofs.GuardClocks.{empty_right, some_right, past_right, past_found, past_some, contains_right, contains_found}
use Rattle.table.proofs.Soundness.{faultless_sound}
use Rattle.table.specs.Stretches.{some_stretch}
use Rattle.table.specs.Tally.{tally_none, tally_some, tally_two, tally_only, tally_passes, tally_pair}

-- a row answers where its test passes, and only there
module _ (d : Draft) (s i r : ℕ) where
  covers_answers : (k : ℕ) → k < d.rows.count → covers_at d s i r k ≡ true → Answers d s i r k
  covers_answers k l e =
      let a = and_parts _ _ e in
      let b = and_parts _ _ a.0 in
      let c : (row_at d k).state ≡ s = eqb-true _ _ b.0 in
      record {
        row_in = l;
        state = c;
        input = eqb-true _ _ b.1;
        stretch = subst (λ t. Contains d t (row_at d k).guard r) c (contains_right d k r l a.1);
      }

  answers_covers : (k : ℕ) → r < stretches d s → Answers d s i r k → covers_at d s i r k ≡ true
  answers_covers k l a = and_from _ _ (and_from _ _ (eq-eqb _ _ a.state) (eq-eqb _ _ a.input)) (contains_found d s (row_at d k).guard r l a.stretch)

  none_answers : r < stretches d s → rows_at d s i r ≡ 0 → (k : ℕ) → Answers d s i r k → ⊥
  none_answers l e k a = let h = tally_some (covers_at d s i r) d.rows.count k a.row_in (answers_covers k l a) in omega arith

  answers_none : ((k : ℕ) → Answers d s i r k → ⊥) → rows_at d s i r ≡ 0
  answers_none h = tally_none (covers_at d s i r) d.rows.count (λ k l. false_from_ne_true _ (λ e. h k (covers_answers k l e)))

  two_answer : 2 ≤ rows_at d s i r → (j : ℕ) × (k : ℕ) × (j < k) × Answers d s i r j × Answers d s i r k
  two_answer l =
      let h = tally_pair (covers_at d s i r) d.rows.count l in
      (h.less, h.more, h.less_more, covers_answers h.less (omega arith) h.less_passes, covers_answers h.more h.more_in h.more_passes)

  answers_two : r < stretches d s → (j k : ℕ) → j < k → Answers d s i r j → Answers d s i r k → 2 ≤ rows_at d s i r
  answers_two l j k m a b = tally_two (covers_at d s i r) d.rows.count j k m b.row_in (answers_covers j l a) (answers_covers k l b)

  one_answers : r < stretches d s → rows_at d s i r ≡ 1 → (k : ℕ) × Answers d s i r k × ((j : ℕ) → Answers d s i r j → j ≡ k)
  one_answers l e =
      let h = tally_passes (covers_at d s i r) d.rows.count (omega arith) in (
        h.number,
        covers_answers h.number h.number_in h.passes,
        λ j a. tally_only (covers_at d s i r) d.rows.count j h.number e a.row_in h.number_in (answers_covers j l a) h.passes,
      )

pub sound_table : (d : Draft) → Sound d → SoundTable d
sound_table d g = record {
  none_empty = λ k l. some_right (row_at d k).guard (g.none_empty k l);
  none_past = λ k l p. both_ways _ (g.none_past k l) (past_found (state_at d (row_at d k).state) (row_at d k).guard p);
  one_row = λ s i r p. one_answers d s i r p.2 (g.one_row s i r p.0 p.1 p.2);
}

sound_none : (d : Draft) → SoundTable d → (f : TableFault) → Has d f → ⊥
sound_none d t (Text f) h = h
sound_none d t (EmptyGuard k) h = t.none_empty k h.0 h.1
sound_none d t (PastTimeout k) h = t.none_past k h.0 h.1
sound_none d t (TwoRows p) h =
    let one = t.one_row p.state p.input p.stretch h.0 in
    let two = h.1 in
    omega (arith, two.2, one.2 two.0 two.3, one.2 two.1 two.4)
sound_none d t (NoRow p) h = let one = t.one_row p.state p.input p.stretch h.0 in h.1 one.0 one.1
sound_none d t Landings h = h
sound_none d t QuietDays h = h
sound_none d t (Output k) h = h

either_fault : {X : Type 0} (a b : Bool) (x y z : X) → cond a (Some x) (cond b (Some y) None) ≡ Some z → ((a ≡ true) × (z ≡ x)) ⊎ ((a ≡ false) × (b ≡ true) × (z ≡ y))
either_fault true b x y z e = inl (refl, cc)
either_fault false true x y z e = inr (refl, refl, cc)
either_fault false false x y z e = cc

count_cases : (p : Spot) (n : ℕ) (f : TableFault) → count_fault p n ≡ Some f → ((n ≡ 0) × (f ≡ NoRow p)) ⊎ ((2 ≤ n) × (f ≡ TwoRows p))
count_cases p zero f e = inl (refl, cc)
count_cases p (suc zero) f e = cc
count_cases p (suc (suc n)) f e = inr (omega arith, cc)

count_two : (p : Spot) (n : ℕ) → 2 ≤ n → count_fault p n ≡ Some (TwoRows p)
count_two p zero l = absurd (omega arith)
count_two p (suc zero) l = absurd (omega arith)
count_two p (suc (suc n)) l = refl

-- the look at a row finds the fault
record RowFound (d : Draft) (f : TableFault) : Type 0 where
  row : ℕ
  row_in : row < d.rows.count
  is : row_fault d row ≡ Some f

-- the look at a state, an input and a stretch finds the fault
record SpotFound (d : Draft) (f : TableFault) : Type 0 where
  state : ℕ
  input : ℕ
  stretch : ℕ
  spotted : Spotted d state input stretch
  is : stretch_fault d state input stretch ≡ Some f

module _ (d : Draft) where
  row_cases : (k : ℕ) (f : TableFault) → row_fault d k ≡ Some f → ((empty (row_at d k).guard ≡ true) × (f ≡ EmptyGuard k)) ⊎ ((empty (row_at d k).guard ≡ false) × (past_timeout (state_at d (row_at d k).state) (row_at d k).guard ≡ true) × (f ≡ PastTimeout k))
  row_cases k f e = either_fault (empty (row_at d k).guard) (past_timeout (state_at d (row_at d k).state) (row_at d k).guard) (EmptyGuard k) (PastTimeout k) f e

  row_has : (k : ℕ) (f : TableFault) → k < d.rows.count → row_fault d k ≡ Some f → Has d f
  row_has k f l e =
      ⊎_elim
      (λ b. subst (Has d) (sym b.1) (l, empty_right (row_at d k).guard b.0))
      (λ b. subst (Has d) (sym b.2) (l, past_right (state_at d (row_at d k).state) (row_at d k).guard b.0 b.1))
      (row_cases k f e)

  row_turn : (k : ℕ) (f : TableFault) → row_fault d k ≡ Some f → ((turn f).0 ≡ 1) × ((turn f).1 ≡ k)
  row_turn k f e =
      let P : TableFault → Type 0 = λ x. ((turn x).0 ≡ 1) × ((turn x).1 ≡ k) in
      ⊎_elim (λ b. subst P (sym b.1) (refl, refl)) (λ b. subst P (sym b.2) (refl, refl)) (row_cases k f e)

  spot_has : (s i r : ℕ) (f : TableFault) → Spotted d s i r → stretch_fault d s i r ≡ Some f → Has d f
  spot_has s i r f p e =
      ⊎_elim
      (λ b. subst (Has d) (sym b.1) (p, none_answers d s i r p.2 b.0))
      (λ b. subst (Has d) (sym b.1) (p, two_answer d s i r b.0))
      (count_cases (spot s i r) (rows_at d s i r) f e)

  spot_turn : (s i r : ℕ) (f : TableFault) → stretch_fault d s i r ≡ Some f → turn f ≡ (2, s, i, r)
  spot_turn s i r f e =
      let P : TableFault → Type 0 = λ x. turn x ≡ (2, s, i, r) in
      ⊎_elim (λ b. subst P (sym b.1) refl) (λ b. subst P (sym b.1) refl) (count_cases (spot s i r) (rows_at d s i r) f e)

  -- a fault that the table has is found where it lies
  has_found : (f : TableFault) → Has d f → RowFound d f ⊎ SpotFound d f
  has_found (Text f) h = absurd h
  has_found (EmptyGuard k) h = inl (record { row = k; row_in = h.0; is = cond-true _ _ _ (true_from_ne_false _ (λ e. some_right (row_at d k).guard e h.1)) })
  has_found (PastTimeout k) h =
      inl
      (record {
        row = k;
        row_in = h.0;
        is =
            cond-false _ _ _ (past_some (state_at d (row_at d k).state) (row_at d k).guard h.1)
            ∙ cond-true _ _ _ (past_found (state_at d (row_at d k).state) (row_at d k).guard h.1);
      })
  has_found (TwoRows p) h =
      let two = h.1 in
      let some = answers_two d p.state p.input p.stretch h.0.2 two.0 two.1 two.2 two.3 two.4 in
      inr (record { state = p.state; input = p.input; stretch = p.stretch; spotted = h.0; is = count_two p (rows_at d p.state p.input p.stretch) some })
  has_found (NoRow p) h = inr (record { state = p.state; input = p.input; stretch = p.stretch; spotted = h.0; is = ap (count_fault p) (answers_none d p.state p.input p.stretch h.1) })
  has_found Landings h = absurd h
  has_found QuietDays h = absurd h
  has_found (Output k) h = absurd h

  -- with no row at all there is none at any stretch
  no_rows : (s i r : ℕ) → rows_of d s i ≡ 0 → rows_at d s i r ≡ 0
  no_rows s i r e =
      tally_none (covers_at d s i r) d.rows.count
      (λ k l. and_left _ _ (false_from_ne_true (belongs_at d s i k) (λ b. let h = tally_some (belongs_at d s i) d.rows.count k l b in omega arith)))

never_earlier : (t : Turn) → Earlier t t → ⊥
never_earlier t e =
    ⊎_elim
    (λ l. omega arith)
    (λ b. ⊎_elim (λ l. omega arith) (λ c. ⊎_elim (λ l. omega arith) (λ m. omega (arith, m.1)) c.1) b.1)
    e

earlier_part : (t u : Turn) → Earlier t u → t.0 ≤ u.0
earlier_part t u e = ⊎_elim (λ l. omega arith) (λ b. omega (arith, b.0)) e

earlier_row : (t u : Turn) → t.0 ≡ u.0 → Earlier t u → t.1 ≤ u.1
earlier_row t u s e = ⊎_elim (λ l. absurd (omega arith)) (λ b. ⊎_elim (λ l. omega arith) (λ c. omega (arith, c.0)) b.1) e

same_answer : {X : Type 0} (o p : Option X) (x y : X) → o ≡ p → o ≡ Some x → p ≡ Some y → x ≡ y
same_answer o p x y a b c = cc

-- the state, the input and the stretch come before others
Before : ℕ → ℕ → ℕ → ℕ → ℕ → ℕ → Type 0
Before s i r t j q = (s < t) ⊎ ((s ≡ t) × ((i < j) ⊎ ((i ≡ j) × (r < q))))

spots_earlier : (s i r t j q : ℕ) → Before s i r t j q → Earlier (2, s, i, r) (2, t, j, q)
unfolding Before
spots_earlier s i r t j q b = inr (refl, b)

earlier_spots : (s i r t j q : ℕ) → Earlier (2, s, i, r) (2, t, j, q) → Before s i r t j q
unfolding Before
earlier_spots s i r t j q e = ⊎_elim (λ l. absurd (omega arith)) (λ b. b.1) e

module _ (d : Draft) (g : Ranged d) where
  -- the early look at a state and an input with no row finds what the walk would
  input_is : (s i : ℕ) → s < d.states.count → input_fault d s i ≡ first (stretch_fault d s i) (stretches d s)
  input_is s i l =
      cond_both (eqb (rows_of d s i) 0) (Some (NoRow (spot s i 0))) (first (stretch_fault d s i) (stretches d s)) (λ o. o ≡ first (stretch_fault d s i) (stretches d s))
      (λ e. sym (first_at (stretch_fault d s i) 0 (stretches d s) (NoRow (spot s i 0)) (some_stretch d g s l) refl (ap (count_fault (spot s i 0)) (no_rows d s i 0 (eqb-true _ _ e)))))
      (λ e. refl)

  input_clear : (s i r : ℕ) → Spotted d s i r → input_fault d s i ≡ None → stretch_fault d s i r ≡ None
  input_clear s i r p e = first_none (stretch_fault d s i) (stretches d s) (sym (input_is s i p.0) ∙ e) r p.2

  state_clear : (s i r : ℕ) → Spotted d s i r → state_fault d s ≡ None → stretch_fault d s i r ≡ None
  state_clear s i r p e = input_clear s i r p (first_none (input_fault d s) d.inputs e i p.1)

  clear_input : (s i : ℕ) → s < d.states.count → ((r : ℕ) → r < stretches d s → stretch_fault d s i r ≡ None) → input_fault d s i ≡ None
  clear_input s i l h = input_is s i l ∙ first_all (stretch_fault d s i) (stretches d s) h

  clear_state : (s : ℕ) → s < d.states.count → ((i r : ℕ) → Spotted d s i r → stretch_fault d s i r ≡ None) → state_fault d s ≡ None
  clear_state s l h = first_all (input_fault d s) d.inputs (λ i m. clear_input s i l (λ r n. h i r (l, m, n)))

  -- where the table has no fault, none is found
  clear_draft : ((f : TableFault) → Has d f → ⊥) → draft_fault d ≡ None
  clear_draft h =
      or_none _ _ (first_all (row_fault d) d.rows.count (λ k l. no_answer _ (λ f e. h f (row_has d k f l e))))
      ∙ first_all (state_fault d) d.states.count (λ s l. clear_state s l (λ i r p. no_answer _ (λ f e. h f (spot_has d s i r f p e))))

  first_row : (f : TableFault) → first (row_fault d) d.rows.count ≡ Some f → FirstFault d f
  first_row f e =
      let a = first_from (row_fault d) d.rows.count f e in
      let t = row_turn d a.number f a.is in
      record {
        has = row_has d a.number f a.number_in a.is;
        none_before = λ h has before.
            ⊎_elim
            (λ (b : RowFound d h).
            let u = row_turn d b.row h b.is in
            let l : b.row ≤ a.number = omega (arith, earlier_row (turn h) (turn f) (omega (arith, u.0, t.0)) before, u.1, t.1) in
            ⊎_elim
            (λ same. never_earlier (turn f) (subst (λ x. Earlier (turn x) (turn f)) (same_answer _ _ h f (ap (row_fault d) same) b.is a.is) before))
            (⊎_elim
            (λ less. none_some _ h (first_none (row_fault d) a.number a.none_before b.row less) b.is)
            (λ more. omega arith))
            (cases_order b.row a.number))
            (λ (b : SpotFound d h).
            let u : (turn h).0 ≡ 2 = ap (λ (x : Turn). x.0) (spot_turn d b.state b.input b.stretch h b.is) in
            omega (arith, earlier_part (turn h) (turn f) before, t.0))
            (has_found d h has);
      }

  -- all looks before a state, an input and a stretch find nothing, so none of them does
  module _ (s i r : ℕ) (none : first (state_fault d) s ≡ None) (none_here : first (input_fault d s) i ≡ None) (none_now : first (stretch_fault d s i) r ≡ None) where
    before_clear : (t j q : ℕ) → Spotted d t j q → Before t j q s i r → stretch_fault d t j q ≡ None
    unfolding Before
    before_clear t j q p b =
        ⊎_elim
        (λ less. state_clear t j q p (first_none (state_fault d) s none t less))
        (λ c. ⊎_elim
        (λ less. input_clear t j q p (subst (λ x. input_fault d x j ≡ None) (sym c.0) (first_none (input_fault d s) i none_here j less)))
        (λ m. subst (λ x. stretch_fault d x j q ≡ None) (sym c.0)
        (subst (λ y. stretch_fault d s y q ≡ None) (sym m.0) (first_none (stretch_fault d s i) r none_now q m.1)))
        c.1)
        b

  first_spot : (f : TableFault) → first (row_fault d) d.rows.count ≡ None → first (state_fault d) d.states.count ≡ Some f → FirstFault d f
  first_spot f rows e =
      let a = first_from (state_fault d) d.states.count f e in
      let b = first_from (input_fault d a.number) d.inputs f a.is in
      let c = first_from (stretch_fault d a.number b.number) (stretches d a.number) f (sym (input_is a.number b.number a.number_in) ∙ b.is) in
      let t = spot_turn d a.number b.number c.number f c.is in
      record {
        has = spot_has d a.number b.number c.number f (a.number_in, b.number_in, c.number_in) c.is;
        none_before = λ h has before.
            ⊎_elim
            (λ (k : RowFound d h). none_some _ h (first_none (row_fault d) d.rows.count rows k.row k.row_in) k.is)
            (λ (k : SpotFound d h).
            let u = spot_turn d k.state k.input k.stretch h k.is in
            let w = earlier_spots k.state k.input k.stretch a.number b.number c.number (subst (Earlier (2, k.state, k.input, k.stretch)) t (subst (λ x. Earlier x (turn f)) u before)) in
            none_some _ h (before_clear a.number b.number c.number a.none_before b.none_before c.none_before k.state k.input k.stretch k.spotted w) k.is)
            (has_found d h has);
      }

  found_go : (f : TableFault) (o : Option TableFault) → first (row_fault d) d.rows.count ≡ o → option_or o (first (state_fault d) d.states.count) ≡ Some f → FirstFault d f
  found_go f (Some x) p e = first_row f (p ∙ e)
  found_go f None p e = first_spot f p e

  found_first : (f : TableFault) → draft_fault d ≡ Some f → FirstFault d f
  found_first f e = found_go f (first (row_fault d) d.rows.count) refl e

  -- a first fault that lies in a row is found
  module _ (f : TableFault) (h : FirstFault d f) (a : RowFound d f) where
    no_row_before : (k : ℕ) → k < a.row → row_fault d k ≡ None
    no_row_before k l = no_answer _ (λ x e.
        let t = row_turn d a.row f a.is in
        let u = row_turn d k x e in
        h.none_before x (row_has d k x (omega (arith, a.row_in)) e) (inr (u.0 ∙ sym t.0, inl (omega (arith, u.1, t.1)))))

    row_first : draft_fault d ≡ Some f
    row_first =
        ap (λ o. option_or o (first (state_fault d) d.states.count))
        (first_at (row_fault d) a.row d.rows.count f a.row_in (first_all (row_fault d) a.row no_row_before) a.is)

  -- a first fault that lies at a state, an input and a stretch is found
  module _ (f : TableFault) (h : FirstFault d f) (a : SpotFound d f) where
    no_row : (k : ℕ) → k < d.rows.count → row_fault d k ≡ None
    no_row k l = no_answer _ (λ x e.
        let t : (turn f).0 ≡ 2 = ap (λ (y : Turn). y.0) (spot_turn d a.state a.input a.stretch f a.is) in
        let u = row_turn d k x e in
        h.none_before x (row_has d k x l e) (inl (omega (arith, u.0))))

    no_spot_before : (s i r : ℕ) → Spotted d s i r → Before s i r a.state a.input a.stretch → stretch_fault d s i r ≡ None
    no_spot_before s i r p b = no_answer _ (λ x e.
        let t = spot_turn d a.state a.input a.stretch f a.is in
        let u = spot_turn d s i r x e in
        h.none_before x (spot_has d s i r x p e) (subst (λ y. Earlier y (turn f)) (sym u) (subst (Earlier (2, s, i, r)) (sym t) (spots_earlier s i r a.state a.input a.stretch b))))

    no_stretch_before : (r : ℕ) → r < a.stretch → stretch_fault d a.state a.input r ≡ None
    unfolding Before
    no_stretch_before r l = let p = a.spotted in no_spot_before a.state a.input r (p.0, p.1, omega (arith, p.2)) (inr (refl, inr (refl, l)))

    no_input_before : (i : ℕ) → i < a.input → input_fault d a.state i ≡ None
    unfolding Before
    no_input_before i l = let p = a.spotted in clear_input a.state i p.0 (λ r m. no_spot_before a.state i r (p.0, omega (arith, p.1), m) (inr (refl, inl l)))

    no_state_before : (s : ℕ) → s < a.state → state_fault d s ≡ None
    unfolding Before
    no_state_before s l = clear_state s (omega (arith, a.spotted.0)) (λ i r q. no_spot_before s i r q (inl l))

    stretch_first : first (stretch_fault d a.state a.input) (stretches d a.state) ≡ Some f
    stretch_first = first_at (stretch_fault d a.state a.input) a.stretch (stretches d a.state) f a.spotted.2 (first_all _ a.stretch no_stretch_before) a.is

    input_first : state_fault d a.state ≡ Some f
    input_first =
        first_at (input_fault d a.state) a.input d.inputs f a.spotted.1 (first_all _ a.input no_input_before)
        (input_is a.state a.input a.spotted.0 ∙ stretch_first)

    spot_first : draft_fault d ≡ Some f
    spot_first =
        or_none _ _ (first_all (row_fault d) d.rows.count no_row)
        ∙ first_at (state_fault d) a.state d.states.count f a.spotted.0 (first_all _ a.state no_state_before) input_first

  first_found : (f : TableFault) → FirstFault d f → draft_fault d ≡ Some f
  first_found f h = ⊎_elim (row_first f h) (spot_first f h) (has_found d f h.has)

pub checks_right : (d : Draft) → Ranged d → ChecksRight d
checks_right d g = record {
  sound = (λ e. sound_table d (faultless_sound d g e), λ t. clear_draft d g (sound_none d t));
  first = λ f. (found_first d g f, first_found d g f);
}
