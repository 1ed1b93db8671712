-- The greatest end of a state's rows, and the bounds of its stretches.
use Rattle.std.specs.Prelude.{◌≡◌, ℕ, zero, suc, ◌+◌, ◌<◌, ◌≤◌, max, ◌==◌, ◌≢◌}
use Rattle.std.proofs.Common.{sym, subst, ⊎_elim, arith, add-one}
use Rattle.std.proofs.lemmas.Bool.{cases_order, cond-true, cond-false, cond_both, eq-eqb, ne_eqb}
use Rattle.text.specs.declared.draft.State.{State}
use Rattle.text.specs.declared.draft.State.TheVariants.{Stay, Hold}
use Rattle.text.specs.declared.draft.Draft.{Draft}
use Rattle.text.specs.Limits.{max_days}
use Rattle.text.specs.Draft.{row_at, state_at, timeout_of, GuardRanged, Ranged}
use Rattle.table.specs.Guard.{last_end}
use Rattle.table.specs.Stretch.{greatest_end, stretch_count, stretches, max_stretches}

-- one more row that is the state's, and one more that is not
pub end_yes : (d : Draft) (s i : ℕ) → (row_at d i).state ≡ s → greatest_end d s (i + 1) ≡ max (greatest_end d s i) (last_end (row_at d i).guard)
end_yes d s i e = rw add-one (cond-true _ _ _ (eq-eqb _ _ e))

pub end_no : (d : Draft) (s i : ℕ) → ((row_at d i).state ≢ s) → greatest_end d s (i + 1) ≡ greatest_end d s i
end_no d s i e = rw add-one (cond-false _ _ _ (ne_eqb _ _ e))

-- no end of the first n rows is later than the greatest day
pub end_few : (d : Draft) (s n : ℕ) → ((k : ℕ) → k < n → GuardRanged (row_at d k).guard) → greatest_end d s n ≤ max_days
end_few d s zero h = omega arith
end_few d s (suc n) h =
    let e = h n (omega arith) in
    let m = end_few d s n (λ k l. h k (omega arith)) in
    cond_both ((row_at d n).state == s) (max (greatest_end d s n) (last_end (row_at d n).guard)) (greatest_end d s n) (λ x. x ≤ max_days) (λ _. omega arith) (λ _. m)

end_more : (d : Draft) (s n : ℕ) → greatest_end d s n ≤ greatest_end d s (suc n)
end_more d s n =
    cond_both ((row_at d n).state == s) (max (greatest_end d s n) (last_end (row_at d n).guard)) (greatest_end d s n) (λ x. greatest_end d s n ≤ x) (λ _. omega arith) (λ _. omega arith)

-- a row's ends are no later than the greatest end of its state
pub row_end : (d : Draft) (s n k : ℕ) → k < n → (row_at d k).state ≡ s → last_end (row_at d k).guard ≤ greatest_end d s n
row_end d s zero k l e = absurd (omega arith)
row_end d s (suc n) k l e =
    ⊎_elim
    (λ same.
    let c : greatest_end d s (suc n) ≡ max (greatest_end d s n) (last_end (row_at d n).guard) = cond-true _ _ _ (eq-eqb _ _ (subst (λ j. (row_at d j).state ≡ s) same e)) in
    subst (λ j. last_end (row_at d j).guard ≤ greatest_end d s (suc n)) (sym same) (omega arith))
    (⊎_elim
    (λ less. let h = row_end d s n k less e in let m = end_more d s n in omega arith)
    (λ more. absurd (omega arith)))
    (cases_order k n)

count_some : (h : State) (c : ℕ) → 1 ≤ timeout_of h → 1 ≤ stretch_count h c
count_some Stay c l = omega arith
count_some (Hold t u) c l = omega arith

count_few : (h : State) (c : ℕ) → timeout_of h ≤ max_days → c ≤ max_days → stretch_count h c ≤ max_stretches
count_few Stay c l m = omega arith
count_few (Hold t u) c l m = omega arith

module _ (d : Draft) (g : Ranged d) where
  pub some_stretch : (s : ℕ) → s < d.states.count → 1 ≤ stretches d s
  some_stretch s l = count_some (state_at d s) _ (g.states s l).0

  pub few_stretches : (s : ℕ) → s < d.states.count → stretches d s ≤ max_stretches
  few_stretches s l = count_few (state_at d s) _ (g.states s l).1 (end_few d s d.rows.count g.guards)
