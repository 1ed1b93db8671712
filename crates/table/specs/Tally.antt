-- Counting the numbers that pass a test.
use Rattle.std.specs.Prelude.{◌≡◌, ℕ, zero, suc, ◌+◌, ◌<◌, ◌≤◌, Bool, true, false, refl}
use Rattle.std.proofs.Common.{subst, ◌∙◌, ⊎_elim, arith, add-one}
use Rattle.std.proofs.lemmas.Bool.{cases_order, cases_Bool, cond-true, cond-false, cond_both}
use Rattle.table.specs.Rows.{tally}

-- one more number that passes, and one more that does not
pub tally_yes : (p : ℕ → Bool) (i : ℕ) → p i ≡ true → tally p (i + 1) ≡ tally p i + 1
tally_yes p i e = rw add-one (cond-true _ _ _ e)

pub tally_no : (p : ℕ → Bool) (i : ℕ) → p i ≡ false → tally p (i + 1) ≡ tally p i
tally_no p i e = rw add-one (cond-false _ _ _ e)

pub tally_none : (p : ℕ → Bool) (n : ℕ) → ((k : ℕ) → k < n → p k ≡ false) → tally p n ≡ 0
tally_none p zero h = refl
tally_none p (suc n) h = cond-false _ _ _ (h n (omega arith)) ∙ tally_none p n (λ k l. h k (omega arith))

tally_step : (p : ℕ → Bool) (n : ℕ) → tally p n ≤ tally p (suc n)
tally_step p n = cond_both (p n) (tally p n + 1) (tally p n) (λ x. tally p n ≤ x) (λ _. omega arith) (λ _. omega arith)

pub tally_some : (p : ℕ → Bool) (n k : ℕ) → k < n → p k ≡ true → 1 ≤ tally p n
tally_some p zero k l e = absurd (omega arith)
tally_some p (suc n) k l e =
    ⊎_elim
    (λ same. let c = cond-true (p n) (tally p n + 1) (tally p n) (subst (λ j. p j ≡ true) same e) in omega arith)
    (⊎_elim (λ b. let h = tally_some p n k b e in let m = tally_step p n in omega arith) (λ a. absurd (omega arith)))
    (cases_order k n)

pub tally_two : (p : ℕ → Bool) (n j k : ℕ) → j < k → k < n → p j ≡ true → p k ≡ true → 2 ≤ tally p n
tally_two p zero j k a l d e = absurd (omega arith)
tally_two p (suc n) j k a l d e =
    ⊎_elim
    (λ same.
    let c = cond-true (p n) (tally p n + 1) (tally p n) (subst (λ j. p j ≡ true) same e) in
    let h = tally_some p n j (omega arith) d in
    omega arith)
    (⊎_elim (λ b. let h = tally_two p n j k a b d e in let m = tally_step p n in omega arith) (λ a. absurd (omega arith)))
    (cases_order k n)

-- where the count is one, no two numbers pass
pub tally_only : (p : ℕ → Bool) (n j k : ℕ) → tally p n ≡ 1 → j < n → k < n → p j ≡ true → p k ≡ true → j ≡ k
tally_only p n j k one a b d e =
    ⊎_elim
    (λ same. same)
    (⊎_elim (λ l. let h = tally_two p n j k l b d e in absurd (omega arith)) (λ l. let h = tally_two p n k j l a e d in absurd (omega arith)))
    (cases_order j k)

-- where the count is not zero, a number passes
pub record Passes (p : ℕ → Bool) (n : ℕ) : Type 0 where
  pub number : ℕ
  pub number_in : number < n
  pub passes : p number ≡ true

passes_more : (p : ℕ → Bool) (n : ℕ) → Passes p n → Passes p (suc n)
passes_more p n h = record { number = h.number; number_in = omega arith; passes = h.passes }

pub tally_passes : (p : ℕ → Bool) (n : ℕ) → 1 ≤ tally p n → Passes p n
tally_passes p zero l = absurd (omega arith)
tally_passes p (suc n) l =
    ⊎_elim
    (λ yes. record { number = n; number_in = omega arith; passes = yes })
    (λ no. let c = cond-false (p n) (tally p n + 1) (tally p n) no in passes_more p n (tally_passes p n (omega arith)))
    (cases_Bool (p n))

-- where the count is two or more, two numbers pass
pub record TwoPass (p : ℕ → Bool) (n : ℕ) : Type 0 where
  pub less : ℕ
  pub more : ℕ
  pub less_more : less < more
  pub more_in : more < n
  pub less_passes : p less ≡ true
  pub more_passes : p more ≡ true

pub tally_pair : (p : ℕ → Bool) (n : ℕ) → 2 ≤ tally p n → TwoPass p n
tally_pair p zero l = absurd (omega arith)
tally_pair p (suc n) l =
    ⊎_elim
    (λ yes.
    let c = cond-true (p n) (tally p n + 1) (tally p n) yes in
    let h = tally_passes p n (omega arith) in
    record { less = h.number; more = n; less_more = h.number_in; more_in = omega arith; less_passes = h.passes; more_passes = yes })
    (λ no.
    let c = cond-false (p n) (tally p n + 1) (tally p n) no in
    let h = tally_pair p n (omega arith) in
    record { less = h.less; more = h.more; less_more = h.less_more; more_in = omega arith; less_passes = h.less_passes; more_passes = h.more_passes })
    (cases_Bool (p n))
