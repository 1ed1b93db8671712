-- The number of a state and a stretch, and the state and the stretch that have a number.
use Rattle.std.specs.Prelude.{◌≡◌, ℕ, zero, suc, ◌+◌, ◌-◌, ◌*◌, ◌<◌, ◌≤◌, Some, nat_le, nat_lt, refl}
use Rattle.std.proofs.Common.{sym, ap, subst, ◌∙◌, ⊎_elim, arith, add-one}
use Rattle.std.proofs.lemmas.Bool.{cases_order, cond-true, cond-false, cond_both, le-leb, lt-leb, lt-ltb, leb-true, leb-false}
use Rattle.text.specs.declared.draft.Draft.{Draft}
use Rattle.text.specs.Draft.{Ranged}
use Rattle.table.specs.Meaning.{given_if}
use Rattle.table.specs.Stretch.{stretches, max_stretches}
use Rattle.table.specs.Offsets.{below, all_stretches, number, state_of, place}
use Rattle.table.specs.GivenIf.{given_true}
use Rattle.table.specs.Stretches.{few_stretches}

pub below_suc : (d : Draft) (s : ℕ) → below d (s + 1) ≡ below d s + stretches d s
below_suc d s = rw add-one refl

pub below_few : (d : Draft) → Ranged d → (n : ℕ) → n ≤ d.states.count → below d n ≤ max_stretches * n
below_few d g zero l = omega arith
below_few d g (suc n) l = let e = below_few d g n (omega arith) in let f = few_stretches d g n (omega arith) in omega arith

-- the stretches of a state lie below those of the next
pub below_more : (d : Draft) (s n : ℕ) → s < n → below d s + stretches d s ≤ below d n
below_more d s zero l = absurd (omega arith)
below_more d s (suc n) l =
    ⊎_elim
    (λ same. subst (λ k. below d s + stretches d s ≤ below d (suc k)) same (omega arith))
    (⊎_elim (λ less. let e = below_more d s n less in omega arith) (λ more. absurd (omega arith)))
    (cases_order s n)

state_of_is : (d : Draft) (n s k : ℕ) → s < k → below d s ≤ n → n < below d s + stretches d s → state_of d n k ≡ s
state_of_is d n s zero l b a = absurd (omega arith)
state_of_is d n s (suc k) l b a =
    ⊎_elim
    (λ same. cond-true _ _ _ (le-leb _ _ (subst (λ j. below d j ≤ n) same b)) ∙ sym same)
    (⊎_elim
    (λ less. let m = below_more d s k less in let a' : n < below d k = omega arith in cond-false _ _ _ (lt-leb _ _ a') ∙ state_of_is d n s k less b a)
    (λ more. absurd (omega arith)))
    (cases_order s k)

-- the place of a number is the place that has it
place_is : (d : Draft) (n s : ℕ) → s < d.states.count → below d s ≤ n → n < below d s + stretches d s → place d n ≡ (s, n - below d s)
place_is d n s l b a = ap (λ j. (j, n - below d j)) (state_of_is d n s d.states.count l b a)

-- a state and one of its stretches
pub record Valid (d : Draft) (p : ℕ × ℕ) : Type 0 where
  pub state_in : p.0 < d.states.count
  pub stretch_in : p.1 < stretches d p.0

pub place_number : (d : Draft) (s r : ℕ) → s < d.states.count → r < stretches d s → place d (below d s + r) ≡ (s, r)
place_number d s r l m = place_is d (below d s + r) s l (omega arith) (omega arith) ∙ ap (λ x. (s, x)) (omega arith)

pub number_in : (d : Draft) (s r : ℕ) → s < d.states.count → r < stretches d s → below d s + r < all_stretches d
number_in d s r l m = let e = below_more d s d.states.count l in omega arith

state_of_valid : (d : Draft) (n k : ℕ) → n < below d k → (state_of d n k < k) × (below d (state_of d n k) ≤ n) × (n < below d (state_of d n k) + stretches d (state_of d n k))
state_of_valid d n zero l = absurd (omega arith)
state_of_valid d n (suc k) l =
    cond_both (nat_le (below d k) n) k (state_of d n k) (λ s. (s < suc k) × (below d s ≤ n) × (n < below d s + stretches d s))
    (λ e. (omega arith, leb-true _ _ e, l))
    (λ e. let h = state_of_valid d n k (leb-false _ _ e) in (omega (arith, h.0), h.1, h.2))

pub place_valid : (d : Draft) (n : ℕ) → n < all_stretches d → Valid d (place d n)
place_valid d n l = let h = state_of_valid d n d.states.count l in record { state_in = h.0; stretch_in = omega (arith, h.1, h.2) }

pub number_place : (d : Draft) (n : ℕ) → n < all_stretches d → number d (place d n) ≡ n
number_place d n l = let h = state_of_valid d n d.states.count l in omega (arith, h.1)

-- the answer of a search for the number n among the states, at the state that has it
pub placed : (d : Draft) (n s offset : ℕ) → s < d.states.count → offset ≡ below d s → offset ≤ n → n < offset + stretches d s → Some (s, n - offset) ≡ given_if (nat_lt n (all_stretches d)) (place d n)
placed d n s offset l e b a =
    let m = below_more d s d.states.count l in
    let i : n < all_stretches d = omega arith in
    let p : place d n ≡ (s, n - offset) = place_is d n s l (omega arith) (omega arith) ∙ ap (λ x. (s, n - x)) (sym e) in
    ap Some (sym p) ∙ sym (given_true (nat_lt n (all_stretches d)) (place d n) (lt-ltb n (all_stretches d) i))
