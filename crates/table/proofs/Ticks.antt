-- How the ticks of a longer wait come from those of a shorter, and the steps of a word from those of its entries.
use Rattle.std.proofs.Common.{◌≡◌, ℕ, zero, suc, ◌+◌, ◌*◌, ◌/◌, ◌%◌, ◌<◌, ◌≤◌, cond, eqb, refl, ap, ◌∙◌, subst, ⊎_elim, add-zero, mul-zero, add-one, arith}
use native.Mathlib.Nat.{add-mul-div_left, add-mul-mod_self_left, div-add-mod}
use Rattle.std.proofs.lemmas.Bool.{cases_eq, eq-eqb, ne_eqb}
use Rattle.table.specs.Word.{ticks, ticked}

pub ticked_more : (t : ℕ → ℕ) (n s : ℕ) → ticked t (n + 1) s ≡ t (ticked t n s)
ticked_more t n s = rw add-one refl

-- a tick before n others is one after them
pub ticked_first : (t : ℕ → ℕ) (n s : ℕ) → ticked t n (t s) ≡ t (ticked t n s)
ticked_first t zero s = refl
ticked_first t (suc n) s = ap t (ticked_first t n s)

-- the tick of a part of a day that is left
abbrev pub odd : ℕ → ℕ
odd r = cond (eqb r 0) 0 1

pub odd_none : (r : ℕ) → r ≡ 0 → odd r ≡ 0
odd_none r e = ap (λ b. cond b 0 1) (eq-eqb r 0 e)

pub odd_some : (r : ℕ) → (r ≡ 0 → ⊥) → odd r ≡ 1
odd_some r ne = ap (λ b. cond b 0 1) (ne_eqb r 0 ne)

-- in half days a wait has as many ticks as parts
pub half_days : (n : ℕ) → ticks 2 n ≡ n
half_days n =
    ⊎_elim
    (λ e. omega (arith, div-add-mod n 2, odd_none (n % 2) e))
    (λ ne. omega (arith, div-add-mod n 2, odd_some (n % 2) ne))
    (cases_eq (n % 2) 0)

pub ticks_split : (q p d : ℕ) → 1 ≤ q → ticks q (p + d) ≡ 2 * (p / q) + ticks q (p % q + d)
ticks_split q p d l =
    let pos : zero < q = omega arith in
    let e : p + d ≡ (p % q + d) + q * (p / q) = omega (arith, div-add-mod p q) in
    let a : (p + d) / q ≡ (p % q + d) / q + p / q = ap (λ x. x / q) e ∙ add-mul-div_left (p % q + d) (p / q) pos in
    let b : (p + d) % q ≡ (p % q + d) % q = ap (λ x. x % q) e ∙ add-mul-mod_self_left (p % q + d) q (p / q) in
    let c : odd ((p + d) % q) ≡ odd ((p % q + d) % q) = ap odd b in
    omega (arith, a, c)

-- a rest below q has no whole day
pub ticks_rest : (q p : ℕ) → 1 ≤ q → ticks q p ≡ 2 * (p / q) + ticks q (p % q)
ticks_rest q p l =
    let P : ℕ → Type 0 = λ x. ticks q x ≡ 2 * (p / q) + ticks q (p % q + 0) in
    let Q : ℕ → Type 0 = λ x. ticks q p ≡ 2 * (p / q) + ticks q x in
    subst Q (add-zero (p % q)) (subst P (add-zero p) (ticks_split q p 0 l))

odd_le : (q r d : ℕ) → 1 ≤ q → odd r ≤ ticks q (r + d)
odd_le q r d l =
    ⊎_elim
    (λ e. omega (arith, odd_none r e))
    (λ ne. ⊎_elim
    (λ z. let m : (q * ((r + d) / q)) ≡ 0 = ap (λ x. q * x) z ∙ mul-zero q in
    let some : (r + d) % q ≡ 0 → ⊥ = λ w. ne (omega (arith, div-add-mod (r + d) q)) in
    omega (arith, odd_some r ne, odd_some ((r + d) % q) some))
    (λ nz. omega (arith, odd_some r ne))
    (cases_eq ((r + d) / q) 0))
    (cases_eq r 0)

pub ticks_mono : (q p d : ℕ) → 1 ≤ q → ticks q p ≤ ticks q (p + d)
ticks_mono q p d l = omega (arith, ticks_split q p d l, odd_le q (p % q) d l)
