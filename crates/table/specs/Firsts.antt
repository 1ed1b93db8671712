-- The first answer of a run of questions, as a loop finds it.
use Rattle.std.specs.Prelude.{◌≡◌, ℕ, zero, suc, ◌+◌, ◌<◌, Some, None, Option, ◌≢◌, refl}
use Rattle.std.proofs.Common.{sym, ap, subst, ◌∙◌, ⊎_elim, arith, add-one}
use Rattle.std.proofs.lemmas.Bool.{cases_order}
use Rattle.std.specs.Option.{option_or}
use Rattle.table.specs.First.{first}

pub or_none : {X : Type 0} (o p : Option X) → o ≡ None → option_or o p ≡ p
or_none o p e = ap (λ x. option_or x p) e

-- one more question with no answer
pub first_more : {X : Type 0} (f : ℕ → Option X) (i : ℕ) → first f i ≡ None → f i ≡ None → first f (i + 1) ≡ None
first_more f i e h = rw add-one (or_none (first f i) (f i) e ∙ h)

-- where the first answer came
pub first_at : {X : Type 0} (f : ℕ → Option X) (i n : ℕ) (x : X) → i < n → first f i ≡ None → f i ≡ Some x → first f n ≡ Some x
first_at f i zero x l e h = absurd (omega arith)
first_at f i (suc n) x l e h =
    ⊎_elim
    (λ same. subst (λ k. first f (suc k) ≡ Some x) same (or_none (first f i) (f i) e ∙ h))
    (⊎_elim (λ less. ap (λ o. option_or o (f n)) (first_at f i n x less e h)) (λ more. absurd (omega arith)))
    (cases_order i n)

pub or_both : {X : Type 0} (o p : Option X) → option_or o p ≡ None → (o ≡ None) × (p ≡ None)
or_both (Some x) p e = (e, cc)
or_both None p e = (refl, e)

-- no answer at all
pub first_none : {X : Type 0} (f : ℕ → Option X) (n : ℕ) → first f n ≡ None → (k : ℕ) → k < n → f k ≡ None
first_none f zero e k l = absurd (omega arith)
first_none f (suc n) e k l =
    let b = or_both (first f n) (f n) e in
    ⊎_elim
    (λ same. subst (λ j. f j ≡ None) (sym same) b.1)
    (⊎_elim (λ less. first_none f n b.0 k less) (λ more. absurd (omega arith)))
    (cases_order k n)

-- where the first answer came from
pub record From {X : Type 0} (f : ℕ → Option X) (n : ℕ) (x : X) : Type 0 where
  pub number : ℕ
  pub number_in : number < n
  pub is : f number ≡ Some x
  pub none_before : first f number ≡ None

from_go : {X : Type 0} (f : ℕ → Option X) (n : ℕ) (x : X) → (first f n ≡ Some x → From f n x) → (o : Option X) → first f n ≡ o → option_or o (f n) ≡ Some x → From f (suc n) x
from_go f n x back (Some y) p q = let h = back (p ∙ q) in record { number = h.number; number_in = omega arith; is = h.is; none_before = h.none_before }
from_go f n x back None p q = record { number = n; number_in = omega arith; is = q; none_before = p }

pub first_from : {X : Type 0} (f : ℕ → Option X) (n : ℕ) (x : X) → first f n ≡ Some x → From f n x
first_from f zero x e = cc
first_from f (suc n) x e = from_go f n x (first_from f n x) (first f n) refl e

pub first_some : {X : Type 0} (f : ℕ → Option X) (n : ℕ) (x : X) → first f n ≡ Some x → (k : ℕ) × (k < n) × (f k ≡ Some x)
first_some f n x e = let h = first_from f n x e in (h.number, h.number_in, h.is)

-- an option that is no answer is none
pub no_answer : {X : Type 0} (o : Option X) → ((x : X) → o ≢ Some x) → o ≡ None
no_answer (Some x) h = absurd (h x refl)
no_answer None h = refl

pub none_some : {X : Type 0} (o : Option X) (x : X) → o ≡ None → o ≢ Some x
none_some o x p q = cc

pub first_all : {X : Type 0} (f : ℕ → Option X) (n : ℕ) → ((k : ℕ) → k < n → f k ≡ None) → first f n ≡ None
first_all f zero h = refl
first_all f (suc n) h = or_none (first f n) (f n) (first_all f n (λ k l. h k (omega arith))) ∙ h n (omega arith)
