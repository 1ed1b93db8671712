-- A run of checks refuses the first fault among those that the checks find.
use Rattle.std.proofs.Common.{◌≡◌, ℕ, ◌<◌, Some, None, Ok, Err, Option, Result, sym, refl, ap, ◌∙◌}
use Rattle.table.specs.First.{first, unless_fault}
use Rattle.table.specs.Firsts.{first_at}

-- what a check that passed or refused tells of the fault
pub passed : {X A : Type 0} (o : Option X) (a : A) → Ok a ≡ unless_fault o a → o ≡ None
passed None a e = refl
passed (Some x) a e = cc

refused : {X A : Type 0} (o : Option X) (a : A) (x : X) → Err x ≡ unless_fault o a → o ≡ Some x
refused None a x e = cc
refused (Some y) a x e = cc

-- the check that refuses after others that passed
pub refused_first : {X A : Type 0} (f : ℕ → Option X) (i n : ℕ) (x : X) (a : A) (r : Result A X) → i < n → first f i ≡ None → Err x ≡ unless_fault (f i) a → r ≡ Err x → r ≡ unless_fault (first f n) a
refused_first f i n x a r l h e is = is ∙ sym (ap (λ o. unless_fault o a) (first_at f i n x l h (refused (f i) a x e)))
