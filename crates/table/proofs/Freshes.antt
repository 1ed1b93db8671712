-- The fresh draft lies in its ranges and has no fault.
use Rattle.std.proofs.Common.{◌≡◌, ℕ, ◌<◌, ◌≤◌, ◌≢◌, get_or, replicate, sym, refl, ap, ◌∙◌, subst, ⊎_elim, arith, length-set}
use lib.ListN.{get_or-replicate, length-replicate}
use Rattle.std.proofs.lemmas.List.{get_or-set_other, get_or_past}
use Rattle.std.proofs.lemmas.Bool.{cases_lt}
use Rattle.text.specs.declared.draft.Row.{Row}
use Rattle.text.specs.declared.draft.State.{State}
use Rattle.text.specs.declared.draft.State.TheVariants.{Stay}
use Rattle.text.specs.Limits.{max_states, max_rows, max_days}
use Rattle.text.specs.Draft.{no_row, row_at, state_at, timeout_of, target_of, GuardRanged, Ranged, Sized}
use Rattle.table.specs.Fresh.{fresh_row, fresh_draft}
use Rattle.table.specs.Sound.{Sound}
use Rattle.table.proofs.Soundness.{faultless_sound}

padded : {X : Type 0} (n : ℕ) (x : X) (k : ℕ) → get_or (replicate n x) k x ≡ x
padded n x k = ⊎_elim (λ l. get_or-replicate n k x x l) (λ l. get_or_past (replicate n x) k x (omega (arith, length-replicate n x))) (cases_lt k n)

state_is : (s : ℕ) → state_at fresh_draft s ≡ Stay
state_is s = padded max_states Stay s

row_is : (k : ℕ) → k < 1 → row_at fresh_draft k ≡ fresh_row
row_is k l = let e : k ≡ 0 = omega arith in ap (row_at fresh_draft) e

row_past : (k : ℕ) → 1 ≤ k → row_at fresh_draft k ≡ no_row
row_past k l = let ne : k ≢ 0 = λ e. omega arith in get_or-set_other (replicate max_rows no_row) 0 k fresh_row no_row ne ∙ padded max_rows no_row k

fresh_ranged : Ranged fresh_draft
fresh_ranged = record {
  inputs = (omega arith, omega arith, omega arith, omega arith);
  counts = (omega arith, omega arith, omega arith, omega arith);
  states = λ s l. subst (λ (h : State). (1 ≤ timeout_of h) × (timeout_of h ≤ max_days) × (target_of h < 1)) (sym (state_is s)) (omega arith, omega arith, omega arith);
  named = λ k l. subst (λ (w : Row). (w.state < 1) × (w.input < 1) × (w.output < 1) × (w.next < 1)) (sym (row_is k l)) (omega arith, omega arith, omega arith, omega arith);
  guards = λ k l. subst (λ (w : Row). GuardRanged w.guard) (sym (row_is k l)) (omega arith, omega arith);
  states_padded = λ s l. state_is s;
  rows_padded = row_past;
}

pub fresh_sized : Sized fresh_draft
fresh_sized = (length-replicate max_states Stay, length-set (replicate max_rows no_row) 0 fresh_row ∙ length-replicate max_rows no_row)

pub fresh_sound : Sound fresh_draft
fresh_sound = faultless_sound fresh_draft fresh_ranged refl
