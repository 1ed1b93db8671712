-- A draft is sound just where it has no fault.
use Rattle.std.proofs.Common.{◌≡◌, ℕ, zero, suc, Bool, true, false, cond, Some, None, Option, refl}
use Rattle.text.specs.declared.draft.Draft.{Draft}
use Rattle.text.specs.Draft.{Ranged}
use Rattle.table.specs.declared.fault.Spot.{Spot}
use Rattle.table.specs.First.{first}
use Rattle.table.specs.Stretch.{stretches}
use Rattle.table.specs.Sound.{Sound, spot, row_fault, count_fault, stretch_fault, input_fault, state_fault, draft_fault}
use Rattle.table.specs.Firsts.{first_none, or_both}

neither : {X : Type 0} (a b : Bool) (x y : X) → cond a (Some x) (cond b (Some y) None) ≡ None → (a ≡ false) × (b ≡ false)
neither true b x y e = cc
neither false true x y e = cc
neither false false x y e = (refl, refl)

not_this : {X : Type 0} (a : Bool) (x : X) (o : Option X) → cond a (Some x) o ≡ None → o ≡ None
not_this true x o e = cc
not_this false x o e = e

just_one : (p : Spot) (n : ℕ) → count_fault p n ≡ None → n ≡ 1
just_one p zero e = cc
just_one p (suc zero) e = refl
just_one p (suc (suc n)) e = cc

pub faultless_sound : (d : Draft) → Ranged d → draft_fault d ≡ None → Sound d
faultless_sound d g none =
    let both = or_both (first (row_fault d) d.rows.count) (first (state_fault d) d.states.count) none in
    record {
      ranged = g;
      none_empty = λ k l. (neither _ _ _ _ (first_none (row_fault d) d.rows.count both.0 k l)).0;
      none_past = λ k l. (neither _ _ _ _ (first_none (row_fault d) d.rows.count both.0 k l)).1;
      one_row = λ s i r l m n.
          let at_state = first_none (state_fault d) d.states.count both.1 s l in
          let at_input = first_none (input_fault d s) d.inputs at_state i m in
          let at_stretch = first_none (stretch_fault d s i) (stretches d s) (not_this _ _ _ at_input) r n in
          just_one (spot s i r) _ at_stretch;
    }
