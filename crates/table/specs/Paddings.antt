-- The tests of what stands past the counts say what the text's ranges say.
use Rattle.std.specs.Prelude.{◌≡◌, ℕ, true, refl}
use Rattle.std.proofs.Common.{ap, arith}
use Rattle.std.proofs.lemmas.Bool.{and_parts, eqb-true}
use Rattle.text.specs.declared.draft.End.{End}
use Rattle.text.specs.declared.draft.End.TheVariants.{Shut, Open}
use Rattle.text.specs.declared.draft.High.{High}
use Rattle.text.specs.declared.draft.High.TheVariants.{At, Inf}
use Rattle.text.specs.declared.draft.Row.{Row}
use Rattle.text.specs.declared.draft.State.{State}
use Rattle.text.specs.declared.draft.State.TheVariants.{Stay, Hold}
use Rattle.text.specs.declared.draft.Draft.{Draft}
use Rattle.text.specs.Draft.{row_at, state_at, no_row, StatesPadded, RowsPadded}
use Rattle.table.specs.Padding.{is_stay, is_shut, is_no_end, is_no_row, StaysBehind, NoRowsBehind}

stay_is : (h : State) → is_stay h ≡ true → h ≡ Stay
stay_is Stay e = refl
stay_is (Hold t u) e = absurd (let z : ◌≡◌ {A = ℕ} 0 1 = cc in omega arith)

shut_is : (e : End) → is_shut e ≡ true → e ≡ Shut
shut_is Shut e = refl
shut_is Open e = absurd (let z : ◌≡◌ {A = ℕ} 0 1 = cc in omega arith)

end_is : (h : High) → is_no_end h ≡ true → h ≡ At 0 Shut
end_is (At n e) t = let p = and_parts _ _ t in let a = eqb-true n 0 p.0 in let b = shut_is e p.1 in cc
end_is Inf t = absurd (let z : ◌≡◌ {A = ℕ} 0 1 = cc in omega arith)

joined : (a b c d e : ℕ) (f : End) (g : High) → a ≡ 0 → b ≡ 0 → c ≡ 0 → d ≡ 0 → e ≡ 0 → f ≡ Shut → g ≡ At 0 Shut → ◌≡◌ {A = Row} (record { state = a; input = b; guard = record { low = e; end = f; high = g }; output = c; next = d }) no_row
joined a b c d e f g ea eb ec ed ee ef eg = cc

row_is : (w : Row) → is_no_row w ≡ true → w ≡ no_row
row_is w t =
    let p = and_parts _ _ t in
    let q = and_parts _ _ p.0 in
    let r = and_parts _ _ q.0 in
    let u = and_parts _ _ r.0 in
    let v = and_parts _ _ r.1 in
    let x = and_parts _ _ q.1 in
    joined w.state w.input w.output w.next w.guard.low w.guard.end w.guard.high
    (eqb-true _ _ u.0) (eqb-true _ _ u.1) (eqb-true _ _ v.0) (eqb-true _ _ v.1) (eqb-true _ _ x.0) (shut_is _ x.1) (end_is _ p.1)

pub states_padded : (d : Draft) → StaysBehind d → StatesPadded d
states_padded d h s l = stay_is (state_at d s) (h s l)

pub rows_padded : (d : Draft) → NoRowsBehind d → RowsPadded d
rows_padded d h k l = row_is (row_at d k) (h k l)

pub stays_behind : (d : Draft) → StatesPadded d → StaysBehind d
stays_behind d h s l = ap is_stay (h s l)

pub no_rows_behind : (d : Draft) → RowsPadded d → NoRowsBehind d
no_rows_behind d h k l = ap is_no_row (h k l)
