-- What stands past the last state and past the last row, told by tests. They say what the equations that a book carries say (Paddings).
use Rattle.std.specs.Prelude.{◌≡◌, ℕ, ◌≤◌, Bool, true, false, ◌&&◌, ◌==◌}
use Rattle.text.specs.declared.draft.End.{End}
use Rattle.text.specs.declared.draft.End.TheVariants.{Shut, Open}
use Rattle.text.specs.declared.draft.High.{High}
use Rattle.text.specs.declared.draft.High.TheVariants.{At, Inf}
use Rattle.text.specs.declared.draft.Row.{Row}
use Rattle.text.specs.declared.draft.State.{State}
use Rattle.text.specs.declared.draft.State.TheVariants.{Stay, Hold}
use Rattle.text.specs.declared.draft.Draft.{Draft}
use Rattle.text.specs.Draft.{row_at, state_at}

abbrev pub is_stay : State → Bool
is_stay Stay = true
is_stay (Hold t u) = false

abbrev pub is_shut : End → Bool
is_shut Shut = true
is_shut Open = false

-- the end is that of no row's guard
abbrev pub is_no_end : High → Bool
is_no_end (At n e) = n == 0 && is_shut e
is_no_end Inf = false

abbrev pub is_no_row : Row → Bool
is_no_row w = (((w.state == 0 && w.input == 0) && (w.output == 0 && w.next == 0)) && (w.guard.low == 0 && is_shut w.guard.end)) && is_no_end w.guard.high

abbrev pub StaysBehind : Draft → Type 0
StaysBehind d = (s : ℕ) → d.states.count ≤ s → is_stay (state_at d s) ≡ true

abbrev pub NoRowsBehind : Draft → Type 0
NoRowsBehind d = (k : ℕ) → d.rows.count ≤ k → is_no_row (row_at d k) ≡ true
