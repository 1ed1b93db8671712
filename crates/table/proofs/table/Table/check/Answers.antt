use Rattle.std.proofs.Common.{◌∙◌, sym}
use Rattle.table.specs.First.{first}
use Rattle.table.specs.Firsts.{or_none}
use Rattle.table.specs.Sound.{row_fault, state_fault}
use Rattle.table.proofs.FirstFaults.{passed}
use Rattle.table.proofs.Soundness.{faultless_sound}
use Rattle.table.proofs.table.Table.check.Goals as goal

pub returns-clause-sound : goal.returns-clause-sound
returns-clause-sound c = λ ok.
    let d = c.args.self.draft.now in
    let rows = passed (first (row_fault d) d.rows.count) tt c.in_ok-check_rows.ensures in
    let states = passed (first (state_fault d) d.states.count) tt (sym ok ∙ c.check_states.ensures) in
    faultless_sound d c.args.self.formed.ranged (or_none _ _ rows ∙ states)
