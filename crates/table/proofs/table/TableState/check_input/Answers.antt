use Rattle.std.proofs.Common.{◌≡◌, ℕ, Bool, true, false, not, ◌==◌, ◌∙◌, ap, sym, rules, arith}
use Rattle.std.proofs.lemmas.Bool.{cond-false}
use Rattle.text.specs.declared.draft.Draft.{Draft}
use Rattle.table.specs.First.{first, unless_fault}
use Rattle.table.specs.Rows.{rows_of}
use Rattle.table.specs.Stretch.{stretches}
use Rattle.table.specs.Sound.{stretch_fault, input_fault}
use Rattle.table.proofs.FirstFaults.{refused_first}
use Rattle.table.proofs.table.TableState.check_input.Goals as goal

-- where some row is the state's and the input's, the fault is the first stretch's
some_row : (d : Draft) (s i : ℕ) (b : Bool) → b ≡ not (rows_of d s i == 0) → b ≡ true → input_fault d s i ≡ first (stretch_fault d s i) (stretches d s)
some_row d s i b e holds = let none : (rows_of d s i == 0) ≡ false = grind arith in cond-false _ _ _ none

pub returns-in_err-check_stretch : goal.returns-in_err-check_stretch
returns-in_err-check_stretch c =
    let d = c.args.self.table.draft.now in
    refused_first (stretch_fault d c.args.self.number c.args.input) c.loop-stretch.stretch (stretches d c.args.self.number) _ tt _ (omega (arith, c.count_stretches-stretch-end.ensures, c.loop-stretch-test.true)) c.loop-stretch.invariant c.in_err-check_stretch.ensures (search rules)
    ∙ ap (λ o. unless_fault o tt) (sym (some_row d c.args.self.number c.args.input _ c.has_rows_of.ensures (search rules)))
