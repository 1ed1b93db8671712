use Rattle.std.proofs.Common.{arith, length-set}
use Rattle.std.proofs.lemmas.Grind.{common_steps}
use Rattle.table.specs.Numbers.{below_suc}
use Rattle.table.specs.Stretches.{few_stretches}
use Rattle.table.proofs.table.Table.offsets.Goals as goal

pub loop-number-preserved : goal.loop-number-preserved
loop-number-preserved c =
    let d = c.args.self.draft.now in
    let e = below_suc d c.loop-number.number in
    let f = few_stretches d c.args.self.formed.ranged c.loop-number.number c.loop-number-test.true in
    let i = c.loop-number.invariant in
    (simp length-set i.0, omega arith, omega (arith, e), λ k m. grind (arith, common_steps, i.3 k), λ k m. grind (arith, common_steps, i.4 k))
