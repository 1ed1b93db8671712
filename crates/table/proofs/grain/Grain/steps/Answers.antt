use Rattle.std.proofs.Common.{◌+◌, refl, arith}
use Rattle.std.proofs.lemmas.Grind.{common_steps}
use Rattle.std.proofs.lemmas.List.Recursion.{is_sum_by}
use Rattle.table.specs.Word.{ticks, steps}
use Rattle.table.proofs.grain.Grain.steps.Goals as goal

pub loop-entry-preserved : goal.loop-entry-preserved
loop-entry-preserved c = grind (arith, common_steps, is_sum_by (steps c.args.self.parts) (λ e. ticks c.args.self.parts e.wait + 1) refl (λ _ _. refl))
