use Rattle.std.proofs.Common.{rules}
use Rattle.table.proofs.Views.{each_at_itself}
use Rattle.table.proofs.output_table.OutputTable.outputs_to_themselves.Goals as goal

pub returns : goal.returns
returns c = each_at_itself c.from_fn.result (search rules) c.from_fn.ensures.items.long
