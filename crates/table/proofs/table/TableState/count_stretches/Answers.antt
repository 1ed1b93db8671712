use Rattle.std.proofs.Common.{arith}
use Rattle.table.specs.Stretches.{end_few}
use Rattle.table.proofs.table.TableState.count_stretches.Goals as goal

pub overflow_mul-result : goal.overflow_mul-result
overflow_mul-result c =
    let few = end_few c.args.self.table.draft.now c.args.self.number c.args.self.table.draft.now.rows.count c.args.self.table.formed.ranged.guards in
    omega arith

pub overflow_add-result : goal.overflow_add-result
overflow_add-result c =
    let few = end_few c.args.self.table.draft.now c.args.self.number c.args.self.table.draft.now.rows.count c.args.self.table.formed.ranged.guards in
    omega arith
