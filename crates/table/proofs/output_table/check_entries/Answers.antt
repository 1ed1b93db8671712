use Rattle.std.proofs.Common.{sym, ap, rules}
use Rattle.table.specs.First.{unless_fault}
use Rattle.table.proofs.Views.{table_fault_at, table_fault_none}
use Rattle.table.proofs.output_table.check_entries.Goals as goal

pub returns-in-Some : goal.returns-in-Some
returns-in-Some c = sym (ap (λ o. unless_fault o tt) (table_fault_at c.args.entries.now c.in-Some.k (search rules) (sym c.in-Some.ensures)))

pub returns-in-None : goal.returns-in-None
returns-in-None c = sym (ap (λ o. unless_fault o tt) (table_fault_none c.args.entries.now (search rules) (sym c.in-None.ensures)))
