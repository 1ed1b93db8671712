use Rattle.std.proofs.Common.{sym, rules}
use Rattle.table.specs.View.{table_fault}
use Rattle.table.proofs.Views.{faultless_outputs, no_fault, some_fault}
use Rattle.table.proofs.output_table.OutputTableTryFromArrayU8OUTPUTENTRIES.try_from.Goals as goal

pub invariant_of-result : goal.invariant_of-result
invariant_of-result c = record { small = faultless_outputs c.args.entries (no_fault (table_fault c.args.entries) (sym c.in_ok-check_entries.ensures)) }

pub returns-in_err-check_entries : goal.returns-in_err-check_entries
returns-in_err-check_entries c = let is = some_fault (table_fault c.args.entries) _ (sym c.in_err-check_entries.ensures) in search rules
