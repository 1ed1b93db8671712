-- A view's table of outputs: the one that sends each output to itself, the first entry that is no output, and what a view passes on.
use Rattle.std.specs.Prelude.{ℕ, ◌<◌, List, Option, nat_le, slice_index}
use Rattle.std.specs.List.{range_with_len}
use Rattle.text.specs.Limits.{max_outputs}
use Rattle.table.specs.declared.fault.TableFault.{TableFault}
use Rattle.table.specs.declared.fault.TableFault.TheVariants.{Output}
use Rattle.table.specs.Meaning.{given_if}
use Rattle.table.specs.First.{first}

-- the table that sends each output to itself
abbrev pub same_outputs : List ℕ
same_outputs = range_with_len 0 max_outputs

-- every entry is an output
abbrev pub AllOutputs : List ℕ → Type 0
AllOutputs es = (k : ℕ) → k < max_outputs → slice_index es k < max_outputs

-- the fault of an entry that is no output
abbrev pub entry_fault : List ℕ → ℕ → Option TableFault
entry_fault es k = given_if (nat_le max_outputs (slice_index es k)) (Output k)

abbrev pub table_fault : List ℕ → Option TableFault
table_fault es = first (entry_fault es) max_outputs

-- what is taken below, with its output passed through the table
abbrev pub passed : List ℕ → ℕ × ℕ → ℕ × ℕ
passed es p = (p.0, slice_index es p.1)
