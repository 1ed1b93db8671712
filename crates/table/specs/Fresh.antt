-- The draft of a fresh book: one stay state that answers its one input with output 0 at any clock.
use Rattle.std.specs.Prelude.{replicate, slice_set}
use Rattle.text.specs.declared.draft.End.TheVariants.{Shut}
use Rattle.text.specs.declared.draft.High.TheVariants.{Inf}
use Rattle.text.specs.declared.draft.Row.{Row}
use Rattle.text.specs.declared.draft.State.TheVariants.{Stay}
use Rattle.text.specs.declared.draft.Draft.{Draft}
use Rattle.text.specs.Draft.{no_row}
use Rattle.text.specs.Limits.{max_states, max_rows}

abbrev pub fresh_row : Row
fresh_row = record { state = 0; input = 0; guard = record { low = 0; end = Shut; high = Inf }; output = 0; next = 0 }

abbrev pub fresh_draft : Draft
fresh_draft = record {
  inputs = 1;
  outputs = 1;
  states = record { count = 1; all = replicate max_states Stay };
  rows = record { count = 1; all = slice_set (replicate max_rows no_row) 0 fresh_row };
}
