use Rattle.std.proofs.Common.{◌+◌, ◌<◌, ◌≤◌}
use Rattle.compare.specs.Spell.{Tallied}
use Rattle.compare.proofs.spell.count_entries.Given as goal

abbrev pub invariant-loop-item : goal.invariant-loop-item
invariant-loop-item l = record {
  up : l.item ≤ l.place;
  few : l.entries + l.item ≤ l.place + 1;
  some : 0 < l.entries;
  tallied : Tallied l.cells l.place l.item l.entries;
}

abbrev pub decreases-loop-item : goal.decreases-loop-item
decreases-loop-item l = l.item
