use Rattle.std.proofs.Common.{◌≡◌, ◌*◌, ◌≤◌, ◌++◌, length, take}
use Rattle.std.specs.List.{flat_map}
use Rattle.text.proofs.write.put_all.Given as goal

abbrev pub invariant-loop-one : goal.invariant-loop-one
invariant-loop-one g l = record {
  puts : l.text.bytes ≡ l.initial.text.bytes ++ flat_map g.T.Put.spelling (take l.one-index l.all);
  short : length (flat_map g.T.Put.spelling (take l.one-index l.all)) ≤ g.T.Put.longest * l.one-index;
}
