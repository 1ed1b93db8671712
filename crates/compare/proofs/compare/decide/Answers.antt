use Rattle.std.proofs.Common.{◌≤◌, length, take, arith}
use Rattle.table.specs.Means.{means}
use Rattle.compare.specs.Search.{max_pairs}
use Rattle.compare.proofs.Verdicts.{searched_alike, told_inside, told_counted, told_short, told_different}
use Rattle.compare.proofs.Visits.{few_pairs}
use Rattle.compare.proofs.compare.decide.Given as given
use Rattle.compare.proofs.compare.decide.Goals as goal
use Rattle.compare.proofs.compare.decide.Goals.{In-Err, After-spell}

few_cells : (g : given.Over) (c : In-Err g) → length c.search.new.cells ≤ max_pairs
few_cells g c = omega (arith, few_pairs (means g.M.Machine c.args.machines.now.left.now) (means g.N.Machine c.args.machines.now.right.now) (g.met.M.Machine.lawful c.args.machines.now.left.now) (g.met.N.Machine.lawful c.args.machines.now.right.now))

pub spell-requires : goal.spell-requires
spell-requires g c = record {
  inside = told_inside c.in-Err.ensures;
  few = few_cells g (goal.at.spell-requires g c).In-Err;
  room = omega (arith, told_inside c.in-Err.ensures);
  some = c.count_entries-entries.ensures.short.1;
  counted = told_counted c.in-Err.ensures c.count_entries-entries.result c.count_entries-entries.ensures.tallied;
}

-- the word fits the buffer that it was written into
fits : (g : given.Over) (c : After-spell g) → c.count_entries-entries.result ≤ length c.spell.new.word
fits g c = omega (arith, told_inside c.in-Err.ensures)

pub different-requires : goal.different-requires
different-requires g c = record {
  inside = fits g (goal.at.different-requires g c).After-spell;
  few = omega (arith, told_inside c.in-Err.ensures, few_cells g (goal.at.different-requires g c).In-Err, told_short c.in-Err.ensures (take c.count_entries-entries.result c.spell.new.word) c.spell.ensures.written);
}

pub returns-in-Ok-clause-decided : goal.returns-in-Ok-clause-decided
returns-in-Ok-clause-decided g c = searched_alike _ _ _ c.args.machines.now.same_inputs c.in-Ok.ensures _

pub returns-in-Err-clause-decided : goal.returns-in-Err-clause-decided
returns-in-Err-clause-decided g c = rw c.different.ensures (told_different c.in-Err.ensures c.count_entries-entries.result c.spell.new.word c.spell.ensures.written (fits g (goal.at.returns-in-Err-clause-decided g c).After-spell) c.spell.auto.word c.spell.ensures.rest)
