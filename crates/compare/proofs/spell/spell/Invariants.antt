use Rattle.compare.specs.Spell.{Walk}
use Rattle.compare.proofs.spell.spell.Given as goal

abbrev pub invariant-loop-item : goal.invariant-loop-item
invariant-loop-item l = Walk l.cells l.fn.found.place l.fn.found.input l.entries l.initial.word l.item l.slot l.wait l.next l.word

abbrev pub decreases-loop-item : goal.decreases-loop-item
decreases-loop-item l = l.item
