use Rattle.text.proofs.Filling.{Filling}
use Rattle.text.proofs.read.read_many.Given as goal

abbrev pub invariant-loop-place : goal.invariant-loop-place
invariant-loop-place g l = Filling (g.T.Listed.reader l.counts) l.count l.fn.past (g.T.Listed.Ranged l.counts) l.count l.place-index l.place-items l.initial.lexer l.lexer
