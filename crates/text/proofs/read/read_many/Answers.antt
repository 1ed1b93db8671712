use Rattle.std.proofs.Common.{◌≡◌, take, replicate, arith}
use Rattle.std.proofs.lemmas.List.{take-replicate}
use Rattle.text.proofs.Filling.{filling_none, filling_more, filling_stops, filling_front, err_shown}
use Rattle.text.proofs.read.read_many.Goals as goal

pub loop-place-init : goal.loop-place-init
loop-place-init g c =
    let places : take c.from.result (replicate g.row.N c.args.past) ≡ replicate c.args.count c.args.past = rw c.from.ensures (take-replicate c.args.count g.row.N c.args.past c.requires.few) in
    rw places (filling_none _ _ _ _ _ _ c.requires.within (omega arith))

pub loop-place-preserved : goal.loop-place-preserved
loop-place-preserved g c = filling_more c.loop-place.invariant _ (omega arith) c.in_ok-place.ensures.ranged c.in_ok-place.ensures.reads

pub returns-in_err-place-clause-reads : goal.returns-in_err-place-clause-reads
returns-in_err-place-clause-reads g c = filling_stops c.loop-place.invariant _ _ (omega arith) c.in_err-place.ensures.reads (err_shown _ _ _ c.from_residual.ensures.1)

pub returns-clause-filled : goal.returns-clause-filled
returns-clause-filled g c = filling_front c.loop-place.invariant (omega arith) _ _ c.from.ensures
