use Rattle.std.proofs.Common.{rules}
use Rattle.text.proofs.Exactly.{reads_back}
use Rattle.text.proofs.write.write_draft.Goals as goal

pub returns-clause-back : goal.returns-clause-back
returns-clause-back c = λ r. reads_back c.args.draft.now (record { ranged = r; sized = (search rules, search rules) })
