use Rattle.std.proofs.Common.{arith, rules}
use Rattle.std.proofs.lemmas.Slice.{overwrites}
use Rattle.text.proofs.put.put.Goals as goal

pub returns : goal.returns
returns c = record {
  room = λ h. record { front = search (rules, overwrites); long = search rules; rest = search (rules, overwrites) };
  none = λ h. absurd (omega arith);
}
