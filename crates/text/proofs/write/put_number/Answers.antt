use Rattle.std.proofs.Common.{ℕ, ◌^◌, ◌<◌, ◌≤◌, length, decimal, ap, arith}
use Rattle.std.proofs.lemmas.Fmt.{length-decimal-le}
use Rattle.std.proofs.lemmas.Str.{encode_ascii}
use Rattle.text.proofs.write.put_number.Goals as goal

few_digits : (n : ℕ) → n < 2 ^ 16 → length (decimal n) ≤ 5
few_digits n h = length-decimal-le 5 n (omega arith) (omega arith) (omega arith)

pub push-requires : goal.push-requires
push-requires c = omega (arith, c.format.ensures.fits, c.push_str.ensures.len, ap length (encode_ascii c.args.after c.requires.ascii))

pub returns-clause-short : goal.returns-clause-short
returns-clause-short c = few_digits c.args.n (omega arith)
