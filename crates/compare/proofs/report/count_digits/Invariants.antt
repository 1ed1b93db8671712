use Rattle.std.proofs.Common.{◌≡◌, ◌+◌, length, decimal}
use Rattle.compare.proofs.report.count_digits.Given as goal

-- a digit is counted for each that was cut off
abbrev pub invariant-loop-rest : goal.invariant-loop-rest
invariant-loop-rest l = l.digits + length (decimal l.rest) ≡ length (decimal l.n) + 1

abbrev pub decreases-loop-rest : goal.decreases-loop-rest
decreases-loop-rest l = l.rest
