use Rattle.std.proofs.Common.{◌≡◌, ◌+◌, ◌/◌, length, decimal, ap, ◌∙◌, arith, length-append, [], ◌∷◌, ◌%◌}
use Rattle.std.proofs.lemmas.Fmt.{decimal_digit, decimal_step, length-decimal-le}
use Rattle.compare.proofs.report.count_digits.Goals as goal

pub overflow_add-digits : goal.overflow_add-digits
overflow_add-digits c =
    let few = length-decimal-le 10 c.args.n (omega arith) (omega (arith, c.ranges.n)) (omega (arith, c.ranges.n)) in
    omega (arith, few, c.loop-rest.invariant)

pub loop-rest-preserved : goal.loop-rest-preserved
loop-rest-preserved c =
    let rest = c.loop-rest.rest in
    let step = decimal_step rest c.loop-rest-test.true (omega (arith, c.loop-rest.auto.rest-fits)) in
    let long : length (decimal rest) ≡ length (decimal (rest / 10)) + 1 = ap length step ∙ length-append (decimal (rest / 10)) ((48 + rest % 10) ∷ []) in
    omega (arith, long, c.loop-rest.invariant)

pub returns-clause-is : goal.returns-clause-is
returns-clause-is c =
    let one : length (decimal c.loop-rest.rest) ≡ 1 = ap length (decimal_digit c.loop-rest.rest c.loop-rest-test.false) in
    omega (arith, one, c.loop-rest.invariant)

pub returns-clause-few : goal.returns-clause-few
returns-clause-few c =
    let few = length-decimal-le 10 c.args.n (omega arith) (omega (arith, c.ranges.n)) (omega (arith, c.ranges.n)) in
    omega (arith, few, returns-clause-is c)
