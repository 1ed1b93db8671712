use Rattle.std.proofs.Common.{◌<◌, length, ◌∙◌, arith}
use Rattle.text.proofs.Tokens.{skipped, at_word, at_number, numbered_as}
use Rattle.text.proofs.lexer.Lexer.next.Goals as goal

pub returns-then-has-clause-is : goal.returns-then-has-clause-is
returns-then-has-clause-is c =
    let from = c.run_end-start.ensures.is in
    let some : c.run_end-start.result < length c.args.self.now.text.now = c.in-Some.ensures.lookup.3.0 in
    let first = c.in-Some.ensures.lookup.4 (omega arith) 0 in (
      at_word _ _ _ from _ some first _ c.if-has.ensures c.run_end-end.ensures.is,
      skipped _ _ _ from,
      omega arith,
      c.run_end-end.ensures.within (omega arith),
    )

pub returns-then-has-2-clause-is : goal.returns-then-has-2-clause-is
returns-then-has-2-clause-is c =
    let from = c.run_end-start.ensures.is in
    let some : c.run_end-start.result < length c.args.self.now.text.now = c.in-Some.ensures.lookup.3.0 in
    let first = c.in-Some.ensures.lookup.4 (omega arith) 0 in (
      at_number _ _ _ from _ some first _ c.if-has.ensures c.if-has-2.ensures c.run_end-end-then-has-2.ensures.is
          ∙ numbered_as _ _ _ _ c.in-Some-numeral.ensures,
      skipped _ _ _ from,
      omega arith,
      c.run_end-end-then-has-2.ensures.within (omega arith),
    )

pub returns-in_default-numeral-clause-is : goal.returns-in_default-numeral-clause-is
returns-in_default-numeral-clause-is c =
    let from = c.run_end-start.ensures.is in
    let some : c.run_end-start.result < length c.args.self.now.text.now = c.in-Some.ensures.lookup.3.0 in
    let first = c.in-Some.ensures.lookup.4 (omega arith) 0 in (
      at_number _ _ _ from _ some first _ c.if-has.ensures c.if-has-2.ensures c.run_end-end-then-has-2.ensures.is ∙ numbered_as _ _ _ _ c.in_default-numeral.ensures,
      omega arith,
    )
