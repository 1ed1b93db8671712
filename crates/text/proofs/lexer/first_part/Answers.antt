use Rattle.std.proofs.Common.{◌∙◌}
use Rattle.text.proofs.Tokens.{first_is}
use Rattle.text.proofs.lexer.first_part.Goals as goal

pub returns : goal.returns
returns c = c.then_some.ensures ∙ first_is _ _ _ c.run_end-start.ensures.is
