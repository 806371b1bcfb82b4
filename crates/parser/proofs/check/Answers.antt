use Rattle.parser.proofs.Whole.{exited, a_program}
use Rattle.parser.proofs.check.Goals as goal

pub returns-in_err-parse : goal.returns-in_err-parse
returns-in_err-parse c = λ source. exited _ _ c.from_residual.result _ c.from_residual.ensures.1 (c.in_err-parse.ensures source)

pub returns : goal.returns
returns c = λ source. a_program _ _ (c.in_ok-parse.ensures source)
