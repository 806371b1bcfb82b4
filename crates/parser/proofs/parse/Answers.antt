use Rattle.syntax.specs.TreeOf.{tree_of}
use Rattle.parser.proofs.Whole.{refused, exited, all_read, more_left}
use Rattle.parser.proofs.parse.Goals as goal

pub returns-in_err-program : goal.returns-in_err-program
returns-in_err-program c = λ source. exited _ _ c.from_residual.result _ c.from_residual.ensures.1 (refused _ _ (c.in_err-program.ensures.reads source))

pub returns-in-None : goal.returns-in-None
returns-in-None c = λ source. all_read source c.args.tokens.now _ (tree_of source c.in_ok-program.program) (c.in_ok-program.ensures.reads source).1 c.in-None.ensures.value

pub returns-in-Some : goal.returns-in-Some
returns-in-Some c = λ source. more_left source c.args.tokens.now _ _ (c.in_ok-program.ensures.reads source).0 c.in-Some.ensures.value
