use Rattle.grammar.proofs.Verdicts.{judges}
use Rattle.grammar.proofs.judged.Goals as goal

pub returns : goal.returns
returns c = judges
