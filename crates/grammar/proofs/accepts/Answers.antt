use Rattle.grammar.proofs.Runs.{accepts}
use Rattle.grammar.proofs.accepts.Goals as goal

pub returns : goal.returns
returns c = accepts
