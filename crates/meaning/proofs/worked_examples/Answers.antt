use Rattle.meaning.proofs.Examples.{examples}
use Rattle.meaning.proofs.worked_examples.Goals as goal

pub returns : goal.returns
returns c = examples
