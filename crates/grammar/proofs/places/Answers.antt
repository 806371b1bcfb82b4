use Rattle.grammar.proofs.Placing.{places}
use Rattle.grammar.proofs.places.Goals as goal

pub returns : goal.returns
returns c = places
