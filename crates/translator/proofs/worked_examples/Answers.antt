use Rattle.std.proofs.Common.{refl}
use Rattle.translator.proofs.worked_examples.Goals as goal

pub returns : goal.returns
returns c = record { published = record { squares = refl; nested = refl }; linear = record { squares = refl; nested = refl } }
