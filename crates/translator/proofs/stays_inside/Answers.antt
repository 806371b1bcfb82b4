use Rattle.translator.proofs.Inside.{stays_inside}
use Rattle.translator.proofs.stays_inside.Goals as goal

pub returns : goal.returns
returns c = stays_inside
