use Rattle.code.proofs.Floors.{rounds_down}
use Rattle.code.proofs.rounds_down.Goals as goal

pub returns : goal.returns
returns c = rounds_down
