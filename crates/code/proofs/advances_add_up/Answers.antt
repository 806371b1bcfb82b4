use Rattle.code.proofs.Advances.{add_up, stay_within}
use Rattle.code.proofs.advances_add_up.Goals as goal

pub returns : goal.returns
returns c = record { together = add_up; within = stay_within }
