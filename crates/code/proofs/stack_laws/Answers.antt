use Rattle.code.proofs.Stacks.{frame, too_few, full, jumps}
use Rattle.code.proofs.stack_laws.Goals as goal

pub returns : goal.returns
returns c = record { frame = frame; few = too_few; full = full; jumps = jumps }
