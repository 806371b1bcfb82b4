use Rattle.std.proofs.Common.{◌∙◌}
use Rattle.machine.proofs.Fetching.{picked}
use Rattle.machine.proofs.step.instruction_at.Goals as goal

pub returns : goal.returns
returns c = c.copied.ensures ∙ picked _ _ _ c.requires c.get.ensures.lookup
