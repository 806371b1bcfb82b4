use Rattle.units.proofs.Multiples.{wraps}
use Rattle.units.proofs.wrapping.wraps_by_multiples.Goals as goal

pub returns : goal.returns
returns c = wraps
