use Rattle.std.proofs.Common.{arith}
use Rattle.std.specs.Int.{int_wrap}
use Rattle.std.proofs.lemmas.Int.{ints, to_z-of_z}
use Rattle.units.proofs.wrapping.WrappingArithmetic.narrow.Goals as goal

pub returns : goal.returns
unfolding int_wrap
returns c = grind (arith, ints, to_z-of_z, c.rem_euclid.ensures, c.cast_signed.ensures)
