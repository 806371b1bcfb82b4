-- The range from -100 to 100, of the unit that the trials add.
--   low, high   its ends lie on both sides of 0
use Rattle.std.specs.Prelude.{pos, negsuc, ◌≤ℤ◌}
use lib.Signed.{le_z_yes}

pub low : negsuc 99 ≤ℤ negsuc 0
low = le_z_yes tt

pub high : pos 1 ≤ℤ pos 100
high = le_z_yes tt
