-- The refusals of admission.
--   number_of, place_of   a refusal's number, and the address it names; want of memory has a number of our own and names none
use Rattle.std.specs.Prelude.{ℕ}
use Rattle.image.specs.declared.refusals.Refusal.{Refusal}
use Rattle.image.specs.declared.refusals.Refusal.TheVariants.{TooLong, NotInstruction, OutOfBounds, NoMemory}

abbrev pub number_of : Refusal → ℕ
number_of TooLong = 11
number_of (NotInstruction address) = 12
number_of (OutOfBounds address) = 13
number_of NoMemory = 40

abbrev pub place_of : Refusal → ℕ
place_of TooLong = 4097
place_of (NotInstruction address) = address
place_of (OutOfBounds address) = address
place_of NoMemory = 0
