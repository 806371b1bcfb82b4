-- The refusals of a source.
--   number_of   the number of a refusal: of the question answered no, or 40 for want of memory
--   place_of    the place of a refusal
use Rattle.std.specs.Prelude.{ℕ}
use Rattle.names.specs.Declares as names
use Rattle.translator.specs.declared.refusals.Refusal.{Refusal}
use Rattle.translator.specs.declared.refusals.Refusal.TheVariants.{Naming, TooMuchCode, SmallBuffer, NoMemory}

abbrev pub number_of : Refusal → ℕ
number_of (Naming e) = names.number_of e
number_of (TooMuchCode p) = 9
number_of SmallBuffer = 10
number_of NoMemory = 40

abbrev pub place_of : Refusal → ℕ
place_of (Naming e) = names.place_of e
place_of (TooMuchCode p) = p
place_of SmallBuffer = 0
place_of NoMemory = 0
