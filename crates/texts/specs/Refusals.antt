-- The refusals of text tapes.
--   number_of, place_of   a refusal's number, and the place it names
use Rattle.std.specs.Prelude.{ℕ}
use Rattle.texts.specs.declared.refusals.Refusal.{Refusal}
use Rattle.texts.specs.declared.refusals.Refusal.TheVariants.{NotALine}

abbrev pub number_of : Refusal → ℕ
number_of (NotALine line) = 14

abbrev pub place_of : Refusal → ℕ
place_of (NotALine line) = line
