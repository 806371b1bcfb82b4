-- What is printed of a refusal.
--   sentence   `refused NUMBER at PLACE`, both in decimal
use Rattle.std.specs.Prelude.{ℕ, List, ◌++◌, codes, decimal}

abbrev pub sentence : ℕ → ℕ → List ℕ
sentence number place = codes "refused " ++ (decimal number ++ (codes " at " ++ decimal place))
