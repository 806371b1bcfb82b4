-- The sorts of bytes.
--   blank       what may stand between tokens
--   digit       0 to 9
--   letter      A to Z, a to z
--   word_byte   what may stand in a word after its first letter
--   gap         what may stand inside the head
--   begins      whether a text begins with a spelling
use Rattle.std.specs.Prelude.{ℕ, Bool, true, false, ◌&&◌, ◌||◌, List, [], ◌∷◌, ◌==◌, nat_le}

abbrev pub blank : ℕ → Bool
blank b = (b == 9 || b == 10) || (b == 13 || b == 32)

abbrev pub digit : ℕ → Bool
digit b = nat_le 48 b && nat_le b 57

abbrev pub letter : ℕ → Bool
letter b = (nat_le 65 b && nat_le b 90) || (nat_le 97 b && nat_le b 122)

abbrev pub word_byte : ℕ → Bool
word_byte b = letter b || digit b

abbrev pub gap : ℕ → Bool
gap b = b == 32 || b == 9

abbrev pub begins : List ℕ → List ℕ → Bool
begins [] bs = true
begins (p ∷ ps) [] = false
begins (p ∷ ps) (b ∷ bs) = b == p && begins ps bs
