-- The text line of a signed 32-bit number.
--   Word              a number of 32 bits
--   line_of           its line: 11 columns, the number to the right, and a line feed
--   Read              what reading some bytes answers
--   number_in         the number of a line, read off its bytes
--   OneLineEach       each number has one line of 12 bytes, its own
--   Numeral, Padded   what the parts of a reader answer
use Rattle.std.specs.Prelude.{◌≡◌, ℕ, ◌+◌, ◌-◌, ◌*◌, ◌^◌, ◌<◌, ◌≤◌, Bool, false, cond, ◌||◌, List, [], ◌∷◌, ◌++◌, length, take, replicate, ℤ, pos, neg_ℤ, Some, None, decimal, Option, ◌==◌, ◌≢◌, nat_lt, slice_index, slice_index_or}
use Rattle.std.specs.Int.Signed.{mag}
use Rattle.std.specs.Fmt.{signed_decimal}

-- a number of 32 bits
abbrev pub Word : ℤ → Type 0
Word z = mag z < 2 ^ 31

-- 11 columns, the number to the right, and a line feed
abbrev pub line_of : ℤ → List ℕ
line_of z = replicate (11 - length (signed_decimal z)) 32 ++ (signed_decimal z ++ 10 ∷ [])

-- the answer for bytes: the number whose line they are, or none if they are no number's
abbrev pub Read : List ℕ → Option ℤ → Type 0
Read bs (Some z) = Word z × (bs ≡ line_of z)
Read bs None = (z : ℤ) → Word z → bs ≢ line_of z

-- the number that a line's digits write: bytes below 48 (a space, a minus, a line feed) count for nothing
abbrev pub magnitude : ℕ → List ℕ → ℕ
magnitude n [] = n
magnitude n (c ∷ cs) = cond (nat_lt c 48) (magnitude n cs) (magnitude (n * 10 + (c - 48)) cs)

abbrev pub has_minus : List ℕ → Bool
has_minus [] = false
has_minus (c ∷ cs) = c == 45 || has_minus cs

-- the number of a line, and some number for bytes that are no line
abbrev pub number_in : List ℕ → ℤ
number_in bs = cond (has_minus bs) (neg_ℤ (pos (magnitude 0 bs))) (pos (magnitude 0 bs))

-- one line to each number
pub record OneLineEach : Type 0 where
  pub long : (z : ℤ) → Word z → length (line_of z) ≡ 12
  pub back : (z : ℤ) → Word z → number_in (line_of z) ≡ z
  pub own : (y z : ℤ) → Word y → Word z → line_of y ≡ line_of z → y ≡ z

-- the number that the digits write, or none where they are no number's digits
abbrev pub Numeral : List ℕ → Option ℕ → Type 0
Numeral ds (Some n) = (n < 2 ^ 64) × (ds ≡ decimal n)
Numeral ds None = (n : ℕ) → n < 2 ^ 64 → ds ≢ decimal n

-- of 12 bytes that end in a line feed, n spaces come first in the 11 columns, and no more
pub record Padded (bs : List ℕ) (n : ℕ) : Type 0 where
  pub long : length bs ≡ 12
  pub end : slice_index_or bs 11 0 ≡ 10
  pub few : n ≤ 11
  pub blank : take n bs ≡ replicate n 32
  pub stops : n < 11 → slice_index bs n ≢ 32
