-- Texts of lines, one number to a line.
--   lines_of     the text of a list of numbers
--   readings     the numbers of the first n lines
--   numbers_in   the numbers of all whole lines
--   Words        numbers of 32 bits, all of them
--   FirstBad     the first line that is no number's
--   Lines        bytes that are lines alone
use Rattle.std.specs.Prelude.{◌≡◌, ℕ, zero, suc, ◌-◌, ◌*◌, ◌/◌, ◌<◌, ◌≤◌, List, [], ◌∷◌, ◌++◌, length, take, drop, ℤ, pos, ◌≢◌, slice_index_or}
use Rattle.lines.specs.Lines.{Word, line_of, number_in}

abbrev pub lines_of : List ℤ → List ℕ
lines_of [] = []
lines_of (z ∷ zs) = line_of z ++ lines_of zs

abbrev pub readings : ℕ → List ℕ → List ℤ
readings zero bs = []
readings (suc n) bs = number_in (take 12 bs) ∷ readings n (drop 12 bs)

abbrev pub numbers_in : List ℕ → List ℤ
numbers_in bs = readings (length bs / 12) bs

abbrev pub Words : List ℤ → Type 0
Words zs = (k : ℕ) → k < length zs → Word (slice_index_or zs k (pos 0))

-- k counts from 1: before it the text is lines, and there it goes on, but with no line
pub record FirstBad (bs : List ℕ) (k : ℕ) : Type 0 where
  pub counted : 1 ≤ k
  pub before : lines_of (readings (k - 1) bs) ≡ take (12 * (k - 1)) bs
  pub words : Words (readings (k - 1) bs)
  pub inside : 12 * (k - 1) < length bs
  pub bad : (z : ℤ) → Word z → take 12 (drop (12 * (k - 1)) bs) ≢ line_of z

-- bytes that are lines alone
pub record Lines (bs : List ℕ) : Type 0 where
  pub text : lines_of (numbers_in bs) ≡ bs
  pub words : Words (numbers_in bs)
