-- Ranges of numbers, and how a unit brings an exact number into one.
--   minimum, maximum   the ends of the numbers of some bits, two's complement
--   Within             a result, if there is one, lies in a range
--   strict             the number itself inside the range, nothing outside it
--   clamped            the nearer end outside the range
--   wrapping           what is left of the number in 32 bits
--   Wraps              wrapping alters a number by a multiple of 2^32 only
use Rattle.std.specs.Prelude.{◌≡◌, ℕ, ◌-◌, ◌*◌, ◌^◌, cond, ◌⊎◌, ℤ, pos, negsuc, ◌+ℤ◌, ◌≤ℤ◌, Some, None, Option, int_lt}
use Rattle.std.specs.Int.{int_wrap, w32}

abbrev pub minimum : ℕ → ℤ
minimum bits = negsuc (2 ^ (bits - 1) - 1)

abbrev pub maximum : ℕ → ℤ
maximum bits = pos (2 ^ (bits - 1) - 1)

abbrev pub Within : ℤ → ℤ → Option ℤ → Type 0
Within low high None = Unit {0}
Within low high (Some x) = (low ≤ℤ x) × (x ≤ℤ high)

abbrev pub strict : ℤ → ℤ → ℤ → Option ℤ
strict low high x = cond (int_lt x low) None (cond (int_lt high x) None (Some x))

abbrev pub clamped : ℤ → ℤ → ℤ → Option ℤ
clamped low high x = cond (int_lt x low) (Some low) (cond (int_lt high x) (Some high) (Some x))

abbrev pub wrapping : ℤ → Option ℤ
wrapping x = Some (int_wrap w32 x)

abbrev pub Wraps : Type 0
Wraps = (x : ℤ) → (k : ℕ) × ((x ≡ int_wrap w32 x +ℤ pos (k * 2 ^ 32)) ⊎ (int_wrap w32 x ≡ x +ℤ pos (k * 2 ^ 32)))
