-- Division of whole numbers, rounded down. Sources and machine share this one definition, which its law fixes.
--   quotient     the greatest whole number not above the exact quotient
--   remainder    what is left of the dividend
--   is_zero      whether a number is 0
--   RoundsDown   the law: quotient and remainder make up the dividend, and the remainder has its divisor's sign and is nearer to 0
use Rattle.std.specs.Prelude.{◌≡◌, zero, suc, ◌/◌, Bool, true, false, ℤ, pos, negsuc, ◌+ℤ◌, ◌-ℤ◌, ◌*ℤ◌, ◌≤ℤ◌, ◌<ℤ◌}

abbrev pub quotient : ℤ → ℤ → ℤ
quotient (pos a) (pos b) = pos (a / b)
quotient (pos zero) (negsuc b) = pos 0
quotient (pos (suc a)) (negsuc b) = negsuc (a / suc b)
quotient (negsuc a) (pos b) = negsuc (a / b)
quotient (negsuc a) (negsuc b) = pos (suc a / suc b)

abbrev pub remainder : ℤ → ℤ → ℤ
remainder a b = a -ℤ (b *ℤ quotient a b)

abbrev pub is_zero : ℤ → Bool
is_zero (pos zero) = true
is_zero (pos (suc n)) = false
is_zero (negsuc n) = false

abbrev pub Nearer : ℤ → ℤ → Type 0
Nearer (pos n) r = (pos 0 ≤ℤ r) × (r <ℤ pos n)
Nearer (negsuc n) r = (negsuc n <ℤ r) × (r ≤ℤ pos 0)

abbrev pub RoundsDown : Type 0
RoundsDown = (a b : ℤ) → is_zero b ≡ false → (remainder a b +ℤ (b *ℤ quotient a b) ≡ a) × Nearer b (remainder a b)
