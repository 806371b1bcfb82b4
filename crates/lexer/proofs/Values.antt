-- Numbers read digit by digit, cut at a limit.
use Rattle.std.proofs.Common.{◌≡◌, ℕ, ◌+◌, ◌*◌, min, arith}

-- one more digit: to cut before it makes no difference
pub cut_step : (v d : ℕ) → min (min v 1073741824 * 10 + d) 1073741824 ≡ min (v * 10 + d) 1073741824
cut_step v d = omega arith
