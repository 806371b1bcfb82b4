-- What wrapping takes away is a multiple of 2^32.
use Rattle.std.proofs.Common.{◌+◌, ◌/◌, ◌%◌, ◌^◌, pos, negsuc, inl, inr, arith}
use Rattle.std.specs.Int.{int_wrap}
use Rattle.std.proofs.lemmas.Int.{ints}
use Rattle.std.proofs.lemmas.Bool.{cases_lt}
use Rattle.units.specs.Narrowing.{Wraps}

pub wraps : Wraps
unfolding int_wrap
wraps (pos a) =
    elim (cases_lt (a % 2 ^ 32) (2 ^ 31)) [
      | inl low ↦ (a / 2 ^ 32, inl (grind (arith, ints)))
      | inr high ↦ (a / 2 ^ 32 + 1, inl (grind (arith, ints)))
    ]
wraps (negsuc a) =
    elim (cases_lt (a % 2 ^ 32) (2 ^ 31)) [
      | inl low ↦ (a / 2 ^ 32, inr (grind (arith, ints)))
      | inr high ↦ (a / 2 ^ 32 + 1, inr (grind (arith, ints)))
    ]
