-- Comparisons by the sign of the difference.
use Rattle.std.proofs.Common.{◌≡◌, zero, suc, Bool, true, false, not, eqb, ℤ, pos, negsuc, ◌-ℤ◌, refl, ap, arith, w64, SFits, to_z, of_z}
use borrow.Author.Differences.{ints}
use lib.Signed.{lt_z, le_z}
use Rattle.std.proofs.lemmas.Int.{to_z-of_z}
use Rattle.std.proofs.lemmas.Bool.Decides.{nat_tests}
use Rattle.code.specs.Machine.{by_sign}
use Rattle.machine.specs.View.{truth, Word}
use Rattle.machine.proofs.Stacks.{word_fits}

less_at : (x y z : ℤ) → x -ℤ y ≡ z → truth (lt_z x y) ≡ by_sign 1 0 0 z
less_at x y (negsuc n) e = ap truth (let b : lt_z x y ≡ true = grind (arith, ints) in b)
less_at x y (pos zero) e = ap truth (let b : lt_z x y ≡ false = grind (arith, ints) in b)
less_at x y (pos (suc n)) e = ap truth (let b : lt_z x y ≡ false = grind (arith, ints) in b)

greater_at : (x y z : ℤ) → x -ℤ y ≡ z → truth (lt_z y x) ≡ by_sign 0 0 1 z
greater_at x y (negsuc n) e = ap truth (let b : lt_z y x ≡ false = grind (arith, ints) in b)
greater_at x y (pos zero) e = ap truth (let b : lt_z y x ≡ false = grind (arith, ints) in b)
greater_at x y (pos (suc n)) e = ap truth (let b : lt_z y x ≡ true = grind (arith, ints) in b)

at_most_at : (x y z : ℤ) → x -ℤ y ≡ z → truth (le_z x y) ≡ by_sign 1 1 0 z
at_most_at x y (negsuc n) e = ap truth (let b : le_z x y ≡ true = grind (arith, ints) in b)
at_most_at x y (pos zero) e = ap truth (let b : le_z x y ≡ true = grind (arith, ints) in b)
at_most_at x y (pos (suc n)) e = ap truth (let b : le_z x y ≡ false = grind (arith, ints) in b)

at_least_at : (x y z : ℤ) → x -ℤ y ≡ z → truth (le_z y x) ≡ by_sign 0 1 1 z
at_least_at x y (negsuc n) e = ap truth (let b : le_z y x ≡ false = grind (arith, ints) in b)
at_least_at x y (pos zero) e = ap truth (let b : le_z y x ≡ true = grind (arith, ints) in b)
at_least_at x y (pos (suc n)) e = ap truth (let b : le_z y x ≡ true = grind (arith, ints) in b)

-- two numbers have the same bits where their difference is 0
same_bits : (x y z : ℤ) → SFits w64 x → SFits w64 y → x -ℤ y ≡ z → truth (eqb (of_z w64 x) (of_z w64 y)) ≡ by_sign 0 1 0 z
same_bits x y (negsuc n) f g e = ap truth (let b : eqb (of_z w64 x) (of_z w64 y) ≡ false = grind (arith, ints, nat_tests) in b)
same_bits x y (pos zero) f g e = ap truth (let b : eqb (of_z w64 x) (of_z w64 y) ≡ true = grind (arith, ints, nat_tests) in b)
same_bits x y (pos (suc n)) f g e = ap truth (let b : eqb (of_z w64 x) (of_z w64 y) ≡ false = grind (arith, ints, nat_tests) in b)

other_bits : (b : Bool) (z : ℤ) → truth b ≡ by_sign 0 1 0 z → truth (not b) ≡ by_sign 1 0 1 z
other_bits true (negsuc n) e = cc
other_bits false (negsuc n) e = refl
other_bits true (pos zero) e = refl
other_bits false (pos zero) e = cc
other_bits true (pos (suc n)) e = cc
other_bits false (pos (suc n)) e = refl

module _ (x y : ℤ) (hx : Word x) (hy : Word y) where
  wide_x : to_z w64 (of_z w64 x) ≡ x
  wide_x = to_z-of_z w64 x (word_fits x hx)

  wide_y : to_z w64 (of_z w64 y) ≡ y
  wide_y = to_z-of_z w64 y (word_fits y hy)

  pub less_is : truth (lt_z (to_z w64 (of_z w64 x)) (to_z w64 (of_z w64 y))) ≡ by_sign 1 0 0 (x -ℤ y)
  less_is = rw (wide_x, wide_y) (less_at x y (x -ℤ y) refl)

  pub greater_is : truth (lt_z (to_z w64 (of_z w64 y)) (to_z w64 (of_z w64 x))) ≡ by_sign 0 0 1 (x -ℤ y)
  greater_is = rw (wide_x, wide_y) (greater_at x y (x -ℤ y) refl)

  pub at_most_is : truth (le_z (to_z w64 (of_z w64 x)) (to_z w64 (of_z w64 y))) ≡ by_sign 1 1 0 (x -ℤ y)
  at_most_is = rw (wide_x, wide_y) (at_most_at x y (x -ℤ y) refl)

  pub at_least_is : truth (le_z (to_z w64 (of_z w64 y)) (to_z w64 (of_z w64 x))) ≡ by_sign 0 1 1 (x -ℤ y)
  at_least_is = rw (wide_x, wide_y) (at_least_at x y (x -ℤ y) refl)

  pub equal_is : truth (eqb (of_z w64 x) (of_z w64 y)) ≡ by_sign 0 1 0 (x -ℤ y)
  equal_is = same_bits x y (x -ℤ y) (word_fits x hx) (word_fits y hy) refl

  pub unequal_is : truth (not (eqb (of_z w64 x) (of_z w64 y))) ≡ by_sign 1 0 1 (x -ℤ y)
  unequal_is = other_bits (eqb (of_z w64 x) (of_z w64 y)) (x -ℤ y) equal_is
