-- That the three units keep the laws of arithmetic units, each over any range that it can have.
--   least_is_negative, greatest_is_positive, ordered
--                                 the ends of so many bits: one below 0, one above where there are two bits, in order
--   strict_keeps, strict_inside   a number inside the range comes back as itself; what comes back lies inside
--   clamped_…, wrapping_…         the same of the other two
use Rattle.std.specs.Prelude.{◌≡◌, ℕ, ◌-◌, ◌^◌, ◌≤◌, Bool, true, false, not, cond, ℤ, pos, negsuc, ◌≤ℤ◌, ◌<ℤ◌, Some, None, Option, int_lt}
use Rattle.std.specs.Int.{int_wrap, w32}
use Rattle.std.proofs.Common.{T, SFits, sym, refl, ap, subst, arith, le→leb, leb→le}
use Rattle.std.proofs.lemmas.Int.{int_wrap_fits, SFits-int_wrap}
use Rattle.std.proofs.Math.Pow.{pow_mono}
use lib.Dec.{leb}
use lib.Signed.{le_z_yes, lt_z_yes, lt_z_no, clash_ℤ, ≤ℤ_refl}
use Rattle.units.specs.Narrowing.{minimum, maximum, Within, strict, clamped, wrapping}

pub least_is_negative : (bits : ℕ) → minimum bits ≤ℤ negsuc 0
least_is_negative bits = le_z_yes (le→leb 0 (2 ^ (bits - 1) - 1) (omega arith))

pub greatest_is_positive : (bits : ℕ) → T (leb 2 bits) → pos 1 ≤ℤ maximum bits
greatest_is_positive bits two = le_z_yes (le→leb 1 (2 ^ (bits - 1) - 1) (let h : 2 ^ 1 ≤ 2 ^ (bits - 1) = pow_mono {i = 1} {j = bits - 1} (omega (arith, leb→le 2 bits two)) in omega (arith, h)))

pub ordered : (bits : ℕ) → minimum bits ≤ℤ maximum bits
ordered bits = le_z_yes tt

module _ (low high x : ℤ) where
  -- what holds of each answer below, above and inside a range holds of the answer that the two tests pick
  picked : (P : Option ℤ → Type 0) (under over : Option ℤ) → (x <ℤ low → P under) → (high <ℤ x → P over) → (low ≤ℤ x → x ≤ℤ high → P (Some x)) →
      P (cond (int_lt x low) under (cond (int_lt high x) over (Some x)))
  picked P under over below above inside = by (int_lt x low) refl (int_lt high x) refl
    where
      told : (b c : Bool) → c ≡ b → T b → T c
      told b c e t = subst (λ (v : Bool). T v) (sym e) t

      by : (a : Bool) → int_lt x low ≡ a → (b : Bool) → int_lt high x ≡ b → P (cond a under (cond b over (Some x)))
      by true e b f = below (lt_z_yes (told true (int_lt x low) e tt))
      by false e true f = above (lt_z_yes (told true (int_lt high x) f tt))
      by false e false f = inside (lt_z_no (told true (not (int_lt x low)) (ap not e) tt)) (lt_z_no (told true (not (int_lt high x)) (ap not f) tt))

  pub strict_keeps : low ≤ℤ x → x ≤ℤ high → strict low high x ≡ Some x
  strict_keeps above below = picked (λ r. r ≡ Some x) None None (λ h. clash_ℤ h above) (λ h. clash_ℤ h below) (λ _ _. refl)

  pub strict_inside : Within low high (strict low high x)
  strict_inside = picked (Within low high) None None (λ _. tt) (λ _. tt) (λ above below. (above, below))

  pub clamped_keeps : low ≤ℤ x → x ≤ℤ high → clamped low high x ≡ Some x
  clamped_keeps above below = picked (λ r. r ≡ Some x) (Some low) (Some high) (λ h. clash_ℤ h above) (λ h. clash_ℤ h below) (λ _ _. refl)

  pub clamped_inside : low ≤ℤ high → Within low high (clamped low high x)
  clamped_inside ordered = picked (Within low high) (Some low) (Some high) (λ _. (≤ℤ_refl low, ordered)) (λ _. (ordered, ≤ℤ_refl high)) (λ above below. (above, below))

fits_32 : (x : ℤ) → minimum 32 ≤ℤ x → x ≤ℤ maximum 32 → SFits w32 x
fits_32 (pos n) above below = let h : n ≤ 2 ^ 31 - 1 = leb→le n (2 ^ 31 - 1) below.le in record { sfits = omega arith }
fits_32 (negsuc n) above below = let h : n ≤ 2 ^ 31 - 1 = leb→le n (2 ^ 31 - 1) above.le in record { sfits = omega arith }

inside_32 : (x : ℤ) → SFits w32 x → Within (minimum 32) (maximum 32) (Some x)
inside_32 (pos n) f = (le_z_yes tt, le_z_yes (le→leb n (2 ^ 31 - 1) (omega (arith, f.sfits))))
inside_32 (negsuc n) f = (le_z_yes (le→leb n (2 ^ 31 - 1) (omega (arith, f.sfits))), le_z_yes tt)

pub wrapping_keeps : (x : ℤ) → minimum 32 ≤ℤ x → x ≤ℤ maximum 32 → wrapping x ≡ Some x
wrapping_keeps x above below = ap (λ (z : ℤ). Some z) (int_wrap_fits w32 x (fits_32 x above below))

pub wrapping_inside : (x : ℤ) → Within (minimum 32) (maximum 32) (wrapping x)
wrapping_inside x = inside_32 (int_wrap w32 x) (SFits-int_wrap w32 x)
