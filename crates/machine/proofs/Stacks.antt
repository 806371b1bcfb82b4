-- The stack as a list, and words widened.
use Rattle.std.proofs.Common.{◌≡◌, ℕ, zero, suc, ◌+◌, ◌-◌, ◌<◌, ◌≤◌, true, false, ltb, ◌≢◌, List, ◌∷◌, length, get_or, take, drop, set, ℤ, pos, negsuc, Some, None, inl, inr, sym, refl, ap, ◌∙◌, subst, add-one, arith, get_or-set_other, get_or-set_same, w32, w64, SFits, to_z, of_z}
use borrow.Author.Differences.{ints}
use Rattle.std.specs.List.{slice_get}
use Rattle.std.proofs.lemmas.Bool.Decides.{nat_tests}
use Rattle.std.proofs.lemmas.Int.{to_z-of_z}
use Rattle.std.proofs.lemmas.List.{get_or-take, length-take-le}
use Rattle.std.proofs.lemmas.Option.{slice_get-get_or, slice_get_past}
use Rattle.std.proofs.lemmas.Bool.{cases_lt}
use Rattle.code.specs.Machine.{nth}
use Rattle.machine.specs.View.{tops, Word, Two}

pub length_tops : (xs : List ℤ) (n : ℕ) → length (tops xs n) ≡ n
length_tops xs zero = refl
length_tops xs (suc n) = ap suc (length_tops xs n)

-- a word written above the first n
tops_above : (xs : List ℤ) (d n : ℕ) (v : ℤ) → n ≤ d → tops (set xs d v) n ≡ tops xs n
tops_above xs d zero v h = refl
tops_above xs d (suc n) v h =
    let ne : n ≢ d = omega arith in
    let le : n ≤ d = omega arith in
    let e = tops_above xs d n v le in
    let f = get_or-set_other xs d n v (pos 0) ne in
    cc

pub tops_push : (xs : List ℤ) (d : ℕ) (u v : ℤ) → d < length xs → u ≡ v → tops (set xs d u) (d + 1) ≡ v ∷ tops xs d
tops_push xs d u v h k =
    let le : d ≤ d = omega arith in
    let e = tops_above xs d d u le in
    let f = get_or-set_same xs d u (pos 0) h in
    rw add-one (cc)

-- at least two words
pub tops_two : (xs : List ℤ) (d : ℕ) → 2 ≤ d → tops xs d ≡ get_or xs (d - 1) (pos 0) ∷ get_or xs (d - 2) (pos 0) ∷ tops xs (d - 2)
tops_two xs d h =
    let e : d ≡ suc (suc (d - 2)) = omega arith in
    let f : suc (d - 2) ≡ d - 1 = omega arith in
    ap (tops xs) e ∙ ap (λ n. get_or xs n (pos 0) ∷ get_or xs (d - 2) (pos 0) ∷ tops xs (d - 2)) f

pub drop_two : (xs : List ℤ) (d : ℕ) → 2 ≤ d → drop 2 (tops xs d) ≡ tops xs (d - 2)
drop_two xs d h = ap (drop 2) (tops_two xs d h)

pub tops_replace : (xs : List ℤ) (d : ℕ) (u v : ℤ) → 2 ≤ d → d ≤ length xs → u ≡ v → tops (set xs (d - 2) u) (d - 1) ≡ v ∷ drop 2 (tops xs d)
tops_replace xs d u v h len k =
    let lt : d - 2 < length xs = omega arith in
    let f : d - 1 ≡ (d - 2) + 1 = omega arith in
    ap (tops (set xs (d - 2) u)) f ∙ tops_push xs (d - 2) u v lt k ∙ ap (λ ys. v ∷ ys) (sym (drop_two xs d h))

-- a number that fits 32 bits, widened to 64
sfits_wide : (z : ℤ) → SFits w32 z → SFits w64 z
sfits_wide z h = record { sfits = omega (arith, h.sfits) }

pub widened : (z x : ℤ) → SFits w32 z → x ≡ to_z w32 (of_z w32 z) → to_z w64 (of_z w64 x) ≡ z
widened z x h e =
    let k : x ≡ z = e ∙ to_z-of_z w32 z h in
    rw k (to_z-of_z w64 z (sfits_wide z h))

pub word : (z : ℤ) → SFits w32 z → Word z
word (pos n) h = record { low = omega (arith, ints, h.sfits); high = omega (arith, ints, h.sfits) }
word (negsuc n) h = record { low = omega (arith, ints, h.sfits); high = omega (arith, ints, h.sfits) }

pub word_fits : (z : ℤ) → Word z → SFits w64 z
word_fits (pos n) h = record { sfits = omega (arith, ints, h.high) }
word_fits (negsuc n) h = record { sfits = omega (arith, ints, h.low) }

pub two : (xs : List ℤ) (d : ℕ) (x y : ℤ) → 2 ≤ d → SFits w32 (get_or xs (d - 2) (pos 0)) → SFits w32 (get_or xs (d - 1) (pos 0)) → x ≡ get_or xs (d - 2) (pos 0) → y ≡ get_or xs (d - 1) (pos 0) → Two (tops xs d) x y
two xs d x y h fx fy ex ey =
    record {
      words = tops_two xs d h ∙ (let e = sym (drop_two xs d h) in cc);
      left = subst Word (sym ex) (word _ fx);
      right = subst Word (sym ey) (word _ fy);
    }

pub tops_one : (xs : List ℤ) (d : ℕ) → 1 ≤ d → tops xs d ≡ get_or xs (d - 1) (pos 0) ∷ tops xs (d - 1)
tops_one xs d h = let e : d ≡ suc (d - 1) = omega arith in ap (tops xs) e

-- the test for one word more
pub space : (xs : List ℤ) (d : ℕ) → d < 68 → ltb (length (tops xs d)) 68 ≡ true
space xs d h = ap (λ n. ltb n 68) (length_tops xs d) ∙ grind (arith, nat_tests)

pub no_space : (xs : List ℤ) (d : ℕ) → 68 ≤ d → ltb (length (tops xs d)) 68 ≡ false
no_space xs d h = ap (λ n. ltb n 68) (length_tops xs d) ∙ grind (arith, nat_tests)

-- the word at a place from the top
pub no_word : (xs : List ℤ) (d k : ℕ) → d ≤ k → nth (tops xs d) k ≡ None
no_word xs zero k h = refl
no_word xs (suc d) zero h = let no_such : ⊥ = omega arith in absurd no_such
no_word xs (suc d) (suc k) h = no_word xs d k (omega arith)

a_word : (xs : List ℤ) (d k : ℕ) → k < d → nth (tops xs d) k ≡ Some (get_or xs (d - 1 - k) (pos 0))
a_word xs zero k h = let no_such : ⊥ = omega arith in absurd no_such
a_word xs (suc d) zero h = let e : d ≡ suc d - 1 - 0 = omega arith in ap (λ n. Some (get_or xs n (pos 0))) e
a_word xs (suc d) (suc k) h = let e : d - 1 - k ≡ suc d - 1 - suc k = omega arith in a_word xs d k (omega arith) ∙ ap (λ n. Some (get_or xs n (pos 0))) e

-- the same, as the last of the words below those above it
pub last_below : (xs : List ℤ) (d k : ℕ) → k ≤ d → d ≤ length xs → slice_get (take (d - k) xs) (length (take (d - k) xs) - 1) ≡ nth (tops xs d) k
last_below xs d k h l = elim (cases_lt k d) [
  | inl lt ↦ (
      let len = length-take-le (d - k) xs (omega arith) in
      let place : length (take (d - k) xs) - 1 ≡ d - 1 - k = omega (arith, len) in
      ap (slice_get (take (d - k) xs)) place ∙ slice_get-get_or (take (d - k) xs) (d - 1 - k) (pos 0) (omega (arith, len)) ∙ ap Some (get_or-take (d - k) xs (d - 1 - k) (pos 0) (omega arith)) ∙ sym (a_word xs d k lt))
  | inr ge ↦ (
      let len = length-take-le (d - k) xs (omega arith) in
      slice_get_past (take (d - k) xs) (length (take (d - k) xs) - 1) (omega (arith, len)) ∙ sym (no_word xs d k ge))
]
