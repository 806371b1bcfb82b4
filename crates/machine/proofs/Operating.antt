-- Operations on two words, and what fits 64 bits.
use Rattle.std.proofs.Common.{◌≡◌, ℕ, zero, suc, ◌+◌, ◌*◌, ◌^◌, ◌≤◌, List, [], ◌∷◌, Option, Result, refl, ℤ, pos, negsuc, ◌*ℤ◌, neg_ℤ, ◌∙◌, mul-le-mul, arith, w64, SFits, to_z, of_z}
use borrow.Author.Differences.{ints}
use lib.Signed.{mag}
use Rattle.std.proofs.lemmas.Int.{to_z-of_z}
use Rattle.code.specs.World.{World}
use Rattle.code.specs.Machine.{pop_two, division}
use Rattle.tapes.specs.Meaning.{Meaning}
use Rattle.machine.specs.declared.fault.Cause.{Cause}
use Rattle.machine.specs.declared.run.Memory.{Memory}
use Rattle.machine.specs.Closures.{divided, operation}
use Rattle.machine.specs.View.{world_of, Word, Did}
use Rattle.machine.proofs.Stacks.{word_fits}

mag_neg : (n : ℕ) → mag (neg_ℤ (pos n)) ≤ n
mag_neg zero = omega arith
mag_neg (suc n) = omega arith

-- a product of numbers of about 31 bits
product : (a b : ℕ) → a ≤ 2 ^ 31 + 1 → b ≤ 2 ^ 31 + 1 → a * b ≤ 2 ^ 62 + 2 ^ 33
product a b h k = let l : a * b ≤ (2 ^ 31 + 1) * (2 ^ 31 + 1) = mul-le-mul h k in omega arith

product_mag : (x y : ℤ) → mag x ≤ 2 ^ 31 → mag y ≤ 2 ^ 31 → mag (x *ℤ y) ≤ 2 ^ 62 + 2 ^ 33
product_mag (pos a) (pos b) h k = product a b (omega arith) (omega arith)
product_mag (pos a) (negsuc b) h k =
    let l = product a (suc b) (omega arith) (omega arith) in let m = mag_neg (a * suc b) in omega (arith, l, m)
product_mag (negsuc a) (pos b) h k =
    let l = product (suc a) b (omega arith) (omega arith) in let m = mag_neg (suc a * b) in omega (arith, l, m)
product_mag (negsuc a) (negsuc b) h k = product (suc a) (suc b) (omega arith) (omega arith)

product_fits : (x y : ℤ) → mag x ≤ 2 ^ 31 → mag y ≤ 2 ^ 31 → SFits w64 (x *ℤ y)
product_fits x y h k = record { sfits = omega (arith, product_mag x y h k) }

word_mag : (z : ℤ) → Word z → mag z ≤ 2 ^ 31
word_mag (pos n) h = omega (arith, ints, h.high)
word_mag (negsuc n) h = omega (arith, ints, h.low)

-- the product of two words, widened first
pub multiplied : (x y : ℤ) → Word x → Word y → SFits w64 (to_z w64 (of_z w64 x) *ℤ to_z w64 (of_z w64 y)) × (to_z w64 (of_z w64 (to_z w64 (of_z w64 x) *ℤ to_z w64 (of_z w64 y))) ≡ x *ℤ y)
multiplied x y hx hy =
    let ex : to_z w64 (of_z w64 x) ≡ x = to_z-of_z w64 x (word_fits x hx) in
    let ey : to_z w64 (of_z w64 y) ≡ y = to_z-of_z w64 y (word_fits y hy) in
    let f : SFits w64 (x *ℤ y) = product_fits x y (word_mag x hx) (word_mag y hy) in
    rw (ex, ey) (f, to_z-of_z w64 (x *ℤ y) f)

-- a division as an operation that may refuse
divides : (a : ℕ) (st : List ℤ) (w : World) (narrow : ℤ → Option ℤ) (g : ℤ → ℤ → ℤ) → pop_two st w (λ x y r. division a r w y (narrow (g x y))) ≡ operation a st w narrow (divided g)
divides a [] w narrow g = refl
divides a (y ∷ []) w narrow g = refl
divides a (pos zero ∷ x ∷ st) w narrow g = refl
divides a (pos (suc n) ∷ x ∷ st) w narrow g = refl
divides a (negsuc n ∷ x ∷ st) w narrow g = refl

pub did_divide : {U I O X : Type 0} (waiting : I → List ℤ) (means : O → Meaning) (narrow : ℤ → Option ℤ) (g : ℤ → ℤ → ℤ) (address : ℕ) (m : Memory U I O) {r : Result X Cause} {n : Memory U I O} → Did waiting means (operation address m.stack (world_of waiting means m) narrow (divided g)) address m r n → Did waiting means (pop_two m.stack (world_of waiting means m) (λ x y r. division address r (world_of waiting means m) y (narrow (g x y)))) address m r n
did_divide waiting means narrow g address m d = record { effect = divides address m.stack (world_of waiting means m) narrow g ∙ d.effect; stays = d.stays; rests = d.rests }
