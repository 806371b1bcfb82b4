-- Division rounds down, by the signs of its operands.
use Rattle.std.proofs.Common.{◌≡◌, ℕ, zero, suc, ◌+◌, ◌-◌, ◌*◌, ◌/◌, ◌%◌, ◌<◌, ◌≤◌, false, ltb, ℤ, pos, negsuc, ◌+ℤ◌, ◌*ℤ◌, neg_ℤ, sym, refl, ap, ◌∙◌, subst, mod-lt, mul-zero, mul-suc, arith, le→leb, lt→ltb}
use Rattle.std.proofs.lemmas.Bool.{cond-true, cond-false, lt-ltb, le-ltb}
use native.Mathlib.Nat.{div-add-mod}
use lib.IntN.{sub_ℕ, -ℤ-+ℤ_cancel, neg_ℤ-neg_ℤ}
use lib.Signed.{le_z_yes, lt_z_yes}
use Rattle.code.specs.Division.{quotient, remainder, is_zero, Nearer, RoundsDown}

-- a difference of naturals, by which is the larger
sub_up : (a b : ℕ) → b ≤ a → sub_ℕ a b ≡ pos (a - b)
sub_up a b h = cond-false (ltb a b) (negsuc (b - suc a)) (pos (a - b)) (le-ltb a b h)

neg_of : (a b k : ℕ) → b ≡ a + k → sub_ℕ a b ≡ neg_ℤ (pos k)
neg_of a b zero e = sub_up a b (omega arith) ∙ (let z : a - b ≡ 0 = omega arith in ap pos z)
neg_of a b (suc k) e =
    cond-true (ltb a b) (negsuc (b - suc a)) (pos (a - b)) (lt-ltb a b (omega arith))
    ∙ (let z : b - suc a ≡ k = omega arith in ap negsuc z)

pos_minus : (a b : ℕ) → pos a +ℤ neg_ℤ (pos b) ≡ sub_ℕ a b
pos_minus a zero = (let z : a + 0 ≡ a - 0 = omega arith in ap pos z) ∙ sym (sub_up a 0 (omega arith))
pos_minus a (suc b) = refl

-- remainders from naturals
up : (n k : ℕ) (r : ℤ) → k < suc n → r ≡ pos k → Nearer (pos (suc n)) r
up n k r h e = subst (λ (z : ℤ). Nearer (pos (suc n)) z) (sym e) (le_z_yes (le→leb 0 k (omega arith)), lt_z_yes (lt→ltb k (suc n) h))

down_is : (n k : ℕ) → k < suc n → Nearer (negsuc n) (neg_ℤ (pos k))
down_is n zero h = (lt_z_yes tt, le_z_yes tt)
down_is n (suc k) h = (lt_z_yes (lt→ltb k n (omega arith)), le_z_yes tt)

down : (n k : ℕ) (r : ℤ) → k < suc n → r ≡ neg_ℤ (pos k) → Nearer (negsuc n) r
down n k r h e = subst (λ (z : ℤ). Nearer (negsuc n) z) (sym e) (down_is n k h)

nearer : (a b : ℤ) → is_zero b ≡ false → Nearer b (remainder a b)
nearer a (pos zero) e = cc
nearer (pos a) (pos (suc n)) e =
    let d : suc n * (a / suc n) + a % suc n ≡ a = div-add-mod a (suc n) in
    let y : ℕ = suc n * (a / suc n) in
    let z : a - y ≡ a % suc n = omega arith in
    up n (a % suc n) _ (mod-lt a (omega arith)) (pos_minus a y ∙ sub_up a y (omega arith) ∙ ap pos z)
nearer (negsuc a) (pos (suc n)) e =
    let d : suc n * (a / suc n) + a % suc n ≡ a = div-add-mod a (suc n) in
    let l : a % suc n < suc n = mod-lt a (omega arith) in
    let y : ℕ = suc n * suc (a / suc n) in
    let s : y ≡ suc n * (a / suc n) + suc n = mul-suc (suc n) (a / suc n) in
    let h : suc a ≤ y = omega arith in
    up n (y - suc a) _ (omega arith) (ap (λ (z : ℤ). negsuc a +ℤ z) (neg_ℤ-neg_ℤ (pos y)) ∙ sub_up y (suc a) h)
nearer (pos zero) (negsuc n) e =
    down n 0 _ (omega arith) (ap (λ (z : ℕ). pos 0 +ℤ neg_ℤ (neg_ℤ (pos z))) (mul-zero (suc n)))
nearer (pos (suc a)) (negsuc n) e =
    let d : suc n * (a / suc n) + a % suc n ≡ a = div-add-mod a (suc n) in
    let l : a % suc n < suc n = mod-lt a (omega arith) in
    let y : ℕ = suc n * suc (a / suc n) in
    let s : y ≡ suc n * (a / suc n) + suc n = mul-suc (suc n) (a / suc n) in
    down n (y - suc a) _ (omega arith) (pos_minus (suc a) y ∙ neg_of (suc a) y (y - suc a) (omega arith))
nearer (negsuc a) (negsuc n) e =
    let d : suc n * (suc a / suc n) + suc a % suc n ≡ suc a = div-add-mod (suc a) (suc n) in
    let l : suc a % suc n < suc n = mod-lt (suc a) (omega arith) in
    let y : ℕ = suc n * (suc a / suc n) in
    down n (suc a % suc n) _ l
    (ap (λ (z : ℤ). negsuc a +ℤ z) (neg_ℤ-neg_ℤ (pos y)) ∙ neg_of y (suc a) (suc a % suc n) (omega arith))

pub rounds_down : RoundsDown
rounds_down a b e = (-ℤ-+ℤ_cancel a (b *ℤ quotient a b), nearer a b e)
