-- A line as it is read.
use Rattle.std.proofs.Common.{◌≡◌, ℕ, zero, suc, ◌+◌, ◌-◌, ◌*◌, ◌^◌, ◌<◌, ◌≤◌, ◌⊎◌, List, [], ◌∷◌, ◌++◌, length, get_or, take, drop, replicate, ℤ, pos, negsuc, decimal, sym, refl, ap, ◌∙◌, subst, inl, inr, arith}
use native.Mathlib.Nat.{pow-le-pow_right}
use Rattle.std.specs.Fmt.{signed_decimal}
use Rattle.std.specs.Str.Parse.{digits_value, AllDigits}
use Rattle.std.specs.Int.{IsInRange}
use Rattle.std.proofs.lemmas.Int.Digits.{digits_value-lt, digits_value_more, digits_more}
use Rattle.std.proofs.lemmas.Str.{digit_value_digit}
use Rattle.std.proofs.lemmas.Str.Parse.{IsNumeralModel, numerals_by_value, tells_digits, digit_at}
use Rattle.std.proofs.lemmas.Fmt.{decimal_nonempty, decimal_digit, first_decimal, digits_decimal, decimal-digits_value, decimal_injective, length_signed_le}
use Rattle.std.proofs.lemmas.List.{take_all, take_more, drop_at, drop_more, get_or-drop, get_or-take, get_or-replicate, get_or_append_left, get_or_at, get_or-append_right, same_from_push, length-append, length-replicate, length-take, length-drop}
use Rattle.std.proofs.lemmas.Bool.{cases_lt}
use Rattle.lines.specs.Lines.{Word, line_of, Padded}
use Rattle.lines.proofs.Writing.{whole_line}

own : IsNumeralModel (AllDigits 10) (digits_value 10)
own = numerals_by_value (AllDigits 10) tells_digits

-- digits of a number

pub some_digit : (ds : List ℕ) → length ds ≡ 0 → (n : ℕ) → n < 2 ^ 64 → ds ≡ decimal n → ⊥
some_digit ds z n h e = omega (arith, decimal_nonempty n h, ap length e)

pub no_zero_first : (ds : List ℕ) → 1 < length ds → get_or ds 0 0 ≡ 48 → (n : ℕ) → n < 2 ^ 64 → ds ≡ decimal n → ⊥
no_zero_first ds l f zero h e = omega (arith, ap length (e ∙ decimal_digit 0 (omega arith)))
no_zero_first ds l f (suc n) h e = omega (arith, first_decimal (suc n) (omega arith) h, ap (λ t. get_or t 0 0) e)

pub only_digits : (ds : List ℕ) (i : ℕ) → i < length ds → (IsInRange 48 57 (get_or ds i 0) → ⊥) → (n : ℕ) → n < 2 ^ 64 → ds ≡ decimal n → ⊥
only_digits ds i l f n h e = f (digit_at ds i (subst (AllDigits 10) (sym e) (digits_decimal own n h)) l)

pub value_few : (ds : List ℕ) → AllDigits 10 ds → length ds ≤ 11 → digits_value 10 ds < 10 ^ 11
value_few ds d l = omega (arith, digits_value-lt 10 ds d, pow-le-pow_right {n = 10} (omega arith) l)

pub numeral_is : (ds : List ℕ) → AllDigits 10 ds → length ds ≤ 11 → 0 < length ds → (1 < length ds → get_or ds 0 0 ≡ 48 → ⊥) → (digits_value 10 ds < 2 ^ 64) × (ds ≡ decimal (digits_value 10 ds))
numeral_is ds d l some f =
    let v = value_few ds d l in
    (omega arith, sym (decimal-digits_value own ds d some (λ e. let k = f in grind arith) (omega arith)))

-- one more digit
pub digit_more : (ds : List ℕ) (i n d : ℕ) → i < length ds → AllDigits 10 (take i ds) → n ≡ digits_value 10 (take i ds) → IsInRange 48 57 (get_or ds i 0) → d ≡ get_or ds i 0 - 48 → AllDigits 10 (take (i + 1) ds) × (10 * n + d ≡ digits_value 10 (take (i + 1) ds))
digit_more ds i n d l h e t f =
    let v = digit_value_digit (get_or ds i 0) t in
    (digits_more 10 ds i l h (omega arith), omega (arith, digits_value_more 10 ds i l))

pub value_early : (ds : List ℕ) (i n : ℕ) → length ds ≤ 11 → AllDigits 10 (take i ds) → n ≡ digits_value 10 (take i ds) → n < 10 ^ 11
value_early ds i n l h e = omega (arith, value_few (take i ds) h (omega (arith, length-take i ds)))

pub numeral_all : (ds : List ℕ) (i n : ℕ) → AllDigits 10 (take i ds) → n ≡ digits_value 10 (take i ds) → length ds ≤ i → length ds ≤ 11 → 0 < length ds → (1 < length ds → get_or ds 0 0 ≡ 48 → ⊥) → (n < 2 ^ 64) × (ds ≡ decimal n)
numeral_all ds i n h e a l some f =
    let t = take_all i ds a in
    let r = numeral_is ds (rw t at h) l some f in
    let v : n ≡ digits_value 10 ds = e ∙ ap (digits_value 10) t in
    (omega (arith, r.0), r.1 ∙ ap decimal (sym v))

-- the columns from the first byte that is no space

pub columns : (bs : List ℕ) (s : ℕ) → length bs ≡ 12 → get_or bs 11 0 ≡ 10 → s ≤ 11 → drop s bs ≡ take (11 - s) (drop s bs) ++ 10 ∷ []
columns bs s l t h =
    let d = length-drop s bs in
    let m = take_more (drop s bs) (11 - s) 0 (omega arith) in
    let a = take_all (11 - s + 1) (drop s bs) (omega arith) in
    let g = get_or-drop s bs (11 - s) 0 in
    let e : s + (11 - s) ≡ 11 = omega arith in
    sym a ∙ m ∙ ap (λ b. take (11 - s) (drop s bs) ++ b ∷ []) (g ∙ ap (λ k. get_or bs k 0) e ∙ t)

pub after_minus : (bs : List ℕ) (s : ℕ) → length bs ≡ 12 → s < 11 → get_or bs s 0 ≡ 45 → take (11 - s) (drop s bs) ≡ 45 ∷ take (11 - (s + 1)) (drop (s + 1) bs)
after_minus bs s l h t =
    let d = drop_more bs s 0 (omega arith) in
    let e : 11 - s ≡ suc (11 - (s + 1)) = omega arith in
    ap (λ k. take k (drop s bs)) e ∙ ap (take (suc (11 - (s + 1)))) d ∙ ap (λ b. b ∷ take (11 - (s + 1)) (drop (s + 1) bs)) t

first_digit : (n : ℕ) → n < 2 ^ 64 → 48 ≤ get_or (decimal n) 0 0
first_digit n h = (digit_at (decimal n) 0 (digits_decimal own n h) (decimal_nonempty n h)).0

pub first_signed : (z : ℤ) → Word z → (0 < length (signed_decimal z)) × (get_or (signed_decimal z) 0 0 ≡ 32 → ⊥)
first_signed (pos n) h = (decimal_nonempty n (omega arith), λ e. omega (arith, first_digit n (omega arith)))
first_signed (negsuc n) h = (omega arith, λ e. omega arith)

pub length_signed : (z : ℤ) → Word z → length (signed_decimal z) ≤ 11
length_signed z h = length_signed_le 10 z (omega arith) (omega arith)

-- the spaces of a number's line
pub spaces_are : (z : ℤ) (s : ℕ) → Word z → Padded (line_of z) s → s ≡ 11 - length (signed_decimal z)
spaces_are z s h b =
    let f = first_signed z h in
    let l = length_signed z h in
    let at_k : get_or (line_of z) (11 - length (signed_decimal z)) 0 ≡ get_or (signed_decimal z) 0 0 =
    get_or-append_right (replicate (11 - length (signed_decimal z)) 32) (signed_decimal z ++ 10 ∷ []) (11 - length (signed_decimal z)) (11 - length (signed_decimal z)) 0 (length-replicate (11 - length (signed_decimal z)) 32) (omega arith)
    ∙ ap (λ j. get_or (signed_decimal z ++ 10 ∷ []) j 0) (let e : (11 - length (signed_decimal z)) - (11 - length (signed_decimal z)) ≡ 0 = omega arith in e)
    ∙ get_or_append_left (signed_decimal z) (10 ∷ []) 0 0 f.0 in
    let low : (s < 11 - length (signed_decimal z)) → ⊥ = λ lt. b.stops (omega arith) (get_or_append_left (replicate (11 - length (signed_decimal z)) 32) (signed_decimal z ++ 10 ∷ []) 0 s (rw length-replicate lt) ∙ get_or-replicate (11 - length (signed_decimal z)) s 32 0 lt) in
    let high : (11 - length (signed_decimal z) < s) → ⊥ = λ lt. f.1 (sym at_k ∙ sym (get_or-take s (line_of z) (11 - length (signed_decimal z)) 0 lt) ∙ ap (λ t. get_or t (11 - length (signed_decimal z)) 0) b.blank ∙ get_or-replicate s (11 - length (signed_decimal z)) 32 0 lt) in
    grind arith

-- the columns of a number's line hold the number
pub columns_are : (z : ℤ) (bs : List ℕ) (s : ℕ) → Word z → Padded bs s → bs ≡ line_of z → take (11 - s) (drop s bs) ≡ signed_decimal z
columns_are z bs s h b e =
    let s_is = spaces_are z s h (subst (λ x. Padded x s) e b) in
    let d : drop s bs ≡ signed_decimal z ++ 10 ∷ [] = ap (drop s) e ∙ drop_at (replicate (11 - length (signed_decimal z)) 32) (signed_decimal z ++ 10 ∷ []) s (length-replicate (11 - length (signed_decimal z)) 32 ∙ sym s_is) in
    (same_from_push _ _ _ _ (sym (columns bs s b.long b.end b.few) ∙ d)).0

-- length and end of a number's line
pub line_long : (z : ℤ) → Word z → length (line_of z) ≡ 12
line_long z h = let l = length_signed z h in simp (length-append, length-replicate) (omega arith)

pub line_end : (z : ℤ) → Word z → get_or (line_of z) 11 0 ≡ 10
line_end z h =
    let l = length_signed z h in
    get_or-append_right (replicate (11 - length (signed_decimal z)) 32) (signed_decimal z ++ 10 ∷ []) (11 - length (signed_decimal z)) 11 0 (length-replicate (11 - length (signed_decimal z)) 32) (omega arith)
    ∙ get_or_at (signed_decimal z) 10 [] 0 (11 - (11 - length (signed_decimal z))) (omega arith)

pub minus_digits : (bs : List ℕ) (s : ℕ) → Padded bs s → get_or bs s 0 ≡ 45 → s < 11 → (z : ℤ) → Word z → bs ≡ line_of z → (m : ℕ) × (z ≡ negsuc m) × (take (11 - (s + 1)) (drop (s + 1) bs) ≡ decimal (suc m))
minus_digits bs s p t l (pos n) h e =
    let c = columns_are (pos n) bs s h p e in
    let f = first_digit n (omega arith) in
    let g : 45 ≡ get_or (decimal n) 0 0 = ap (λ x. get_or x 0 0) (sym (after_minus bs s p.long l t) ∙ c) in
    absurd (omega arith)
minus_digits bs s p t l (negsuc m) h e =
    let c = columns_are (negsuc m) bs s h p e in
    (m, refl, ap (drop 1) (sym (after_minus bs s p.long l t) ∙ c))

pub plain_digits : (bs : List ℕ) (s : ℕ) → Padded bs s → (get_or bs s 0 ≡ 45 → ⊥) → (z : ℤ) → Word z → bs ≡ line_of z → (n : ℕ) × (z ≡ pos n) × (take (11 - s) (drop s bs) ≡ decimal n)
plain_digits bs s p t (pos n) h e = (n, refl, columns_are (pos n) bs s h p e)
plain_digits bs s p t (negsuc m) h e =
    let c = columns_are (negsuc m) bs s h p e in
    let few : s < 11 = omega (arith, p.few, length-take (11 - s) (drop s bs), ap length c) in
    let g : get_or (drop s bs) 0 0 ≡ 45 = sym (get_or-take (11 - s) (drop s bs) 0 0 (omega arith)) ∙ ap (λ x. get_or x 0 0) c in
    let k : s + 0 ≡ s = omega arith in
    absurd (t (sym (get_or-drop s bs 0 0 ∙ ap (λ i. get_or bs i 0) k) ∙ g))

pub early : (bs : List ℕ) (s : ℕ) → Padded bs s → get_or bs s 0 ≡ 45 → s < 11
early bs s p t = elim (cases_lt s 11) [ inl l ↦ l | inr g ↦ (let e : s ≡ 11 = omega (arith, p.few) in let x : ◌≡◌ {A = ℕ} 45 10 = sym t ∙ ap (λ i. get_or bs i 0) e ∙ p.end in omega arith) ]

-- each way that reading ends

pub no_minus : (bs : List ℕ) (s : ℕ) → Padded bs s → get_or bs s 0 ≡ 45 → s < 11 → ((n : ℕ) → n < 2 ^ 64 → take (11 - (s + 1)) (drop (s + 1) bs) ≡ decimal n → ⊥) → (z : ℤ) → Word z → bs ≡ line_of z → ⊥
no_minus bs s p t l f z h e =
    let d = minus_digits bs s p t l z h e in
    let w : Word (negsuc d.0) = subst Word d.1 h in
    f (suc d.0) (omega arith) d.2

pub far_minus : (bs : List ℕ) (s n : ℕ) → Padded bs s → get_or bs s 0 ≡ 45 → s < 11 → n < 2 ^ 64 → take (11 - (s + 1)) (drop (s + 1) bs) ≡ decimal n → (n ≡ 0) ⊎ (2 ^ 31 < n) → (z : ℤ) → Word z → bs ≡ line_of z → ⊥
far_minus bs s n p t l f k o z h e =
    let d = minus_digits bs s p t l z h e in
    let w : Word (negsuc d.0) = subst Word d.1 h in
    let same = decimal_injective n (suc d.0) f (omega arith) (sym k ∙ d.2) in
    grind arith

pub minus_is : (bs : List ℕ) (s n : ℕ) (z : ℤ) → Padded bs s → get_or bs s 0 ≡ 45 → s < 11 → take (11 - (s + 1)) (drop (s + 1) bs) ≡ decimal n → 0 < n → n ≤ 2 ^ 31 → z ≡ negsuc (n - 1) → Word z × (bs ≡ line_of z)
minus_is bs s n z p t l k o h v =
    let e : suc (n - 1) ≡ n = omega arith in
    let w : Word (negsuc (n - 1)) = omega arith in
    let is = whole_line (negsuc (n - 1)) s bs p.long p.blank (columns bs s p.long p.end p.few ∙ ap (λ x. x ++ 10 ∷ []) (after_minus bs s p.long l t ∙ ap (λ x. 45 ∷ x) (k ∙ ap decimal (sym e)))) p.few in
    (subst Word (sym v) w, is ∙ ap line_of (sym v))

pub no_plain : (bs : List ℕ) (s : ℕ) → Padded bs s → (get_or bs s 0 ≡ 45 → ⊥) → ((n : ℕ) → n < 2 ^ 64 → take (11 - s) (drop s bs) ≡ decimal n → ⊥) → (z : ℤ) → Word z → bs ≡ line_of z → ⊥
no_plain bs s p t f z h e =
    let d = plain_digits bs s p t z h e in
    let w : Word (pos d.0) = subst Word d.1 h in
    f d.0 (omega arith) d.2

pub far_plain : (bs : List ℕ) (s n : ℕ) → Padded bs s → (get_or bs s 0 ≡ 45 → ⊥) → n < 2 ^ 64 → take (11 - s) (drop s bs) ≡ decimal n → 2 ^ 31 ≤ n → (z : ℤ) → Word z → bs ≡ line_of z → ⊥
far_plain bs s n p t f k o z h e =
    let d = plain_digits bs s p t z h e in
    let w : Word (pos d.0) = subst Word d.1 h in
    let same = decimal_injective n d.0 f (omega arith) (sym k ∙ d.2) in
    omega arith

pub plain_is : (bs : List ℕ) (s n : ℕ) (z : ℤ) → Padded bs s → take (11 - s) (drop s bs) ≡ decimal n → n < 2 ^ 31 → z ≡ pos n → Word z × (bs ≡ line_of z)
plain_is bs s n z p k h v =
    let is = whole_line (pos n) s bs p.long p.blank (columns bs s p.long p.end p.few ∙ ap (λ x. x ++ 10 ∷ []) k) p.few in
    (subst Word (sym v) h, is ∙ ap line_of (sym v))
