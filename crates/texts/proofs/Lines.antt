-- Texts of lines.
use Rattle.std.proofs.Common.{◌≡◌, ℕ, zero, suc, ◌+◌, ◌-◌, ◌*◌, ◌/◌, ◌<◌, ◌≤◌, true, false, List, [], ◌∷◌, ◌++◌, length, take, drop, ℤ, pos, is_none, Some, None, Option, sym, refl, ap, ◌∙◌, subst, inl, inr, append_assoc, append-nil, add-one, arith, length-append, length-drop, length-take}
use Rattle.std.specs.Prelude.{IfSome, IsSomeAnd}
use Rattle.std.specs.Option.{option_map}
use Rattle.std.specs.List.{IsSubsliceAt}
use Rattle.std.specs.Slice.Iter.{chunk_count}
use denote.Ref.{Bor}
use Rattle.std.proofs.lemmas.List.{take-take, take_all, take_at, drop_at, drop-take, drop-drop, take-append-drop, length_push, get_or_append_left, get_or_push}
use Rattle.std.proofs.lemmas.Bool.{cases_lt}
use Rattle.lines.specs.Lines.{Word, line_of, number_in, Read}
use Rattle.lines.proofs.Numbers.{number_in_line}
use Rattle.lines.proofs.Reading.{line_long}
use Rattle.tapes.specs.Meaning.{Appended, filling_means}
use Rattle.texts.specs.Texts.{lines_of, readings, numbers_in, Words, Lines, FirstBad}

pub lines_of_append : (xs ys : List ℤ) → lines_of (xs ++ ys) ≡ lines_of xs ++ lines_of ys
lines_of_append [] ys = refl
lines_of_append (x ∷ xs) ys = ap (λ t. line_of x ++ t) (lines_of_append xs ys) ∙ sym (append_assoc (line_of x) (lines_of xs) (lines_of ys))

pub lines_of_push : (xs : List ℤ) (x : ℤ) → lines_of (xs ++ x ∷ []) ≡ lines_of xs ++ line_of x
lines_of_push xs x = lines_of_append xs (x ∷ []) ∙ ap (λ t. lines_of xs ++ t) (append-nil (line_of x))

-- one line more
pub readings_suc : (n : ℕ) (bs : List ℕ) → readings (suc n) bs ≡ readings n bs ++ number_in (take 12 (drop (12 * n) bs)) ∷ []
readings_suc zero bs = refl
readings_suc (suc n) bs =
    let e : 12 + 12 * n ≡ 12 * suc n = omega arith in
    ap (λ t. number_in (take 12 bs) ∷ t) (readings_suc n (drop 12 bs) ∙ ap (λ t. readings n (drop 12 bs) ++ number_in (take 12 t) ∷ []) (drop-drop (12 * n) 12 bs ∙ ap (λ k. drop k bs) e))

pub readings_more : (n : ℕ) (bs : List ℕ) → readings (n + 1) bs ≡ readings n bs ++ number_in (take 12 (drop (12 * n) bs)) ∷ []
readings_more n bs = ap (λ k. readings k bs) (add-one n) ∙ readings_suc n bs

pub readings_long : (n : ℕ) (bs : List ℕ) → length (readings n bs) ≡ n
readings_long zero bs = refl
readings_long (suc n) bs = ap suc (readings_long n (drop 12 bs))

-- lists of 32-bit numbers
pub words_push : (xs : List ℤ) (x : ℤ) → Words xs → Word x → Words (xs ++ x ∷ [])
words_push xs x w h k l =
    let n = length_push xs x in
    elim (cases_lt k (length xs)) [ inl lt ↦ subst Word (sym (get_or_append_left xs (x ∷ []) (pos 0) k lt)) (w k lt) | inr ge ↦ (let e : length xs ≡ k = omega arith in subst Word (sym (get_or_push xs x (pos 0) k e)) h) ]

pub words_rest : (x : ℤ) (xs : List ℤ) → Words (x ∷ xs) → Words xs
words_rest x xs w k l = w (suc k) (omega arith)

-- a line after n lines
pub line_more : (bs : List ℕ) (n : ℕ) (x : ℤ) → Word x → take 12 (drop (12 * n) bs) ≡ line_of x → readings (n + 1) bs ≡ readings n bs ++ x ∷ []
line_more bs n x h e = readings_more n bs ∙ ap (λ z. readings n bs ++ z ∷ []) (ap number_in e ∙ number_in_line x h)

pub take_lines : (bs : List ℕ) (n : ℕ) → take (12 * (n + 1)) bs ≡ take (12 * n) bs ++ take 12 (drop (12 * n) bs)
take_lines bs n =
    let s : 12 * n + 12 ≡ 12 * (n + 1) = omega arith in
    let le : 12 * n ≤ 12 * (n + 1) = omega arith in
    sym (take-append-drop (12 * n) (take (12 * (n + 1)) bs)) ∙ ap (λ t. t ++ drop (12 * n) (take (12 * (n + 1)) bs)) (take-take (12 * n) (12 * (n + 1)) bs le) ∙ ap (λ t. take (12 * n) bs ++ t) (sym (ap (λ k. drop (12 * n) (take k bs)) s) ∙ drop-take (12 * n) 12 bs)

pub text_more : (bs : List ℕ) (n : ℕ) (x : ℤ) → Word x → take 12 (drop (12 * n) bs) ≡ line_of x → lines_of (readings n bs) ≡ take (12 * n) bs → lines_of (readings (n + 1) bs) ≡ take (12 * (n + 1)) bs
text_more bs n x h e t =
    ap lines_of (line_more bs n x h e) ∙ lines_of_push (readings n bs) x ∙ ap (λ y. y ++ line_of x) t ∙ ap (λ y. take (12 * n) bs ++ y) (sym e) ∙ sym (take_lines bs n)

-- a text from its front

pub numbers_long : (bs : List ℕ) → 12 ≤ length bs → numbers_in bs ≡ number_in (take 12 bs) ∷ numbers_in (drop 12 bs)
numbers_long bs l =
    let d = length-drop 12 bs in
    ap (λ n. readings n bs) (let e : length bs / 12 ≡ suc (length (drop 12 bs) / 12) = omega arith in e)

pub record Front (bs : List ℕ) : Type 0 where
  pub word : Word (number_in (take 12 bs))
  pub line : take 12 bs ≡ line_of (number_in (take 12 bs))
  pub rest : Lines (drop 12 bs)

pub front : (bs : List ℕ) → 12 ≤ length bs → Lines bs → Front bs
front bs l b =
    let n = numbers_long bs l in
    let v = subst Words n b.words in
    let h : Word (number_in (take 12 bs)) = v 0 (omega arith) in
    let s = line_long (number_in (take 12 bs)) h in
    let u : line_of (number_in (take 12 bs)) ++ lines_of (numbers_in (drop 12 bs)) ≡ bs = sym (ap lines_of n) ∙ b.text in
    record {
      word = h;
      line = sym (ap (take 12) u) ∙ take_at (line_of (number_in (take 12 bs))) (lines_of (numbers_in (drop 12 bs))) 12 s;
      rest = record {
        text = sym (drop_at (line_of (number_in (take 12 bs))) (lines_of (numbers_in (drop 12 bs))) 12 s) ∙ ap (drop 12) u;
        words = words_rest (number_in (take 12 bs)) (numbers_in (drop 12 bs)) v;
      };
    }

pub taken_number : (bs : List ℕ) (x : ℤ) → 12 ≤ length bs → Word x → take 12 bs ≡ line_of x → numbers_in bs ≡ x ∷ numbers_in (drop 12 bs)
taken_number bs x l h e = numbers_long bs l ∙ ap (λ z. z ∷ numbers_in (drop 12 bs)) (ap number_in e ∙ number_in_line x h)

-- the text of some numbers has these numbers
pub numbers_of_lines : (zs : List ℤ) → Words zs → numbers_in (lines_of zs) ≡ zs
numbers_of_lines [] w = refl
numbers_of_lines (z ∷ zs) w =
    let h : Word z = w 0 (omega arith) in
    let s = line_long z h in
    let l : 12 ≤ length (line_of z ++ lines_of zs) = omega (arith, length-append (line_of z) (lines_of zs), s) in
    let d = drop_at (line_of z) (lines_of zs) 12 s in
    taken_number (line_of z ++ lines_of zs) z l h (take_at (line_of z) (lines_of zs) 12 s) ∙ ap (λ t. z ∷ t) (ap numbers_in d ∙ numbers_of_lines zs (words_rest z zs w))

-- a line written after others

pub record Longer (bs : List ℕ) (x : ℤ) : Type 0 where
  pub numbers : numbers_in (bs ++ line_of x) ≡ numbers_in bs ++ x ∷ []
  pub lines : Lines (bs ++ line_of x)

pub longer : (bs : List ℕ) (x : ℤ) → Lines bs → Word x → Longer bs x
longer bs x l h =
    let e : lines_of (numbers_in bs ++ x ∷ []) ≡ bs ++ line_of x = lines_of_push (numbers_in bs) x ∙ ap (λ t. t ++ line_of x) l.text in
    let w = words_push (numbers_in bs) x l.words h in
    let n : numbers_in (bs ++ line_of x) ≡ numbers_in bs ++ x ∷ [] = ap numbers_in (sym e) ∙ numbers_of_lines (numbers_in bs ++ x ∷ []) w in
    record { numbers = n; lines = record { text = ap lines_of n ∙ e; words = subst Words (sym n) w } }

pub put_appends : (bs : List ℕ) (left : ℕ) (x : ℤ) → Lines bs → Word x → (left ≡ 0 → ⊥) → Appended (filling_means (record { written = numbers_in bs; room = left })) x (filling_means (record { written = numbers_in (bs ++ line_of x); room = left - 1 }))
put_appends bs left x l h some =
    let n = (longer bs x l h).numbers in
    record {
      free = omega arith;
      written = n;
      lower = omega arith;
      pinch = refl;
      rests = omega (arith, ap length n, length_push (numbers_in bs) x);
    }

-- the first line that is none

pub words_more : (bs : List ℕ) (n : ℕ) (x : ℤ) → Word x → take 12 (drop (12 * n) bs) ≡ line_of x → Words (readings n bs) → Words (readings (n + 1) bs)
words_more bs n x h e w = subst Words (sym (line_more bs n x h e)) (words_push (readings n bs) x w h)

-- 12 bytes that are a number's line
abbrev pub IsLine : List ℕ → Type 0
IsLine b = (x : ℤ) × Word x × (b ≡ line_of x)

abbrev pub NoLine : List ℕ → Type 0
NoLine b = (z : ℤ) → Word z → b ≡ line_of z → ⊥

pub none_read : (b : List ℕ) (r : Option ℤ) → is_none r ≡ true → Read b r → NoLine b
none_read b None e h = h
none_read b (Some x) e h = absurd (grind arith)

pub some_read : (b : List ℕ) (r : Option ℤ) → is_none r ≡ false → Read b r → IsLine b
some_read b None e h = absurd (grind arith)
some_read b (Some x) e h = (x, h.0, h.1)

-- the first n lines are numbers' lines
pub record Before (bs : List ℕ) (n : ℕ) : Type 0 where
  pub far : 12 * n ≤ length bs
  pub text : lines_of (readings n bs) ≡ take (12 * n) bs
  pub words : Words (readings n bs)

before : (bs : List ℕ) (n : ℕ) → ((i : ℕ) → i < n → IsLine (take 12 (drop (12 * i) bs))) → Before bs n
before bs zero l = record { far = omega arith; text = refl; words = λ k h. absurd (omega arith) }
before bs (suc n) l =
    let b = before bs n (λ i h. l i (omega arith)) in
    let x = l n (omega arith) in
    let long = ap length x.2 ∙ line_long x.0 x.1 in
    let s : n + 1 ≡ suc n = omega arith in
    record {
      far = omega (arith, long, length-take 12 (drop (12 * n) bs), length-drop (12 * n) bs);
      text = subst (λ m. lines_of (readings m bs) ≡ take (12 * m) bs) s (text_more bs n x.0 x.1 x.2 b.text);
      words = subst (λ m. Words (readings m bs)) s (words_more bs n x.0 x.1 x.2 b.words);
    }

-- the chunks of 12 bytes

abbrev pub IsChunk : List ℕ → ℕ → ℕ → Bor (List ℕ) → Type 0
IsChunk bs size i x = (0 < length x.now) × (i * size < length bs) × IsSubsliceAt size bs (i * size) x.now

chunk : (P : List ℕ → Type 0) (Q : Bor (List ℕ) → Type 0) → ((x : Bor (List ℕ)) → Q x → P x.now) → (bs : List ℕ) (i : ℕ) (o : Option (Bor (List ℕ))) → IfSome o (λ x. IsChunk bs 12 i x) → IsSomeAnd o Q → (12 * i < length bs) × P (take 12 (drop (12 * i) bs))
chunk P Q f bs i None c h = absurd h
chunk P Q f bs i (Some x) c h =
    let e : i * 12 ≡ 12 * i = omega arith in
    (omega (arith, c.1), subst P (c.2.0 ∙ ap (λ k. take 12 (drop k bs)) e) (f x h))

there : (Q : Bor (List ℕ) → Type 0) (o : Option (Bor (List ℕ))) (x : Bor (List ℕ)) → option_map (λ y. y) o ≡ Some x → IfSome o Q → IsSomeAnd o Q
there Q None x e h = absurd (grind arith)
there Q (Some y) x e h = h

-- an answer of Yes says that a chunk is no line, and one of No that it is one
pub first_bad : (Yes No : Bor (List ℕ) → Type 0) → ((x : Bor (List ℕ)) → Yes x → NoLine x.now) → ((x : Bor (List ℕ)) → No x → IsLine x.now) → (bs rest : List ℕ) (size : ℕ) (at : ℕ → Option (Bor (List ℕ))) (n : ℕ) → rest ≡ bs → size ≡ 12 → ((i : ℕ) → IfSome (at i) (λ x. IsChunk rest size i x)) → IsSomeAnd (at n) Yes × ((i : ℕ) → i < n → IsSomeAnd (at i) No) → FirstBad bs (n + 1)
first_bad Yes No refused accepted bs rest size at n r s c found =
    let d : (i : ℕ) → IfSome (at i) (λ x. IsChunk bs 12 i x) = subst (λ k. (i : ℕ) → IfSome (at i) (λ x. IsChunk bs k i x)) s (subst (λ b. (i : ℕ) → IfSome (at i) (λ x. IsChunk b size i x)) r c) in
    let b = before bs n (λ i h. (chunk IsLine No accepted bs i (at i) (d i) (found.1 i h)).1) in
    let x = chunk NoLine Yes refused bs n (at n) (d n) found.0 in
    let e : n ≡ (n + 1) - 1 = omega arith in
    record {
      counted = omega arith;
      before = subst (λ k. lines_of (readings k bs) ≡ take (12 * k) bs) e b.text;
      words = subst (λ k. Words (readings k bs)) e b.words;
      inside = omega (arith, x.0);
      bad = subst (λ k. NoLine (take 12 (drop (12 * k) bs))) e x.1;
    }

pub all_lines : (No : Bor (List ℕ) → Type 0) → ((x : Bor (List ℕ)) → No x → IsLine x.now) → (bs rest : List ℕ) (size : ℕ) (at : ℕ → Option (Bor (List ℕ))) (n : ℕ) (d : ℕ → Bor (List ℕ)) → rest ≡ bs → size ≡ 12 → ((i : ℕ) → IfSome (at i) (λ x. IsChunk rest size i x)) → n ≡ chunk_count (length rest) size → ((i : ℕ) → i < n → option_map (λ y. y) (at i) ≡ Some (d i)) → ((i : ℕ) → IfSome (at i) No) → Lines bs
all_lines No accepted bs rest size at n d r s c all read good =
    let e : (i : ℕ) → IfSome (at i) (λ x. IsChunk bs 12 i x) = subst (λ k. (i : ℕ) → IfSome (at i) (λ x. IsChunk bs k i x)) s (subst (λ b. (i : ℕ) → IfSome (at i) (λ x. IsChunk b size i x)) r c) in
    let b = before bs n (λ i h. (chunk IsLine No accepted bs i (at i) (e i) (there No (at i) (d i) (read i h) (good i))).1) in
    let count : n ≡ chunk_count (length bs) 12 = all ∙ ap (λ k. chunk_count (length rest) k) s ∙ ap (λ b. chunk_count (length b) 12) r in
    let far = b.far in
    let near : length bs ≤ 12 * n = omega arith in
    let whole : n ≡ length bs / 12 = omega arith in
    record {
      text = sym (ap (λ k. lines_of (readings k bs)) whole) ∙ b.text ∙ take_all (12 * n) bs near;
      words = subst (λ k. Words (readings k bs)) whole b.words;
    }
