-- What is found at the front of a text is a token.
use Rattle.std.proofs.Common.{◌≡◌, ℕ, ◌+◌, ◌<◌, ◌≤◌, Bool, true, false, cond, ◌&&◌, ◌||◌, eqb, leb, List, [], ◌∷◌, ◌++◌, length, get_or, take, drop, Some, None, codes, Option, sym, refl, ap, ◌∙◌, subst, append_assoc, arith, length-append}
use Rattle.std.specs.List.{prefix_len}
use Rattle.std.proofs.lemmas.List.{take_at, drop_at, take-append-drop, get_or-take, length-take-le}
use Rattle.std.proofs.lemmas.List.Sums.{prefix_len-le-length}
use Rattle.std.proofs.lemmas.Bool.{and_from, le-leb, eq-eqb, true≢false}
use Rattle.syntax.specs.declared.token.Mark.TheVariants.{Head}
use Rattle.syntax.specs.Tokens as syntax
use Rattle.syntax.specs.Tokens.{Kind}
use Rattle.lexer.specs.Bytes.{digit, letter, word_byte, gap, begins}
use Rattle.lexer.specs.Scan.{symbols, value_of, zero_first, word_at, number_at, head_end, head_at, symbol_at, scanned}
use Rattle.lexer.specs.Tokens.{Starts, head, word, number, symbol, TokenAt}
use Rattle.lexer.proofs.Begins.{begins_front}
use Rattle.lexer.proofs.Runs.{run_all, run_stops, run_some}
use Rattle.lexer.proofs.Spellings.{FirstIf, first_sound}

abbrev pub Sound : List ℕ → Option (Kind × ℕ) → Type 0
Sound bs None = Unit {0}
Sound bs (Some x) = TokenAt bs x.0 x.1

-- a token's bytes, and what stands behind them
at_front : (bs w rest : List ℕ) (k : Kind) (n : ℕ) → bs ≡ w ++ rest → length w ≡ n → 0 < n → Starts k w rest → TokenAt bs k n
at_front bs w rest k n e long some s =
    let P : List ℕ → Type 0 = λ l. TokenAt l k n in
    let first : w ≡ take n (w ++ rest) = sym (take_at w rest n long) in
    let behind : rest ≡ drop n (w ++ rest) = sym (drop_at w rest n long) in
    subst P (sym e) record { some = some; fits = omega (arith, length-append w rest); starts = Starts-at (take n (w ++ rest)) (drop n (w ++ rest)) first behind }
  where
    Starts-at : (v r : List ℕ) → w ≡ v → rest ≡ r → Starts k v r
    Starts-at v r p q = let Q : List ℕ → Type 0 = λ l. Starts k l r in let R : List ℕ → Type 0 = λ l. Starts k w l in subst Q p (subst R q s)

letter_word : (b : ℕ) → letter b ≡ true → word_byte b ≡ true
letter_word b e = ap (λ t. t || digit b) e

-- the first byte of what is taken is the first byte
first_of : (b : ℕ) (bs : List ℕ) (n : ℕ) → 0 < n → get_or (take n (b ∷ bs)) 0 0 ≡ b
first_of b bs n some = get_or-take n (b ∷ bs) 0 0 some

word_sound : (b : ℕ) (bs : List ℕ) → letter b ≡ true → Sound (b ∷ bs) (word_at (b ∷ bs))
word_sound b bs e =
    let some = run_some word_byte b bs (letter_word b e) in
    record {
      some = some;
      fits = prefix_len-le-length word_byte (b ∷ bs);
      starts = word record { kind = refl; first = ap letter (first_of b bs (prefix_len word_byte (b ∷ bs)) some) ∙ e; all = run_all word_byte (b ∷ bs); full = run_stops word_byte (b ∷ bs) };
    }

number_sound : (b : ℕ) (bs : List ℕ) → digit b ≡ true → Sound (b ∷ bs) (number_at (b ∷ bs))
number_sound b bs e = at (zero_first (b ∷ bs)) refl
  where
    some : 0 < prefix_len digit (b ∷ bs)
    some = run_some digit b bs e

    fits : prefix_len digit (b ∷ bs) ≤ length (b ∷ bs)
    fits = prefix_len-le-length digit (b ∷ bs)

    at : (t : Bool) → zero_first (b ∷ bs) ≡ t → Sound (b ∷ bs) (cond t None (Some (syntax.number (value_of (take (prefix_len digit (b ∷ bs)) (b ∷ bs))), prefix_len digit (b ∷ bs))))
    at true z = tt
    at false z =
        record {
          some = some;
          fits = fits;
          starts =
              number
              record {
                kind = refl;
                some = omega (arith, length-take-le (prefix_len digit (b ∷ bs)) (b ∷ bs) fits, some);
                all = run_all digit (b ∷ bs);
                first =
                    λ two zero.
                    true≢false
                    (sym
                    (and_from (leb 2 (prefix_len digit (b ∷ bs))) (eqb b 48 && true) (le-leb 2 (prefix_len digit (b ∷ bs)) (omega (arith, length-take-le (prefix_len digit (b ∷ bs)) (b ∷ bs) fits, two)))
                    (and_from (eqb b 48) true (eq-eqb b 48 (sym (first_of b bs (prefix_len digit (b ∷ bs)) some) ∙ zero)) refl))
                    ∙ z);
                full = run_stops digit (b ∷ bs);
              };
        }

head_sound : (text : List ℕ) → Sound text (head_at text)
head_sound text = at (begins (codes "#include") text) refl
  where
    file : (t : Bool) → begins (codes "#include") text ≡ true → begins (codes "<stdio.h>") (drop (prefix_len gap (drop 8 text)) (drop 8 text)) ≡ t → Sound text (cond t (Some (syntax.mark Head, 17 + prefix_len gap (drop 8 text))) None)
    file false i f = tt
    file true i f =
        let behind : List ℕ = drop 8 text in
        let n : ℕ = prefix_len gap (drop 8 text) in
        let gaps : List ℕ = take (prefix_len gap (drop 8 text)) (drop 8 text) in
        let rest : List ℕ = drop 9 (drop (prefix_len gap (drop 8 text)) (drop 8 text)) in
        let whole : text ≡ (codes "#include" ++ (gaps ++ codes "<stdio.h>")) ++ rest =
        begins_front (codes "#include") text i
        ∙ ap (λ l. codes "#include" ++ l) (sym (take-append-drop n behind) ∙ ap (λ l. gaps ++ l) (begins_front (codes "<stdio.h>") (drop n behind) f) ∙ sym (append_assoc gaps (codes "<stdio.h>") rest)) in
        let long : length (codes "#include" ++ (gaps ++ codes "<stdio.h>")) ≡ 17 + n =
        omega (arith, length-append gaps (codes "<stdio.h>"), length-take-le n behind (prefix_len-le-length gap behind)) in
        at_front text (codes "#include" ++ (gaps ++ codes "<stdio.h>")) rest (syntax.mark Head) (17 + n) whole long (omega arith) (head record { gaps = gaps; kind = refl; all = run_all gap behind; bytes = refl })

    at : (t : Bool) → begins (codes "#include") text ≡ t → Sound text (cond t (head_end (prefix_len gap (drop 8 text)) (drop 8 text)) None)
    at true i = file (begins (codes "<stdio.h>") (drop (prefix_len gap (drop 8 text)) (drop 8 text))) i refl
    at false i = tt

symbol_found : (bs : List ℕ) (o : Option (Kind × ℕ)) → FirstIf symbols bs o → Sound bs o
symbol_found bs None h = tt
symbol_found bs (Some x) h =
    let parts = begins_front h.bytes bs h.front in
    at_front bs h.bytes (drop (length h.bytes) bs) x.0 x.1 parts h.long h.some
    (symbol record { listed = h.listed; longest = λ s l b. omega (arith, h.longest s l (ap (begins s.0) parts ∙ b), h.long) })

symbol_sound : (bs : List ℕ) → Sound bs (symbol_at bs)
symbol_sound bs = symbol_found bs (symbol_at bs) (first_sound symbols bs refl)

pub scanned_sound : (bs : List ℕ) → Sound bs (scanned bs)
scanned_sound [] = tt
scanned_sound (b ∷ bs) = at (letter b) (digit b) (eqb b 35) refl refl
  where
    at : (l d h : Bool) → letter b ≡ l → digit b ≡ d → Sound (b ∷ bs) (cond l (word_at (b ∷ bs)) (cond d (number_at (b ∷ bs)) (cond h (head_at (b ∷ bs)) (symbol_at (b ∷ bs)))))
    at true d h e f = word_sound b bs e
    at false true h e f = number_sound b bs f
    at false false true e f = head_sound (b ∷ bs)
    at false false false e f = symbol_sound (b ∷ bs)
