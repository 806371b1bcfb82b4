-- The lexemes of a text are those that it reads as.
use Rattle.std.proofs.Common.{◌≡◌, ℕ, zero, suc, ◌+◌, ◌-◌, ◌<◌, ◌≤◌, Bool, true, false, cond, List, [], ◌∷◌, ◌++◌, length, take, drop, Some, None, Option, sym, refl, ap, ◌∙◌, subst, add-zero, arith, length-drop}
use Rattle.std.proofs.lemmas.List.{take-append-drop, length-take-le}
use Rattle.std.proofs.lemmas.Bool.{lt-ltb}
use Rattle.syntax.specs.Tokens.{Kind}
use Rattle.lexer.specs.Bytes as bytes
use Rattle.lexer.specs.Scan.{scanned}
use Rattle.lexer.specs.Tokens.{TokenAt}
use Rattle.lexer.specs.Lex.{Lexeme, lexeme, Lexed, good, stray, before, found, lexed}
use Rattle.lexer.specs.Reading.{Reads, done, blank, token, Reading}
use Rattle.lexer.proofs.Sound.{Sound, scanned_sound}
use Rattle.lexer.proofs.Complete.{none_complete}

-- the end of a text, told another way
ends : (q r : ℕ) (rest : List ℕ) (p : ℕ) (bs : List ℕ) (ls : List Lexeme) → q ≡ r → Reads q rest p bs ls → Reads r rest p bs ls
ends q r rest p bs ls e h = let P : ℕ → Type 0 = λ n. Reads n rest p bs ls in subst P e h

blank_reading : (b p : ℕ) (bs : List ℕ) (r : Lexed) → bytes.blank b ≡ true → Reading (p + 1) bs r → Reading p (b ∷ bs) r
blank_reading b p bs (good ls) e h = let on : p + 1 + length bs ≡ p + suc (length bs) = omega arith in ends (p + 1 + length bs) (p + suc (length bs)) [] p (b ∷ bs) ls on (blank e h)
blank_reading b p bs (stray q) e h = record { lexemes = h.lexemes; byte = h.byte; rest = h.rest; reads = blank e h.reads; no_blank = h.no_blank; no_token = h.no_token }

-- one token and what is behind it
token_reads : (q : ℕ) (rest : List ℕ) (p : ℕ) (bs : List ℕ) (k : Kind) (n : ℕ) (ls : List Lexeme) → TokenAt bs k n → Reads q rest (p + n) (drop n bs) ls → Reads q rest p bs (lexeme k p n ∷ ls)
token_reads q rest p bs k n ls t h =
    let long : length (take n bs) ≡ n = length-take-le n bs t.fits in
    let P : ℕ → Type 0 = λ m. Reads q rest (p + m) (drop n bs) ls in
    let whole : Reads q rest p (take n bs ++ drop n bs) (lexeme k p (length (take n bs)) ∷ ls) = token t.starts (subst P (sym long) h) in
    let Q : List ℕ → Type 0 = λ l. Reads q rest p l (lexeme k p (length (take n bs)) ∷ ls) in
    let R : ℕ → Type 0 = λ m. Reads q rest p bs (lexeme k p m ∷ ls) in
    subst R long (subst Q (take-append-drop n bs) whole)

token_reading : (p : ℕ) (bs : List ℕ) (k : Kind) (n : ℕ) (r : Lexed) → TokenAt bs k n → Reading (p + n) (drop n bs) r → Reading p bs (before (lexeme k p n ∷ []) r)
token_reading p bs k n (good ls) t h =
    let on : p + n + length (drop n bs) ≡ p + length bs = omega (arith, length-drop n bs, t.fits) in
    token_reads (p + length bs) [] p bs k n ls t (ends (p + n + length (drop n bs)) (p + length bs) [] (p + n) (drop n bs) ls on h)
token_reading p bs k n (stray q) t h =
    record { lexemes = lexeme k p n ∷ h.lexemes; byte = h.byte; rest = h.rest; reads = token_reads q (h.byte ∷ h.rest) p bs k n h.lexemes t h.reads; no_blank = h.no_blank; no_token = h.no_token }

found_reading : (b p : ℕ) (bs : List ℕ) (o : Option (Kind × ℕ)) → bytes.blank b ≡ false → scanned (b ∷ bs) ≡ o → Sound (b ∷ bs) o → ((n : ℕ) → n ≤ length bs → Reading (p + 1 + n) (drop n bs) (lexed bs (p + 1) n)) → Reading p (b ∷ bs) (found p (λ n. lexed bs (p + 1) n) o)
found_reading b p bs None e is s on = record { lexemes = []; byte = b; rest = bs; reads = done; no_blank = e; no_token = none_complete (b ∷ bs) is }
found_reading b p bs (Some x) e is s on =
    token_reading p (b ∷ bs) x.0 x.1 (lexed bs (p + 1) (x.1 - 1)) s
    (behind x.1 s.some s.fits)
  where
    behind : (n : ℕ) → 0 < n → n ≤ length (b ∷ bs) → Reading (p + n) (drop n (b ∷ bs)) (lexed bs (p + 1) (n - 1))
    behind zero some fits = absurd (omega arith)
    behind (suc m) some fits =
        let less : m ≡ suc m - 1 = omega arith in
        let far : p + 1 + m ≡ p + suc m = omega arith in
        let P : ℕ → Type 0 = λ q. Reading q (drop m bs) (lexed bs (p + 1) (suc m - 1)) in
        let Q : ℕ → Type 0 = λ n. Reading (p + 1 + m) (drop m bs) (lexed bs (p + 1) n) in
        subst P far (subst Q less (on m (omega arith)))

-- the first byte is inside no token
here : (b p : ℕ) (bs : List ℕ) (t : Bool) → bytes.blank b ≡ t → ((n : ℕ) → n ≤ length bs → Reading (p + 1 + n) (drop n bs) (lexed bs (p + 1) n)) → Reading p (b ∷ bs) (cond t (lexed bs (p + 1) 0) (found p (λ n. lexed bs (p + 1) n) (scanned (b ∷ bs))))
here b p bs true e on = let P : ℕ → Type 0 = λ q. Reading q bs (lexed bs (p + 1) 0) in blank_reading b p bs (lexed bs (p + 1) 0) e (subst P (add-zero (p + 1)) (on 0 (omega arith)))
here b p bs false e on = found_reading b p bs (scanned (b ∷ bs)) e refl (scanned_sound (b ∷ bs)) on

-- inside a token the next byte is read on
pub inside : (b p : ℕ) (bs : List ℕ) (k : ℕ) → lexed (b ∷ bs) p (suc k) ≡ lexed bs (p + 1) k
inside b p bs k =
    let less : suc k - 1 ≡ k = omega arith in
    ap (λ t. cond t (lexed bs (p + 1) (suc k - 1)) (cond (bytes.blank b) (lexed bs (p + 1) 0) (found p (λ n. lexed bs (p + 1) n) (scanned (b ∷ bs))))) (lt-ltb 0 (suc k) (omega arith))
    ∙ ap (λ n. lexed bs (p + 1) n) less

pub reading : (bs : List ℕ) (p k : ℕ) → k ≤ length bs → Reading (p + k) (drop k bs) (lexed bs p k)
reading [] p zero h = ends (p + 0) (p + 0 + 0) [] (p + 0) [] [] (sym (add-zero (p + 0))) done
reading [] p (suc k) h = absurd (omega arith)
reading (b ∷ bs) p zero h = let P : ℕ → Type 0 = λ q. Reading q (b ∷ bs) (lexed (b ∷ bs) p 0) in subst P (sym (add-zero p)) (here b p bs (bytes.blank b) refl (reading bs (p + 1)))
reading (b ∷ bs) p (suc k) h =
    let far : p + 1 + k ≡ p + suc k = omega arith in
    let P : ℕ → Type 0 = λ q. Reading q (drop k bs) (lexed (b ∷ bs) p (suc k)) in
    let Q : Lexed → Type 0 = λ r. Reading (p + 1 + k) (drop k bs) r in
    subst P far (subst Q (sym (inside b p bs k)) (reading bs (p + 1) k (omega arith)))

pub source_reading : (source : List ℕ) → Reading 0 source (lexed source 0 0)
source_reading source = reading source 0 0 (omega arith)
