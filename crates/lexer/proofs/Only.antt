-- A text reads in one way.
use Rattle.std.proofs.Common.{◌≡◌, ℕ, suc, ◌+◌, ◌-◌, ◌<◌, Bool, true, false, not, rules, cond, List, [], ◌∷◌, ◌++◌, length, get_or, Some, None, Option, sym, refl, ap, ◌∙◌, subst, append-nil, arith, length-append}
use Rattle.std.specs.List.{AllByRecursion}
use Rattle.std.proofs.lemmas.List.{drop_at, take-append-drop}
use Rattle.std.proofs.lemmas.Bool.{false≢true, not-true}
use Rattle.std.proofs.lemmas.Bool.Decides.{nat_tests}
use Rattle.syntax.specs.Tokens.{Kind}
use Rattle.lexer.specs.Bytes as bytes
use Rattle.lexer.specs.Bytes.{digit, letter}
use Rattle.lexer.specs.Scan.{symbols, scanned}
use Rattle.lexer.specs.Tokens.{Starts, head, word, number, symbol, NoToken}
use Rattle.lexer.specs.Lex.{Lexeme, lexeme, Lexed, good, stray, before, found, lexed, lexing}
use Rattle.lexer.specs.Reading.{Reads, done, blank, token, Reading, Lexical}
use Rattle.lexer.proofs.Complete.{complete, of_listed}
use Rattle.lexer.proofs.Sound.{Sound, scanned_sound}
use Rattle.lexer.proofs.Reading.{source_reading}
use Rattle.lexer.proofs.Turns.{skip, before_before}

-- a token's first byte
abbrev Begun : List ℕ → Type 0
Begun w = (b : ℕ) × (bs : List ℕ) × (w ≡ b ∷ bs) × (bytes.blank b ≡ false)

letter_begun : (w : List ℕ) → letter (get_or w 0 0) ≡ true → Begun w
letter_begun [] e = absurd (false≢true e)
letter_begun (b ∷ w) e = (b, w, refl, grind (arith, nat_tests))

digit_begun : (w : List ℕ) → 0 < length w → AllByRecursion (λ b. digit b ≡ true) w → Begun w
digit_begun [] some all = absurd (omega arith)
digit_begun (b ∷ w) some all = let e : digit b ≡ true = all.0 in (b, w, refl, grind (arith, nat_tests))

-- a byte comes first, and is not blank
abbrev solid : List ℕ → Bool
solid [] = false
solid (b ∷ bs) = not (bytes.blank b)

solid_begun : (w : List ℕ) → solid w ≡ true → Begun w
solid_begun [] e = absurd (false≢true e)
solid_begun (b ∷ w) e = (b, w, refl, not-true (bytes.blank b) e)

each_solid : AllByRecursion (λ s. solid s.0 ≡ true) symbols
each_solid = search rules

begun : (k : Kind) (w rest : List ℕ) → Starts k w rest → Begun w
begun k w rest (head t) = (_, _, t.bytes, refl)
begun k w rest (word t) = letter_begun w t.first
begun k w rest (number t) = digit_begun w t.some t.all
begun k w rest (symbol t) = solid_begun w (of_listed (λ s. solid s.0 ≡ true) symbols (w, k) each_solid t.listed)

scan_here : (b p : ℕ) (bs : List ℕ) (o : Option (Kind × ℕ)) → bytes.blank b ≡ false → scanned (b ∷ bs) ≡ o → lexed (b ∷ bs) p 0 ≡ found p (λ n. lexed bs (p + 1) n) o
scan_here b p bs o e is = ap (λ t. cond t (lexed bs (p + 1) 0) (found p (λ n. lexed bs (p + 1) n) (scanned (b ∷ bs)))) e ∙ ap (found p (λ n. lexed bs (p + 1) n)) is

token_here : (b p : ℕ) (bs rest : List ℕ) (k : Kind) → bytes.blank b ≡ false → Starts k (b ∷ bs) rest → lexed (b ∷ (bs ++ rest)) p 0 ≡ before (lexeme k p (length (b ∷ bs)) ∷ []) (lexed rest (p + length (b ∷ bs)) 0)
token_here b p bs rest k e s =
    let less : suc (length bs) - 1 ≡ length bs = omega arith in
    let on : p + 1 + length bs ≡ p + suc (length bs) = omega arith in
    scan_here b p (bs ++ rest) (Some (k, length (b ∷ bs))) e (complete k (b ∷ bs) rest s)
    ∙ ap (before (lexeme k p (length (b ∷ bs)) ∷ []))
    (ap (λ n. lexed (bs ++ rest) (p + 1) n) less ∙ skip (length bs) (bs ++ rest) (p + 1) (omega (arith, length-append bs rest)) ∙ (λ i. lexed (drop_at bs rest (length bs) refl i) (on i) 0))

token_lexed : (p : ℕ) (w rest : List ℕ) (k : Kind) → Starts k w rest → lexed (w ++ rest) p 0 ≡ before (lexeme k p (length w) ∷ []) (lexed rest (p + length w) 0)
token_lexed p w rest k s =
    let b = begun k w rest s in
    let P : List ℕ → Type 0 = λ v. Starts k v rest → lexed (v ++ rest) p 0 ≡ before (lexeme k p (length v) ∷ []) (lexed rest (p + length v) 0) in
    subst P (sym b.2) (token_here b.0 p b.1 rest k b.3) s

reads_lexed : {q : ℕ} {rest : List ℕ} {p : ℕ} {bs : List ℕ} {ls : List Lexeme} → Reads q rest p bs ls → lexed bs p 0 ≡ before ls (lexed rest q 0)
reads_lexed {q} {rest} done = sym (before_none (lexed rest q 0))
  where
    before_none : (r : Lexed) → before [] r ≡ r
    before_none (good ls) = refl
    before_none (stray p) = refl
reads_lexed (blank {p} {b} {bs} e r) = ap (λ t. cond t (lexed bs (p + 1) 0) (found p (λ n. lexed bs (p + 1) n) (scanned (b ∷ bs)))) e ∙ reads_lexed r
reads_lexed {q} {rest} (token {p} {k} {w} {bs} {ls} s r) =
    token_lexed p w bs k s ∙ ap (before (lexeme k p (length w) ∷ [])) (reads_lexed r) ∙ before_before (lexeme k p (length w) ∷ []) ls (lexed rest q 0)

none_scanned : (bs : List ℕ) (o : Option (Kind × ℕ)) → Sound bs o → NoToken bs → o ≡ None
none_scanned bs None s h = refl
none_scanned bs (Some x) s h = absurd (h x.0 _ _ (sym (take-append-drop x.1 bs)) s.starts)

only : (source : List ℕ) (r : Lexed) → Reading 0 source r → lexing source ≡ r
only source (good ls) h = reads_lexed h ∙ ap good (append-nil ls)
only source (stray q) h =
    reads_lexed h.reads
    ∙ ap (before h.lexemes) (scan_here h.byte q h.rest None h.no_blank (none_scanned (h.byte ∷ h.rest) (scanned (h.byte ∷ h.rest)) (scanned_sound (h.byte ∷ h.rest)) h.no_token))

pub lexical : (source : List ℕ) → Lexical source
lexical source = record { reading = source_reading source; only = only source }
