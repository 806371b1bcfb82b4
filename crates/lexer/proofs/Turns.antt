-- One turn of the loop that reads tokens.
use Rattle.std.proofs.Common.{◌≡◌, ℕ, zero, suc, ◌+◌, ◌-◌, ◌<◌, ◌≤◌, true, false, cond, List, [], ◌∷◌, ◌++◌, length, take, drop, Some, None, Option, Err, sym, refl, ap, ◌∙◌, subst, append_assoc, add-zero, arith, length-drop, drop-drop}
use Rattle.std.proofs.lemmas.List.{map_push}
use Rattle.std.specs.Option.{ok_or}
use Rattle.syntax.specs.declared.token.Token as coded
use Rattle.syntax.specs.Tokens.{Kind, kind_of}
use Rattle.lexer.specs.declared.scan.Found.{Found}
use Rattle.lexer.specs.Bytes.{blank}
use Rattle.lexer.specs.Scan.{scanned, limited_kind, limited, seen}
use Rattle.lexer.specs.Lex.{Lexeme, lexeme, Lexed, good, stray, before, found, lexed, lexing, lexeme_of, lexemes_of, limited_all}
use Rattle.lexer.proofs.Reading.{inside}
use Rattle.lexer.proofs.Sound.{Sound, scanned_sound}

pub skip : (k : ℕ) (bs : List ℕ) (p : ℕ) → k ≤ length bs → lexed bs p k ≡ lexed (drop k bs) (p + k) 0
skip zero bs p h = ap (λ n. lexed bs n 0) (sym (add-zero p))
skip (suc k) [] p h = absurd (omega arith)
skip (suc k) (b ∷ bs) p h =
    let on : p + 1 + k ≡ p + suc k = omega arith in
    inside b p bs k ∙ skip k bs (p + 1) (omega arith) ∙ ap (λ n. lexed (drop k bs) n 0) on

cut_before : (l : Lexeme) (r : Lexed) → limited_all (before (l ∷ []) r) ≡ before (lexeme (limited_kind l.token.kind) l.token.place l.length ∷ []) (limited_all r)
cut_before l (good ls) = refl
cut_before l (stray p) = refl

cut_found : (p : ℕ) (f : ℕ → Lexed) (o : Option (Kind × ℕ)) → limited_all (found p f o) ≡ found p (λ n. limited_all (f n)) (limited o)
cut_found p f None = refl
cut_found p f (Some x) = cut_before (lexeme x.0 p x.1) (f (x.1 - 1))

abbrev length_in : Option (Kind × ℕ) → ℕ
length_in None = 0
length_in (Some x) = x.1

-- what the code found is as long as a token, and lies in the text
sizes : (bs : List ℕ) (f : Found) (o : Option (Kind × ℕ)) → Sound bs o → seen bs (Some f) ≡ limited o → (0 < f.length) × (f.length ≤ length bs)
sizes bs f None s e = absurd (let z : ◌≡◌ {A = ℕ} 0 1 = cc in omega arith)
sizes bs f (Some x) s e = let same : f.length ≡ x.1 = ap length_in e in (omega (arith, s.some), omega (arith, s.fits))

found_sizes : (bs : List ℕ) (f : Found) → seen bs (Some f) ≡ limited (scanned bs) → (0 < f.length) × (f.length ≤ length bs)
found_sizes bs f e = sizes bs f (scanned bs) (scanned_sound bs) e

pub scanned_sizes : (bs : List ℕ) (o : Option Found) (f : Found) → seen bs o ≡ limited (scanned bs) → o ≡ Some f → (0 < f.length) × (f.length ≤ length bs)
scanned_sizes bs o f e is = found_sizes bs f (ap (seen bs) (sym is) ∙ e)

none_found : (o : Option (Kind × ℕ)) → None ≡ limited o → o ≡ None
none_found None e = refl
none_found (Some x) e = absurd (let z : ◌≡◌ {A = ℕ} 0 1 = cc in omega arith)

-- the error that `ok_or` makes of None
pub told_none : {X E : Type 0} (o : Option X) (e d : E) → o ≡ None → Err e ≡ ok_or o d → e ≡ d
told_none None e d none is = cc
told_none (Some x) e d none is = absurd (let z : ◌≡◌ {A = ℕ} 0 1 = cc in omega arith)

-- a stray byte behind some tokens is the source's
stray_behind : (ls : List Lexeme) (r : Lexed) (p : ℕ) → limited_all r ≡ before ls (stray p) → r ≡ stray p
stray_behind ls (good ms) p e = absurd (let z : ◌≡◌ {A = ℕ} 0 1 = cc in omega arith)
stray_behind ls (stray q) p e = e

pub before_before : (ls ms : List Lexeme) (r : Lexed) → before ls (before ms r) ≡ before (ls ++ ms) r
before_before ls ms (good ns) = ap good (sym (append_assoc ls ms ns))
before_before ls ms (stray p) = refl

-- at place p of the source stands rest, and the tokens before it are ts
pub record ReadTo (s : List ℕ) (ts : List coded.Token) (rest : List ℕ) (p : ℕ) : Type 0 where
  pub place : p + length rest ≡ length s
  pub rest_is : drop p s ≡ rest
  pub so_far : limited_all (lexing s) ≡ before (lexemes_of s ts) (limited_all (lexed rest p 0))

-- the bytes behind n more
further : (s rest : List ℕ) (p n : ℕ) → drop p s ≡ rest → drop (p + n) s ≡ drop n rest
further s rest p n e = sym (drop-drop n p s) ∙ ap (drop n) e

module _ (s : List ℕ) (ts : List coded.Token) (b : ℕ) (bs : List ℕ) (p : ℕ) (h : ReadTo s ts (b ∷ bs) p) where
  scans : blank b ≡ false → lexed (b ∷ bs) p 0 ≡ found p (λ n. lexed bs (p + 1) n) (scanned (b ∷ bs))
  scans e = ap (λ t. cond t (lexed bs (p + 1) 0) (found p (λ n. lexed bs (p + 1) n) (scanned (b ∷ bs)))) e

  pub after_blank : blank b ≡ true → ReadTo s ts bs (p + 1)
  after_blank e =
      record {
        place = omega (arith, h.place);
        rest_is = further s (b ∷ bs) p 1 h.rest_is;
        so_far = h.so_far ∙ ap (λ t. before (lexemes_of s ts) (limited_all (cond t (lexed bs (p + 1) 0) (found p (λ n. lexed bs (p + 1) n) (scanned (b ∷ bs)))))) e;
      }

  pub at_stray : blank b ≡ false → None ≡ limited (scanned (b ∷ bs)) → lexing s ≡ stray p
  at_stray e none =
      let is = none_found (scanned (b ∷ bs)) none in
      stray_behind (lexemes_of s ts) (lexing s) p (h.so_far ∙ ap (λ r. before (lexemes_of s ts) (limited_all r)) (scans e ∙ ap (found p (λ n. lexed bs (p + 1) n)) is))

  module _ (f : Found) (is : seen (b ∷ bs) (Some f) ≡ limited (scanned (b ∷ bs))) where
    turn_token : blank b ≡ false → limited_all (lexed (b ∷ bs) p 0) ≡ before (lexeme_of s record { kind = f.kind; place = p; length = f.length } ∷ []) (limited_all (lexed (drop f.length (b ∷ bs)) (p + f.length) 0))
    turn_token e =
        let size = found_sizes (b ∷ bs) f is in
        let on : p + 1 + (f.length - 1) ≡ p + f.length = omega arith in
        let down : 1 + (f.length - 1) ≡ f.length = omega arith in
        ap limited_all (scans e) ∙ cut_found p (λ n. lexed bs (p + 1) n) (scanned (b ∷ bs))
        ∙ ap (found p (λ n. limited_all (lexed bs (p + 1) n))) (sym is)
        ∙ ap (λ l. before (lexeme (kind_of f.kind (take f.length l)) p f.length ∷ []) (limited_all (lexed bs (p + 1) (f.length - 1)))) (sym h.rest_is)
        ∙ ap (λ r. before (lexeme_of s record { kind = f.kind; place = p; length = f.length } ∷ []) (limited_all r))
        (skip (f.length - 1) bs (p + 1) (omega arith) ∙ (λ j. lexed ((sym (further (b ∷ bs) bs 1 (f.length - 1) refl) ∙ ap (λ d. drop d (b ∷ bs)) down) j) (on j) 0))

    pub after_token : (us : List coded.Token) → blank b ≡ false → us ≡ ts ++ record { kind = f.kind; place = p; length = f.length } ∷ [] → ReadTo s us (drop f.length (b ∷ bs)) (p + f.length)
    after_token us e pushed =
        let size = found_sizes (b ∷ bs) f is in
        let t : coded.Token = record { kind = f.kind; place = p; length = f.length } in
        let rest : Lexed = limited_all (lexed (drop f.length (b ∷ bs)) (p + f.length) 0) in
        record {
          place = omega (arith, h.place, length-drop f.length (b ∷ bs));
          rest_is = further s (b ∷ bs) p f.length h.rest_is;
          so_far =
              h.so_far ∙ ap (before (lexemes_of s ts)) (turn_token e) ∙ before_before (lexemes_of s ts) (lexeme_of s t ∷ []) rest
              ∙ ap (λ ls. before ls rest) (sym (ap (lexemes_of s) pushed ∙ map_push (lexeme_of s) ts t));
        }

-- the same of the code's rest, whose place is computed from its length
module _ (s : List ℕ) (ts : List coded.Token) (rest : List ℕ) (b : ℕ) (bs : List ℕ) (is : rest ≡ b ∷ bs) (h : ReadTo s ts rest (length s - length rest)) where
  at_first : ReadTo s ts (b ∷ bs) (length s - length rest)
  at_first = let P : List ℕ → Type 0 = λ l. ReadTo s ts l (length s - length rest) in subst P is h

  to_place : (us : List coded.Token) (l : List ℕ) (p : ℕ) → ReadTo s us l p → ReadTo s us l (length s - length l)
  to_place us l p k = let P : ℕ → Type 0 = λ q. ReadTo s us l q in let same : p ≡ length s - length l = omega (arith, k.place) in subst P same k

  pub blank_turn : blank b ≡ true → ReadTo s ts bs (length s - length bs)
  blank_turn e = to_place ts bs _ (after_blank s ts b bs _ at_first e)

  pub stray_turn : blank b ≡ false → None ≡ limited (scanned rest) → lexing s ≡ stray (length s - length rest)
  stray_turn e none = at_stray s ts b bs _ at_first e (none ∙ ap (λ l. limited (scanned l)) is)

  pub token_turn : (f : Found) (us : List coded.Token) → blank b ≡ false → seen rest (Some f) ≡ limited (scanned rest) → us ≡ ts ++ record { kind = f.kind; place = length s - length rest; length = f.length } ∷ [] → ReadTo s us (drop f.length rest) (length s - length (drop f.length rest))
  token_turn f us e found pushed =
      let P : List ℕ → Type 0 = λ l. seen l (Some f) ≡ limited (scanned l) in
      let Q : List ℕ → Type 0 = λ l. ReadTo s us (drop f.length l) (length s - length (drop f.length l)) in
      subst Q (sym is) (to_place us (drop f.length (b ∷ bs)) _ (after_token s ts b bs _ at_first f (subst P is found) us e pushed))
