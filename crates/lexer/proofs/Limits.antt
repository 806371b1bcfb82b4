-- Numbers cut above the greatest: where none is too large, nothing was cut.
use Rattle.std.proofs.Common.{◌≡◌, ℕ, ◌+◌, ◌≤◌, min, Bool, true, false, cond, ltb, List, [], ◌∷◌, map, length, take, drop, replicate, Some, None, Option, sym, refl, ap, ◌∙◌, subst, arith, length-append, length-drop}
use Rattle.std.specs.Option.{option_map}
use Rattle.std.specs.List.{AllByRecursion, find}
use Rattle.std.proofs.lemmas.Bool.{le-ltb, ltb-false}
use Rattle.std.proofs.lemmas.Bool.Decides.{nat_tests}
use Rattle.std.proofs.ByRecursion.{All-map}
use Rattle.std.proofs.lemmas.List.{length-take-le, length-replicate}
use Rattle.syntax.specs.declared.token.Token as coded
use Rattle.syntax.specs.declared.token.Kind as coded-kind
use Rattle.syntax.specs.declared.token.Kind.TheVariants as code
use Rattle.syntax.specs.Tokens.{Name, Kind, mark, name, number, relation, additive, multiplicative, kind_of, token_of, tokens_of}
use Rattle.lexer.specs.Scan.{limited_kind}
use Rattle.lexer.specs.Lex.{Lexeme, lexeme, tokens, Lexed, good, stray, lexing, too_large, coded_too_large, first_too_large, answer, accepted, refused, sized, read, lexeme_of, lexemes_of, Within, limited_lexeme, limited_all}
use Rattle.lexer.specs.Reading.{Reads, done, blank, token, Reading}
use Rattle.lexer.proofs.Reading.{source_reading}

same_large : (k : Kind) → too_large (limited_kind k) ≡ too_large k
same_large (mark m) = refl
same_large (name w) = refl
same_large (number v) = grind (arith, nat_tests)
same_large (relation r) = refl
same_large (additive a) = refl
same_large (multiplicative m) = refl

uncut : (k : Kind) → too_large k ≡ false → limited_kind k ≡ k
uncut (mark m) e = refl
uncut (name w) e = refl
uncut (number v) e = let h = ltb-false 1073741823 v e in let is : min v 1073741824 ≡ v = omega arith in ap number is
uncut (relation r) e = refl
uncut (additive a) e = refl
uncut (multiplicative m) e = refl

pub same_first : (ls : List Lexeme) → first_too_large (tokens (map limited_lexeme ls)) ≡ first_too_large (tokens ls)
same_first [] = refl
same_first (l ∷ ls) =
    ap (λ o. cond (too_large (limited_kind l.token.kind)) (Some l.token.place) o) (same_first ls)
    ∙ ap (λ t. cond t (Some l.token.place) (first_too_large (tokens ls))) (same_large l.token.kind)

-- a source that is no longer than it may be
pub short_answer : (s : List ℕ) → length s ≤ 16384 → answer s ≡ read (lexing s)
short_answer s short = ap (λ t. cond t (refused 1 16384) (read (lexing s))) (le-ltb 16384 (length s) short)

not_here : (t : Bool) (p : ℕ) (o : Option ℕ) → cond t (Some p) o ≡ None → (t ≡ false) × (o ≡ None)
not_here true p o e = absurd (let z : ◌≡◌ {A = ℕ} 0 1 = cc in omega arith)
not_here false p o e = (refl, e)

all_uncut : (ls : List Lexeme) → first_too_large (tokens ls) ≡ None → map limited_lexeme ls ≡ ls
all_uncut [] e = refl
all_uncut (l ∷ ls) e =
    let parts = not_here (too_large l.token.kind) l.token.place (first_too_large (tokens ls)) e in
    (λ i. lexeme (uncut l.token.kind parts.0 i) l.token.place l.length ∷ all_uncut ls parts.1 i)

tokens_of_lem : (s : List ℕ) (ts : List coded.Token) → tokens (lexemes_of s ts) ≡ tokens_of s ts
tokens_of_lem s [] = refl
tokens_of_lem s (t ∷ ts) = ap (λ us. token_of s t ∷ us) (tokens_of_lem s ts)

same_size : (k : coded-kind.Kind) (v w : Name) → length v ≡ length w → too_large (kind_of k v) ≡ too_large (kind_of k w)
same_size (code.Mark m) v w e = refl
same_size code.Name v w e = ap (ltb 16) e
same_size (code.Number n) v w e = refl
same_size (code.Relation r) v w e = refl
same_size (code.Additive a) v w e = refl
same_size (code.Multiplicative m) v w e = refl

coded_is : (s : List ℕ) (t : coded.Token) → Within s t → coded_too_large t ≡ too_large (token_of s t).kind
coded_is s t within =
    same_size t.kind (replicate t.length 0) (take t.length (drop t.place s))
    (length-replicate t.length 0 ∙ sym (length-take-le t.length (drop t.place s) (omega (arith, length-drop t.place s))))

found_step : (b : Bool) (t : coded.Token) (o : Option coded.Token) → option_map (λ u. u.place) (cond b (Some t) o) ≡ cond b (Some t.place) (option_map (λ u. u.place) o)
found_step true t o = refl
found_step false t o = refl

-- what the code finds among tokens that lie in the source
found_is : (s : List ℕ) (ts : List coded.Token) → AllByRecursion (Within s) ts → option_map (λ t. t.place) (find coded_too_large ts) ≡ first_too_large (tokens_of s ts)
found_is s [] all = refl
found_is s (t ∷ ts) all =
    found_step (coded_too_large t) t (find coded_too_large ts)
    ∙ (λ i. cond (coded_is s t all.0 i) (Some t.place) (found_is s ts all.1 i))

reads_within : {q : ℕ} {rest : List ℕ} {p : ℕ} {bs : List ℕ} {ls : List Lexeme} (n : ℕ) → p + length bs ≤ n → Reads q rest p bs ls → AllByRecursion (λ l. l.token.place + l.length ≤ n) ls
reads_within n h done = tt
reads_within n h (blank {p} {b} {bs} {ls} e r) = reads_within n (omega arith) r
reads_within n h (token {p} {k} {w} {bs} {ls} s r) = (omega (arith, length-append w bs), reads_within n (omega (arith, length-append w bs)) r)

all_unmap : {X Y : Type 0} (P : Y → Type 0) (f : X → Y) (xs : List X) → AllByRecursion P (map f xs) → AllByRecursion (λ x. P (f x)) xs
all_unmap P f [] h = tt
all_unmap P f (x ∷ xs) h = (h.0, all_unmap P f xs h.1)

-- what the first pass made of a source: its tokens, cut
module _ (s : List ℕ) (ts : List coded.Token) where
  same_cut : (ls : List Lexeme) → limited_all (good ls) ≡ good (lexemes_of s ts) → map limited_lexeme ls ≡ lexemes_of s ts
  same_cut ls e = cc

  lexed_within : (r : Lexed) → Reading 0 s r → limited_all r ≡ good (lexemes_of s ts) → AllByRecursion (Within s) ts
  lexed_within (good ls) reads e =
      let n : ℕ = length s in
      let cut : AllByRecursion (λ l. l.token.place + l.length ≤ length s) (map limited_lexeme ls) = All-map (λ l. l.token.place + l.length ≤ length s) limited_lexeme ls (reads_within (length s) (omega arith) reads) in
      let P : List Lexeme → Type 0 = λ ms. AllByRecursion (λ l. l.token.place + l.length ≤ length s) ms in
      all_unmap (λ l. l.token.place + l.length ≤ length s) (lexeme_of s) ts (subst P (same_cut ls e) cut)
  lexed_within (stray p) reads e = absurd (let z : ◌≡◌ {A = ℕ} 0 1 = cc in omega arith)

  pub all_within : limited_all (lexing s) ≡ good (lexemes_of s ts) → AllByRecursion (Within s) ts
  all_within e = lexed_within (lexing s) (source_reading s) e

  -- the same of the tokens of a source
  found_lexed : limited_all (lexing s) ≡ good (lexemes_of s ts) → option_map (λ t. t.place) (find coded_too_large ts) ≡ first_too_large (tokens_of s ts)
  found_lexed e = found_is s ts (all_within e)

  first_is : (ls : List Lexeme) → limited_all (good ls) ≡ good (lexemes_of s ts) → first_too_large (tokens_of s ts) ≡ first_too_large (tokens ls)
  first_is ls e = ap first_too_large (sym (tokens_of_lem s ts)) ∙ ap (λ ms. first_too_large (tokens ms)) (sym (same_cut ls e)) ∙ same_first ls

  lexed_uncut : (r : Lexed) → limited_all r ≡ good (lexemes_of s ts) → first_too_large (tokens_of s ts) ≡ None → r ≡ good (lexemes_of s ts)
  lexed_uncut (good ls) e small = ap good (sym (all_uncut ls (sym (first_is ls e) ∙ small)) ∙ same_cut ls e)
  lexed_uncut (stray p) e small = absurd (let z : ◌≡◌ {A = ℕ} 0 1 = cc in omega arith)

  read_small : first_too_large (tokens_of s ts) ≡ None → read (good (lexemes_of s ts)) ≡ accepted (tokens_of s ts)
  read_small small = ap (λ us. sized us (first_too_large us)) (tokens_of_lem s ts) ∙ ap (sized (tokens_of s ts)) small

  read_large : (r : Lexed) (p : ℕ) → limited_all r ≡ good (lexemes_of s ts) → first_too_large (tokens_of s ts) ≡ Some p → read r ≡ refused 3 p
  read_large (good ls) p e large = ap (sized (tokens ls)) (sym (first_is ls e) ∙ large)
  read_large (stray q) p e large = absurd (let z : ◌≡◌ {A = ℕ} 0 1 = cc in omega arith)

  -- none is too large: the tokens are the source's
  pub small_lexed : limited_all (lexing s) ≡ good (lexemes_of s ts) → option_map (λ t. t.place) (find coded_too_large ts) ≡ None → lexing s ≡ good (lexemes_of s ts)
  small_lexed e small = lexed_uncut (lexing s) e (sym (found_lexed e) ∙ small)

  pub small_accepted : length s ≤ 16384 → limited_all (lexing s) ≡ good (lexemes_of s ts) → option_map (λ t. t.place) (find coded_too_large ts) ≡ None → answer s ≡ accepted (tokens_of s ts)
  small_accepted short e small = short_answer s short ∙ ap read (small_lexed e small) ∙ read_small (sym (found_lexed e) ∙ small)

  pub large_refused : (p : ℕ) → length s ≤ 16384 → limited_all (lexing s) ≡ good (lexemes_of s ts) → option_map (λ t. t.place) (find coded_too_large ts) ≡ Some p → answer s ≡ refused 3 p
  large_refused p short e large = short_answer s short ∙ read_large (lexing s) p e (sym (found_lexed e) ∙ large)
