-- The tokens of a source, and the first three questions put to it.
--   Lexeme            a token and how many bytes it has
--   tokens            the tokens of some lexemes
--   Lexed             lexemes; or a byte where no token starts
--   before            lexemes that come first
--   lexeme            a lexeme from its kind, place and length
--   found             what is read from a place on, given what was found there
--   lexed             what a text gives that begins at place p, its first k bytes inside a token
--   lexing            what a whole source gives
--   too_large         a name over 16 bytes, a number over 1,073,741,823
--   coded_too_large   the same of a token of the code, where of a name's bytes only their number counts
--   first_too_large   where the first such token begins
--   Answer            accepted with tokens; or refused with a number, at a place
--   sized             the third question
--   read              the second and the third
--   answer            the three questions in their order: the first that is answered no
--   lexeme_of         a token of the code, read from the source; lexemes_of, some of them
--   number_of         the number of a refusal
--   place_of          the place of a refusal
--   Says              a refusal has the number and the place of the answer
--   Refuses           it does, or memory was wanting behind the first question
--   Strays            a refusal of the first pass, which asks the second question
--   Within            a token of the code lies in the source
--   limited_lexeme    a lexeme with a number cut as the first pass keeps it; limited_all, all of them
use Rattle.std.specs.Prelude.{◌≡◌, ℕ, ◌+◌, ◌-◌, ◌≤◌, Bool, false, cond, List, [], ◌∷◌, ◌++◌, map, length, replicate, Some, None, Option, nat_lt}
use Rattle.syntax.specs.declared.token.Token as coded
use Rattle.syntax.specs.Tokens.{Kind, mark, name, number, relation, additive, multiplicative, Token, kind_of, token_of}
use Rattle.lexer.specs.declared.refusals.Refusal.{Refusal}
use Rattle.lexer.specs.declared.refusals.Refusal.TheVariants as refusal
use Rattle.lexer.specs.Bytes.{blank}
use Rattle.lexer.specs.Scan.{scanned, limited_kind}

pub record Lexeme : Type 0 where
  pub token : Token
  pub length : ℕ

abbrev pub tokens : List Lexeme → List Token
tokens ls = map (λ l. l.token) ls

pub data Lexed : Type 0 where
  good : List Lexeme → Lexed
  stray : ℕ → Lexed

-- ls come first
abbrev pub before : List Lexeme → Lexed → Lexed
before ls (good ms) = good (ls ++ ms)
before ls (stray p) = stray p

abbrev pub lexeme : Kind → ℕ → ℕ → Lexeme
lexeme k p n = record { token = record { kind = k; place = p }; length = n }

-- at place p: nothing is found, or a token; f reads on with so many bytes still inside it
abbrev pub found : ℕ → (ℕ → Lexed) → Option (Kind × ℕ) → Lexed
found p f None = stray p
found p f (Some x) = before (lexeme x.0 p x.1 ∷ []) (f (x.1 - 1))

abbrev pub lexed : List ℕ → ℕ → ℕ → Lexed
lexed [] p k = good []
lexed (b ∷ bs) p k =
    cond (nat_lt 0 k) (lexed bs (p + 1) (k - 1))
    (cond (blank b) (lexed bs (p + 1) 0) (found p (λ n. lexed bs (p + 1) n) (scanned (b ∷ bs))))

abbrev pub lexing : List ℕ → Lexed
lexing source = lexed source 0 0

abbrev pub too_large : Kind → Bool
too_large (mark m) = false
too_large (name w) = nat_lt 16 (length w)
too_large (number v) = nat_lt 1073741823 v
too_large (relation r) = false
too_large (additive a) = false
too_large (multiplicative m) = false

abbrev pub coded_too_large : coded.Token → Bool
coded_too_large t = too_large (kind_of t.kind (replicate t.length 0))

abbrev pub first_too_large : List Token → Option ℕ
first_too_large [] = None
first_too_large (t ∷ ts) = cond (too_large t.kind) (Some t.place) (first_too_large ts)

pub data Answer : Type 0 where
  accepted : List Token → Answer
  refused : ℕ → ℕ → Answer

abbrev pub sized : List Token → Option ℕ → Answer
sized ts None = accepted ts
sized ts (Some p) = refused 3 p

abbrev pub read : Lexed → Answer
read (good ls) = sized (tokens ls) (first_too_large (tokens ls))
read (stray p) = refused 2 p

abbrev pub answer : List ℕ → Answer
answer source = cond (nat_lt 16384 (length source)) (refused 1 16384) (read (lexing source))

abbrev pub lexeme_of : List ℕ → coded.Token → Lexeme
lexeme_of source t = record { token = token_of source t; length = t.length }

abbrev pub lexemes_of : List ℕ → List coded.Token → List Lexeme
lexemes_of source ts = map (lexeme_of source) ts

abbrev pub number_of : Refusal → ℕ
number_of refusal.TooLong = 1
number_of (refusal.NoToken p) = 2
number_of (refusal.TooLarge p) = 3
number_of refusal.NoMemory = 40

abbrev pub place_of : Refusal → ℕ
place_of refusal.TooLong = 16384
place_of (refusal.NoToken p) = p
place_of (refusal.TooLarge p) = p
place_of refusal.NoMemory = 0

abbrev pub Says : List ℕ → Refusal → Type 0
Says source e = answer source ≡ refused (number_of e) (place_of e)

abbrev pub Refuses : List ℕ → Refusal → Type 0
Refuses source refusal.TooLong = Says source refusal.TooLong
Refuses source (refusal.NoToken p) = Says source (refusal.NoToken p)
Refuses source (refusal.TooLarge p) = Says source (refusal.TooLarge p)
Refuses source refusal.NoMemory = length source ≤ 16384

-- the first pass refuses so
abbrev pub Strays : Lexed → Refusal → Type 0
Strays l refusal.TooLong = ⊥
Strays l (refusal.NoToken p) = l ≡ stray p
Strays l (refusal.TooLarge p) = ⊥
Strays l refusal.NoMemory = Unit {0}

abbrev pub Within : List ℕ → coded.Token → Type 0
Within source t = t.place + t.length ≤ length source

abbrev pub limited_lexeme : Lexeme → Lexeme
limited_lexeme l = lexeme (limited_kind l.token.kind) l.token.place l.length

abbrev pub limited_all : Lexed → Lexed
limited_all (good ls) = good (map limited_lexeme ls)
limited_all (stray p) = stray p
