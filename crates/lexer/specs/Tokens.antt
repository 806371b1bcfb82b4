-- What a token is, as a relation between its bytes and those behind it.
--   Stops         no byte of the sort comes next
--   Listed        a spelling is in a list
--   HeadToken     `#include`, any spaces or tabs, `<stdio.h>`
--   WordToken     a letter and all letters and digits after it
--   NumberToken   a full run of digits, of which two or more do not begin with 0
--   SymbolToken   one of the other spellings, and none that is longer
--   Starts        a token of this kind, with these bytes, stands before the rest
--   TokenAt       such a token stands at the front of a text, with this length
--   NoToken       none does
use Rattle.std.specs.Prelude.{◌≡◌, ℕ, ◌<◌, ◌≤◌, Bool, true, false, ◌⊎◌, List, [], ◌∷◌, ◌++◌, length, take, drop, codes, ◌≢◌, slice_index}
use Rattle.std.specs.List.{AllByRecursion}
use Rattle.syntax.specs.declared.token.Mark.TheVariants as marks
use Rattle.syntax.specs.Tokens as syntax
use Rattle.syntax.specs.Tokens.{Kind}
use Rattle.lexer.specs.Bytes.{digit, letter, word_byte, gap, begins}
use Rattle.lexer.specs.Scan.{Spelling, symbols, word_kind, value_of}

abbrev pub Stops : (ℕ → Bool) → List ℕ → Type 0
Stops p [] = Unit {0}
Stops p (b ∷ bs) = p b ≡ false

abbrev pub Listed : Spelling → List Spelling → Type 0
Listed s [] = ⊥
Listed s (t ∷ ts) = (s ≡ t) ⊎ Listed s ts

pub record HeadToken (k : Kind) (w : List ℕ) : Type 0 where
  pub gaps : List ℕ
  pub kind : k ≡ syntax.mark marks.Head
  pub all : AllByRecursion (λ b. gap b ≡ true) gaps
  pub bytes : w ≡ codes "#include" ++ (gaps ++ codes "<stdio.h>")

pub record WordToken (k : Kind) (w rest : List ℕ) : Type 0 where
  pub kind : k ≡ word_kind w
  pub first : letter (slice_index w 0) ≡ true
  pub all : AllByRecursion (λ b. word_byte b ≡ true) w
  pub full : Stops word_byte rest

pub record NumberToken (k : Kind) (w rest : List ℕ) : Type 0 where
  pub kind : k ≡ syntax.number (value_of w)
  pub some : 0 < length w
  pub all : AllByRecursion (λ b. digit b ≡ true) w
  pub first : 2 ≤ length w → slice_index w 0 ≢ 48
  pub full : Stops digit rest

pub record SymbolToken (k : Kind) (w rest : List ℕ) : Type 0 where
  pub listed : Listed (w, k) symbols
  pub longest : (s : Spelling) → Listed s symbols → begins s.0 (w ++ rest) ≡ true → length s.0 ≤ length w

pub data Starts (k : Kind) (w rest : List ℕ) : Type 0 where
  head : HeadToken k w → Starts k w rest
  word : WordToken k w rest → Starts k w rest
  number : NumberToken k w rest → Starts k w rest
  symbol : SymbolToken k w rest → Starts k w rest

pub record TokenAt (bs : List ℕ) (k : Kind) (n : ℕ) : Type 0 where
  pub some : 0 < n
  pub fits : n ≤ length bs
  pub starts : Starts k (take n bs) (drop n bs)

abbrev pub NoToken : List ℕ → Type 0
NoToken bs = (k : Kind) (w rest : List ℕ) → bs ≡ w ++ rest → Starts k w rest → ⊥
