-- A source is blanks and tokens, one behind the other.
--   Reads      from place p on, the text is blanks and these lexemes, up to place q, where the rest stands
--   StrayAt    at place q, behind blanks and tokens, is a byte that is not blank and starts no token
--   Reading    what each outcome says of a text that begins at place p
--   Lexical    the outcome for a source is how it reads, and it reads in no other way
use Rattle.std.specs.Prelude.{◌≡◌, ℕ, ◌+◌, true, false, List, [], ◌∷◌, ◌++◌, length}
use Rattle.syntax.specs.Tokens.{Kind}
use Rattle.lexer.specs.Bytes as bytes
use Rattle.lexer.specs.Tokens.{Starts, NoToken}
use Rattle.lexer.specs.Lex.{Lexeme, lexeme, Lexed, good, stray, lexing}

pub data Reads (q : ℕ) (rest : List ℕ) : ℕ → List ℕ → List Lexeme → Type 0 where
  done : Reads q rest q rest []
  blank : {p b : ℕ} {bs : List ℕ} {ls : List Lexeme} → bytes.blank b ≡ true → Reads q rest (p + 1) bs ls → Reads q rest p (b ∷ bs) ls
  token : {p : ℕ} {k : Kind} {w bs : List ℕ} {ls : List Lexeme} → Starts k w bs → Reads q rest (p + length w) bs ls → Reads q rest p (w ++ bs) (lexeme k p (length w) ∷ ls)

pub record StrayAt (p : ℕ) (text : List ℕ) (q : ℕ) : Type 0 where
  pub lexemes : List Lexeme
  pub byte : ℕ
  pub rest : List ℕ
  pub reads : Reads q (byte ∷ rest) p text lexemes
  pub no_blank : bytes.blank byte ≡ false
  pub no_token : NoToken (byte ∷ rest)

abbrev pub Reading : ℕ → List ℕ → Lexed → Type 0
Reading p text (good ls) = Reads (p + length text) [] p text ls
Reading p text (stray q) = StrayAt p text q

pub record Lexical (source : List ℕ) : Type 0 where
  pub reading : Reading 0 source (lexing source)
  pub only : (r : Lexed) → Reading 0 source r → lexing source ≡ r
