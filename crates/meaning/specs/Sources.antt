-- Sources and the programs that they spell.
--   tokens_of    the tokens of a source; none if it is refused
--   program_of   a parse tree with the places of a source's tokens
--   Spells       a source has the tokens of a parse tree within both depths, and this is its program
--   OneProgram   a source spells one program
--   Shallow      a source's program has parentheses at most 32 deep
use Rattle.std.specs.Prelude.{◌≡◌, ℕ, ◌≤◌, List, []}
use Rattle.syntax.specs.Tokens.{Name, Token, kinds}
use Rattle.syntax.specs.Trees.{Program}
use Rattle.lexer.specs.Lex.{Answer, accepted, refused, answer}
use Rattle.grammar.specs.Grammar.{ProgramTree, yield, Within}
use Rattle.grammar.specs.Placed.{program_at}
use Rattle.meaning.specs.Depth.{depth_of_statements}

abbrev pub accepted_tokens : Answer → List Token
accepted_tokens (accepted ts) = ts
accepted_tokens (refused n p) = []

abbrev pub tokens_of : List ℕ → List Token
tokens_of source = accepted_tokens (answer source)

abbrev pub program_of : ProgramTree → List ℕ → Program Name
program_of tree source = program_at tree (tokens_of source)

pub record Spells (source : List ℕ) (tree : ProgramTree) (p : Program Name) : Type 0 where
  pub read : answer source ≡ accepted (tokens_of source)
  pub within : Within 32 32 tree
  pub spelled : yield tree ≡ kinds (tokens_of source)
  pub placed : p ≡ program_of tree source

abbrev pub OneProgram : Type 0
OneProgram = (source : List ℕ) (t u : ProgramTree) (p q : Program Name) → Spells source t p → Spells source u q → p ≡ q

abbrev pub Shallow : Type 0
Shallow = (source : List ℕ) (t : ProgramTree) (p : Program Name) → Spells source t p → depth_of_statements p.statements ≤ 32
