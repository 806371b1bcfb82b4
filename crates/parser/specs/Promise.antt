-- Is every beginning of the tokens a beginning of a program within the depths 32 and 32, and the whole such a program?
--   Refused     the case of a no, with its number and place; or there is no memory
--   number_of   a refusal's number
--   Answers     yes, or that no, whatever source the names stand in
--   Parsed      tokens are those of a parse tree within both depths, and this is its program
--   Parses      yes, with the program; or that no, whatever source the names stand in
use Rattle.std.specs.Prelude.{◌≡◌, ℕ, List, Result, MatchResult}
use Rattle.syntax.specs.declared.token.Token as coded
use Rattle.syntax.specs.declared.tree.Program as coded-tree
use Rattle.syntax.specs.Tokens.{tokens_of}
use Rattle.syntax.specs.Trees as tree
use Rattle.syntax.specs.TreeOf.{tree_of}
use Rattle.grammar.specs.Kinds.{Name, Token, kinds}
use Rattle.grammar.specs.Grammar.{ProgramTree, yield, Within, Program, Begins, BrokenAt}
use Rattle.grammar.specs.Placed.{program_at}
use Rattle.parser.specs.declared.refusals.Refusal.{Refusal}
use Rattle.parser.specs.declared.refusals.Refusal.TheVariants.{TooSoon, Grammar, Depth, NoMemory}

abbrev pub number_of : Refusal → ℕ
number_of TooSoon = 4
number_of (Grammar p) = 4
number_of (Depth p) = 5
number_of NoMemory = 40

abbrev pub Refused : List Token → Refusal → Type 0
Refused ts TooSoon = Begins 32 32 (kinds ts) × ¬ Program 32 32 (kinds ts)
Refused ts (Grammar p) = BrokenAt 32 32 ts 4 p
Refused ts (Depth p) = BrokenAt 32 32 ts 5 p
Refused ts NoMemory = Unit {0}

abbrev pub Answers : {X : Type 0} → List coded.Token → Result X Refusal → Type 0
Answers tokens r = (source : List ℕ) → MatchResult r (λ _. Program 32 32 (kinds (tokens_of source tokens))) (Refused (tokens_of source tokens))

pub record Parsed (ts : List Token) (p : tree.Program Name) : Type 0 where
  pub parse : ProgramTree
  pub within : Within 32 32 parse
  pub spelled : yield parse ≡ kinds ts
  pub placed : p ≡ program_at parse ts

abbrev pub Parses : List coded.Token → Result coded-tree.Program Refusal → Type 0
Parses tokens r = (source : List ℕ) → MatchResult r (λ p. Parsed (tokens_of source tokens) (tree_of source p)) (Refused (tokens_of source tokens))
