-- What the readers of declarations and of a whole program promise.
--   AreNames           tokens are those of a declaration behind its first name, and these are the names
--   IsDeclaration      tokens are those of a declaration, if any, and these are the names
--   IsProgram          tokens, if no more are left, are those of a parse tree within both depths, and this is its program
--   AreMore            tokens are those of more names, put behind those before them
--   ReadsNames         the names of a declaration behind its first, up to the semicolon, put behind those that were read before
--   ReadsDeclaration   a declaration, if there is one
--   ReadsProgram       a whole program
use Rattle.std.specs.Prelude.{◌≡◌, ℕ, List, [], ◌∷◌, ◌++◌, vec_items, Result, Vec}
use Rattle.std.specs.declared.alloc.Global.{Global}
use Rattle.syntax.specs.declared.tree.Name as coded-name
use Rattle.syntax.specs.declared.tree.Program as coded
use Rattle.syntax.specs.Trees as tree
use Rattle.syntax.specs.TreeOf.{declared_of, tree_of}
use Rattle.grammar.specs.Kinds.{Name, Token, kinds}
use Rattle.grammar.specs.Grammar.{ProgramTree, yield, Within, names_onto, declaration_onto}
use Rattle.grammar.specs.Placed.{names_at, declaration_at, program_at}
use Rattle.grammar.specs.Automaton.{whole, Symbol, names, tail, body, start}
use Rattle.parser.specs.declared.reader.Reader.{Reader}
use Rattle.parser.specs.declared.refusals.Refusal.{Refusal}
use Rattle.parser.specs.Reads.{ahead, Reads, Spells}

abbrev pub AreNames : List Token → List (Name × ℕ) → List Token → Type 0
AreNames = Spells names_onto names_at (λ _. Unit {0})

abbrev pub IsDeclaration : List Token → List (Name × ℕ) → List Token → Type 0
IsDeclaration = Spells declaration_onto declaration_at (λ _. Unit {0})

pub record IsProgram (us : List Token) (p : tree.Program Name) (vs : List Token) : Type 0 where
  pub parse : ProgramTree
  pub within : Within 32 32 parse
  pub spelled : vs ≡ [] → yield parse ≡ kinds us
  pub placed : p ≡ program_at parse us

pub record AreMore (source : List ℕ) (us : List Token) (read all : List coded-name.Name) (vs : List Token) : Type 0 where
  pub more : List coded-name.Name
  pub all_are : all ≡ read ++ more
  pub spelled : AreNames us (declared_of source more) vs

abbrev pub ReadsNames : {X : Type 0} → Reader → List coded-name.Name → Result X Refusal → Reader → List coded-name.Name → Type 0
ReadsNames before read r after all =
    (source : List ℕ) (s : List Symbol)
    → Reads (ahead source before) (names ∷ s) r (ahead source after) s
    (λ _. AreMore source (ahead source before) read all (ahead source after))

abbrev pub ReadsDeclaration : Reader → Result (Vec coded-name.Name Global) Refusal → Reader → Type 0
ReadsDeclaration before r after =
    (source : List ℕ) (s : List Symbol)
    → Reads (ahead source before) (body 32 31 ∷ s) r (ahead source after) (tail 32 [] (whole 31) ∷ s)
    (λ ns. IsDeclaration (ahead source before) (declared_of source (vec_items ns)) (ahead source after))

abbrev pub ReadsProgram : Reader → Result coded.Program Refusal → Reader → Type 0
ReadsProgram before r after =
    (source : List ℕ)
    → Reads (ahead source before) (start 31 32) r (ahead source after) []
    (λ p. IsProgram (ahead source before) (tree_of source p) (ahead source after))
