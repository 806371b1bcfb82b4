-- The questions put to the names of a program.
--   Named     at most 64 names are declared, each once, and every name used is declared
--   Refuses   what a refusal says: the question of its number is the first that is answered no, at its place
--   Answers   a program is named well, or refused
use Rattle.std.specs.Prelude.{Result, MatchResult}
use Rattle.syntax.specs.Tokens.{Name}
use Rattle.syntax.specs.Trees.{Program}
use Rattle.names.specs.declared.refusals.Refusal.{Refusal}
use Rattle.names.specs.declared.refusals.Refusal.TheVariants as refusal
use Rattle.names.specs.Declares as declares
use Rattle.names.specs.Declares.{Declaration}
use Rattle.names.specs.Uses.{uses_in_statements, AllDeclared, FirstUndeclared}

pub record Named (p : Program Name) : Type 0 where
  pub declaration : Declaration p.declared
  pub used : AllDeclared p.declared (uses_in_statements p.statements)

abbrev pub Refuses : Program Name → Refusal → Type 0
Refuses p (refusal.TooMany q) = declares.Refuses p.declared (refusal.TooMany q)
Refuses p (refusal.Repeated q) = declares.Refuses p.declared (refusal.Repeated q)
Refuses p (refusal.Undeclared q) = Declaration p.declared × FirstUndeclared p.declared (uses_in_statements p.statements) q

abbrev pub Answers : Program Name → Result (Unit {0}) Refusal → Type 0
Answers p r = MatchResult r (λ _. Named p) (λ e. Refuses p e)
