-- The names that stand in statements.
--   uses_in_…         the names of a tree, or what stands for them, each with its place, in the order of the source
--   Declared          some entry has the name
--   AllDeclared       every name used is declared
--   FirstUndeclared   the first name used that is not declared stands at this place
--   first_undeclared  where that is
--   outcome           how a check of the names used ends
--   Checks            a check of the names used in a scope ends so
use Rattle.std.specs.Prelude.{◌≡◌, ℕ, ◌<◌, cond, List, [], ◌∷◌, ◌++◌, length, is_some, Some, None, Ok, Err, Option, Result}
use Rattle.syntax.specs.Tokens.{Name}
use Rattle.syntax.specs.Trees.{Factor, name, number, paren, Term, one, times, Expression, first, minus, more, Condition, test, Statement, assign, scan, print, when, either, while, block, Statements, none, then}
use Rattle.names.specs.declared.refusals.Refusal.{Refusal}
use Rattle.names.specs.declared.refusals.Refusal.TheVariants as refusal
use Rattle.names.specs.Cells.{Entries, name_at, place_at, cell_of, Undeclared}
use Rattle.names.specs.Scopes.{entries}
use Rattle.names.specs.declared.cells.Scope.{Scope}

module _ {N : Type 0} where
  abbrev mutual
    pub uses_in_factor : Factor N → List (N × ℕ)
    uses_in_factor (name x p) = (x, p) ∷ []
    uses_in_factor (number v p) = []
    uses_in_factor (paren e) = uses_in_expression e

    pub uses_in_term : Term N → List (N × ℕ)
    uses_in_term (one f) = uses_in_factor f
    uses_in_term (times t o p f) = uses_in_term t ++ uses_in_factor f

    pub uses_in_expression : Expression N → List (N × ℕ)
    uses_in_expression (first t) = uses_in_term t
    uses_in_expression (minus p t) = uses_in_term t
    uses_in_expression (more e o p t) = uses_in_expression e ++ uses_in_term t

  abbrev pub uses_in_condition : Condition N → List (N × ℕ)
  uses_in_condition (test l r p e) = uses_in_expression l ++ uses_in_expression e

  abbrev mutual
    pub uses_in_statement : Statement N → List (N × ℕ)
    uses_in_statement (assign x p e) = ((x, p) ∷ []) ++ uses_in_expression e
    uses_in_statement (scan x p) = (x, p) ∷ []
    uses_in_statement (print x p) = (x, p) ∷ []
    uses_in_statement (when p c s) = uses_in_condition c ++ uses_in_statement s
    uses_in_statement (either p c s q t) = uses_in_condition c ++ (uses_in_statement s ++ uses_in_statement t)
    uses_in_statement (while p c s) = uses_in_condition c ++ uses_in_statement s
    uses_in_statement (block ss) = uses_in_statements ss

    pub uses_in_statements : Statements N → List (N × ℕ)
    uses_in_statements none = []
    uses_in_statements (then s ss) = uses_in_statement s ++ uses_in_statements ss

abbrev pub Declared : Entries → Name → Type 0
Declared es x = (i : ℕ) × (i < length es) × (name_at es i ≡ x)

abbrev pub AllDeclared : Entries → Entries → Type 0
AllDeclared es us = (j : ℕ) → j < length us → Declared es (name_at us j)

pub record FirstUndeclared (es us : Entries) (place : ℕ) : Type 0 where
  pub index : ℕ
  pub within : index < length us
  pub stands : place ≡ place_at us index
  pub unknown : Undeclared es (name_at us index)
  pub known : (j : ℕ) → j < index → Declared es (name_at us j)

abbrev pub first_undeclared : Entries → Entries → Option ℕ
first_undeclared es [] = None
first_undeclared es (u ∷ us) = cond (is_some (cell_of es u.0)) (first_undeclared es us) (Some u.1)

abbrev pub outcome : Option ℕ → Result (Unit {0}) Refusal
outcome None = Ok tt
outcome (Some p) = Err (refusal.Undeclared p)

abbrev pub Checks : Scope → Entries → Result (Unit {0}) Refusal → Type 0
Checks s us r = r ≡ outcome (first_undeclared (entries s) us)
