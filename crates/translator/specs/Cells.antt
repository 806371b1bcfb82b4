-- Trees with cells for names.
--   cells…   the same tree, each name given its cell's number by a table
use Rattle.std.specs.Prelude.{ℕ}
use Rattle.syntax.specs.Trees.{Expression, first, minus, more, Term, one, times, Factor, name, number, paren, Condition, test, Statement, assign, scan, print, when, either, while, block, Statements, none, then}

module _ {N : Type 0} (tab : N → ℕ) where
  abbrev mutual
    pub cells_of_expression : Expression N → Expression ℕ
    cells_of_expression (first t) = first (cells_of_term t)
    cells_of_expression (minus p t) = minus p (cells_of_term t)
    cells_of_expression (more e o p t) = more (cells_of_expression e) o p (cells_of_term t)

    pub cells_of_term : Term N → Term ℕ
    cells_of_term (one f) = one (cells_of_factor f)
    cells_of_term (times t o p f) = times (cells_of_term t) o p (cells_of_factor f)

    pub cells_of_factor : Factor N → Factor ℕ
    cells_of_factor (name x p) = name (tab x) p
    cells_of_factor (number z p) = number z p
    cells_of_factor (paren e) = paren (cells_of_expression e)

  abbrev pub cells_of_condition : Condition N → Condition ℕ
  cells_of_condition (test l r p e) = test (cells_of_expression l) r p (cells_of_expression e)

  abbrev mutual
    pub cells_of_statement : Statement N → Statement ℕ
    cells_of_statement (assign x p e) = assign (tab x) p (cells_of_expression e)
    cells_of_statement (scan x p) = scan (tab x) p
    cells_of_statement (print x p) = print (tab x) p
    cells_of_statement (when p c s) = when p (cells_of_condition c) (cells_of_statement s)
    cells_of_statement (either p c s q s') = either p (cells_of_condition c) (cells_of_statement s) q (cells_of_statement s')
    cells_of_statement (while p c s) = while p (cells_of_condition c) (cells_of_statement s)
    cells_of_statement (block ss) = block (cells_of_statements ss)

    pub cells_of_statements : Statements N → Statements ℕ
    cells_of_statements none = none
    cells_of_statements (then s ss) = then (cells_of_statement s) (cells_of_statements ss)
