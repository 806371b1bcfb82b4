-- How deep parentheses stand in each other.
--   depth_of_… of each piece; a piece without parentheses has depth 0
use Rattle.std.specs.Prelude.{ℕ, suc, max}
use Rattle.syntax.specs.Trees.{Expression, first, minus, more, Term, one, times, Factor, name, number, paren, Condition, test, Statement, assign, scan, print, when, either, while, block, Statements, none, then}

module _ {N : Type 0} where
  abbrev mutual
    pub depth_of_expression : Expression N → ℕ
    depth_of_expression (first t) = depth_of_term t
    depth_of_expression (minus p t) = depth_of_term t
    depth_of_expression (more e o p t) = max (depth_of_expression e) (depth_of_term t)

    pub depth_of_term : Term N → ℕ
    depth_of_term (one f) = depth_of_factor f
    depth_of_term (times t o p f) = max (depth_of_term t) (depth_of_factor f)

    pub depth_of_factor : Factor N → ℕ
    depth_of_factor (name n p) = 0
    depth_of_factor (number z p) = 0
    depth_of_factor (paren e) = suc (depth_of_expression e)

  abbrev pub depth_of_condition : Condition N → ℕ
  depth_of_condition (test l r p e) = max (depth_of_expression l) (depth_of_expression e)

  abbrev mutual
    pub depth_of_statement : Statement N → ℕ
    depth_of_statement (assign n p e) = depth_of_expression e
    depth_of_statement (scan n p) = 0
    depth_of_statement (print n p) = 0
    depth_of_statement (when p c s) = max (depth_of_condition c) (depth_of_statement s)
    depth_of_statement (either p c s q s') = max (depth_of_condition c) (max (depth_of_statement s) (depth_of_statement s'))
    depth_of_statement (while p c s) = max (depth_of_condition c) (depth_of_statement s)
    depth_of_statement (block ss) = depth_of_statements ss

    pub depth_of_statements : Statements N → ℕ
    depth_of_statements none = 0
    depth_of_statements (then s ss) = max (depth_of_statement s) (depth_of_statements ss)
