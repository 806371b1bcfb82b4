-- The code of the tree that the code has, its names looked up in a scope.
--   factor_code, term_code, expression_code, condition_code  the code of a piece
--   statement_code, statements_code                          the code of statements that stand at an address
--   body_code                                                the code of the statement behind a condition
--   if_code, if_else_code, while_code                        the same of a statement by its parts
use Rattle.std.specs.Prelude.{ℕ, List}
use Rattle.syntax.specs.declared.tree.Factor.{Factor}
use Rattle.syntax.specs.declared.tree.Term.{Term}
use Rattle.syntax.specs.declared.tree.Expression.{Expression}
use Rattle.syntax.specs.declared.tree.Condition.{Condition}
use Rattle.syntax.specs.declared.tree.Guarded.{Guarded}
use Rattle.syntax.specs.declared.tree.Statement.{Statement}
use Rattle.syntax.specs.Trees as Tree
use Rattle.syntax.specs.Trees.{when, either, while}
use Rattle.syntax.specs.TreeOf.{factor_of, term_of, expression_of, condition_of, body_of, statement_of, statements_of}
use Rattle.names.specs.declared.cells.Scope.{Scope}
use Rattle.translator.specs.Emitters.{table_of}
use Rattle.translator.specs.Cells.{cells_of_factor, cells_of_term, cells_of_expression, cells_of_condition, cells_of_statement, cells_of_statements}
use Rattle.translator.specs.Linear.{Code, code_of_factor, code_of_term, code_of_expression, code_of_condition, code_of_statement, code_of_statements}

abbrev pub factor_code : Scope → Factor → Code
factor_code s f = code_of_factor (cells_of_factor (table_of s) (factor_of s.source.now f))

abbrev pub term_code : Scope → Term → Code
term_code s t = code_of_term (cells_of_term (table_of s) (term_of s.source.now t))

abbrev pub expression_code : Scope → Expression → Code
expression_code s e = code_of_expression (cells_of_expression (table_of s) (expression_of s.source.now e))

abbrev pub condition_code : Scope → Condition → Code
condition_code s c = code_of_condition (cells_of_condition (table_of s) (condition_of s.source.now c))

abbrev pub statement_code : Scope → Statement → ℕ → Code
statement_code s x a = code_of_statement (cells_of_statement (table_of s) (statement_of s.source.now x)) a

abbrev pub body_code : Scope → Guarded → ℕ → Code
body_code s g a = code_of_statement (cells_of_statement (table_of s) (body_of s.source.now g)) a

abbrev pub statements_code : Scope → List Statement → ℕ → Code
statements_code s xs a = code_of_statements (cells_of_statements (table_of s) (statements_of s.source.now xs)) a

module _ (s : Scope) where
  abbrev cells : Statement → Tree.Statement ℕ
  cells x = cells_of_statement (table_of s) (statement_of s.source.now x)

  abbrev test : Guarded → Tree.Condition ℕ
  test g = cells_of_condition (table_of s) (condition_of s.source.now g.condition)

  abbrev body : Guarded → Tree.Statement ℕ
  body g = cells_of_statement (table_of s) (body_of s.source.now g)

  abbrev pub if_code : Guarded → ℕ → Code
  if_code g a = code_of_statement (when g.place (test g) (body g)) a

  abbrev pub if_else_code : Guarded → ℕ → Statement → ℕ → Code
  if_else_code g q y a = code_of_statement (either g.place (test g) (body g) q (cells y)) a

  abbrev pub while_code : Guarded → ℕ → Code
  while_code g a = code_of_statement (while g.place (test g) (body g)) a
