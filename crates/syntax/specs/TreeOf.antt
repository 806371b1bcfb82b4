-- The syntax tree that the code builds, as a tree over names. The boxes are left out, and names are read from the source.
--   name_of                             the bytes of a name
--   factor_of, term_of, expression_of   the three levels of an expression
--   condition_of, statement_of
--   body_of                             the statement behind a condition
--   row_of                              the statements of a block
--   statements_of                       the same of a list of statements
--   declared_of                         the names of a declaration
--   tree_of                             a whole program
use Rattle.std.specs.Prelude.{ℕ, List, [], ◌∷◌, take, drop, vec_items}
use Rattle.syntax.specs.Tokens.{Name}
use Rattle.syntax.specs.Trees as tree
use Rattle.syntax.specs.declared.tree.Name as coded-name
use Rattle.syntax.specs.declared.tree.Factor.{Factor}
use Rattle.syntax.specs.declared.tree.Term.{Term}
use Rattle.syntax.specs.declared.tree.Expression.{Expression}
use Rattle.syntax.specs.declared.tree.Expression.TheVariants.{First, Negative, Sum', Variable, Number, Parenthesized', One, Product'}
use Rattle.syntax.specs.declared.tree.Condition.{Condition}
use Rattle.syntax.specs.declared.tree.Statement.{Statement, Row_of-Statement, end_of-Statement, more_of-Statement}
use Rattle.syntax.specs.declared.tree.Guarded.{Guarded}
use Rattle.syntax.specs.declared.tree.Statement.TheVariants.{Assign, Scan, Print, If', IfElse', While', Block'}
use Rattle.syntax.specs.declared.tree.Program.{Program}

abbrev pub name_of : List ℕ → coded-name.Name → Name
name_of source n = take n.length (drop n.place source)

abbrev mutual
  pub factor_of : List ℕ → Factor → tree.Factor Name
  factor_of source (Variable n) = tree.name (name_of source n) n.place
  factor_of source (Number value place) = tree.number value place
  factor_of source (Parenthesized' box e) = tree.paren (expression_of source e)

  pub term_of : List ℕ → Term → tree.Term Name
  term_of source (One f) = tree.one (factor_of source f)
  term_of source (Product' box left operator place right) = tree.times (term_of source left) operator place (factor_of source right)

  pub expression_of : List ℕ → Expression → tree.Expression Name
  expression_of source (First t) = tree.first (term_of source t)
  expression_of source (Negative place t) = tree.minus place (term_of source t)
  expression_of source (Sum' box left operator place right) = tree.more (expression_of source left) operator place (term_of source right)

abbrev pub condition_of : List ℕ → Condition → tree.Condition Name
condition_of source c = tree.test (expression_of source c.left) c.relation c.place (expression_of source c.right)

abbrev mutual
  pub statement_of : List ℕ → Statement → tree.Statement Name
  statement_of source (Assign n e) = tree.assign (name_of source n) n.place (expression_of source e)
  statement_of source (Scan n) = tree.scan (name_of source n) n.place
  statement_of source (Print n) = tree.print (name_of source n) n.place
  statement_of source (If' place c box body) = tree.when place (condition_of source c) (statement_of source body)
  statement_of source (IfElse' place c box body else-place else-box else-body) = tree.either place (condition_of source c) (statement_of source body) else-place (statement_of source else-body)
  statement_of source (While' place c box body) = tree.while place (condition_of source c) (statement_of source body)
  statement_of source (Block' shape ss) = tree.block (row_of source ss)

  -- the statements of a block, as they lie in it
  pub row_of : List ℕ → {m : _} → Row_of-Statement m → tree.Statements Name
  row_of source end_of-Statement = tree.none
  row_of source (more_of-Statement s ss) = tree.then (statement_of source s) (row_of source ss)

abbrev pub body_of : List ℕ → Guarded → tree.Statement Name
body_of source g = statement_of source g.body.value

abbrev pub statements_of : List ℕ → List Statement → tree.Statements Name
statements_of source [] = tree.none
statements_of source (s ∷ ss) = tree.then (statement_of source s) (statements_of source ss)

abbrev pub declared_of : List ℕ → List coded-name.Name → List (Name × ℕ)
declared_of source [] = []
declared_of source (n ∷ ns) = (name_of source n, n.place) ∷ declared_of source ns

abbrev pub tree_of : List ℕ → Program → tree.Program Name
tree_of source p = record { declared = declared_of source (vec_items p.declared); statements = statements_of source (vec_items p.statements) }
