-- A block as a list of statements.
use Rattle.std.proofs.Common.{◌≡◌, ℕ, List, Vec, Global, refl, ap, ◌∙◌}
use Rattle.syntax.specs.Trees as tree
use Rattle.syntax.specs.TreeOf.{statement_of, row_of, statements_of}
use Rattle.syntax.specs.declared.tree.Statement.{Statement, Row_of-Statement, end_of-Statement, more_of-Statement, items-the_row-Statement, items_hidden-the_row-Statement-0}
use Rattle.syntax.specs.declared.tree.Statement.TheVariants.{Block, Block'}
use mathlib.Core.Former.{Count}

row_is : (source : List ℕ) (n : _) (row : Row_of-Statement n) → row_of source row ≡ statements_of source (items-the_row-Statement n row)
row_is source n end_of-Statement = refl
row_is source n (more_of-Statement s ss) = ap (tree.then (statement_of source s)) (row_is source _ ss)

abbrev inside : Statement → (n : Count) × Row_of-Statement n
inside (Block' _ row) = (_, row)
inside _ = (_, end_of-Statement)

pub block_of : (source : List ℕ) (ss : Vec Statement Global) → statement_of source (Block ss) ≡ tree.block (statements_of source ss.items)
block_of source ss =
    let row = inside (Block ss) in
    ap tree.block (row_is source row.0 row.1 ∙ ap (statements_of source) (items_hidden-the_row-Statement-0 ss))
