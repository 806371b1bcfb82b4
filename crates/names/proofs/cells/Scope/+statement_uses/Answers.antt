use Rattle.std.proofs.Common.{rules, ◌∙◌}
use Rattle.syntax.proofs.Blocks.{block_of}
use Rattle.names.specs.Scopes.{entries}
use Rattle.names.proofs.Sequences.{statement_then}
use Rattle.names.proofs.cells.Scope.+statement_uses.Goals as goal

pub check_statement-returns-in-Block : goal.check_statement-returns-in-Block
check_statement-returns-in-Block t c = search (rules, block_of)

pub check_statements-returns-in_err-check_statement : goal.check_statements-returns-in_err-check_statement
check_statements-returns-in_err-check_statement t c =
    let refused = c.loop-statement.invariant ∙ statement_then c.args.self.now.source.now (entries c.args.self.now) c.args.statements.now c.loop-statement.statement-index _ _ c.loop-statement-test.true c.statement-item.is c.in_err-check_statement.ensures in
    search rules

pub check_statements-loop-statement-preserved : goal.check_statements-loop-statement-preserved
check_statements-loop-statement-preserved t c =
    c.loop-statement.invariant ∙ statement_then c.args.self.now.source.now (entries c.args.self.now) c.args.statements.now c.loop-statement.statement-index _ _ c.loop-statement-test.true c.statement-item.is c.in_ok-check_statement.ensures
