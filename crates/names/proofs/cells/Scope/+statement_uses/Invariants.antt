use Rattle.std.proofs.Common.{◌≡◌, drop}
use Rattle.syntax.specs.TreeOf.{statements_of}
use Rattle.names.specs.Scopes.{entries}
use Rattle.names.specs.Uses.{uses_in_statements, first_undeclared, outcome}
use Rattle.names.proofs.cells.Scope.+statement_uses.Given as goal

-- what is left decides
abbrev pub invariant-check_statements-loop-statement : goal.invariant-check_statements-loop-statement
invariant-check_statements-loop-statement l =
    outcome (first_undeclared (entries l.self) (uses_in_statements (statements_of l.self.source.now l.statements)))
    ≡ outcome (first_undeclared (entries l.self) (uses_in_statements (statements_of l.self.source.now (drop l.statement-index l.statements))))
