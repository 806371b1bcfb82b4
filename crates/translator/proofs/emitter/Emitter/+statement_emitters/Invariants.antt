use Rattle.std.proofs.Common.{◌+◌, ◌*◌, max, drop}
use Rattle.syntax.proofs.tree.Statement.TheLaws as statement
use Rattle.translator.proofs.Patched.{Left}
use Rattle.translator.proofs.emitter.Emitter.+statement_emitters.Given as goal

abbrev pub decreases-guarded : goal.decreases-guarded
decreases-guarded l = 3 * statement.the_size l.guarded.now.body.value + 1

abbrev pub decreases-if_statement : goal.decreases-if_statement
decreases-if_statement l = 3 * statement.the_size l.guarded.now.body.value + 2

abbrev pub decreases-if_else_statement : goal.decreases-if_else_statement
decreases-if_else_statement l = 3 * max (statement.the_size l.first.now.body.value) (statement.the_size l.else_body.now) + 2

abbrev pub decreases-while_statement : goal.decreases-while_statement
decreases-while_statement l = 3 * statement.the_size l.guarded.now.body.value + 2

abbrev pub decreases-statement : goal.decreases-statement
decreases-statement l = 3 * statement.the_size l.statement.now

abbrev pub invariant-statements-loop-statement : goal.invariant-statements-loop-statement
invariant-statements-loop-statement l = Left l.initial.self l.self l.statements (drop l.statement-index l.statements)

abbrev pub decreases-statements : goal.decreases-statements
decreases-statements l = 3 * goal.size-statements l + 1
