use Rattle.std.proofs.Common.{rules, ◌∙◌}
use Rattle.syntax.proofs.Blocks.{block_of}
use Rattle.translator.proofs.Patched.{guards, emits_if, emits_if_else, emits_while, one_less, none_left}
use Rattle.translator.proofs.emitter.Emitter.+statement_emitters.Goals as goal

pub guarded-returns : goal.guarded-returns
guarded-returns t c =
    guards c.args.guarded.now c.deref.result.now c.len-jump.result c.deref.ensures c.in_ok-condition.ensures (c.len-jump.ensures ∙ c.condition.new.self.code.ok.0) c.in_ok-put.ensures c.in_ok-statement.ensures

pub if_statement-returns : goal.if_statement-returns
if_statement-returns t c =
    emits_if c.args.guarded.now c.in_ok-branch.branch c.in_ok-branch.ensures
    c.in_ok-end.end c.in_ok-end.ensures c.patch.ensures.scope c.patch.ensures.code

pub while_statement-returns : goal.while_statement-returns
while_statement-returns t c =
    emits_while c.args.guarded.now c.in_ok-branch.branch c.in_ok-branch.ensures
    c.in_ok-start.start c.in_ok-exit.exit c.in_ok-start.ensures c.in_ok-put.ensures c.in_ok-exit.ensures c.patch.ensures.scope c.patch.ensures.code

pub if_else_statement-returns : goal.if_else_statement-returns
if_else_statement-returns t c =
    emits_if_else c.args.first.now c.in_ok-branch.branch c.in_ok-branch.ensures
    c.args.else_place c.args.else_body.now c.len-skip.result c.in_ok-end.end c.in_ok-second.second (c.len-skip.ensures ∙ c.guarded.new.self.code.ok.0) c.in_ok-put.ensures
    c.in_ok-second.ensures c.patch.ensures.scope c.patch.ensures.code c.in_ok-statement.ensures c.in_ok-end.ensures c.patch-2.ensures.scope c.patch-2.ensures.code

pub statement-returns-in-Block : goal.statement-returns-in-Block
statement-returns-in-Block t c = search (rules, block_of)

pub statements-loop-statement-preserved : goal.statements-loop-statement-preserved
statements-loop-statement-preserved t c = one_less c.args.statements.now c.loop-statement.statement-index _ c.loop-statement-test.true c.statement-item.is c.loop-statement.invariant c.in_ok-statement.ensures

pub statements-returns : goal.statements-returns
statements-returns t c = none_left c.args.statements.now c.loop-statement.statement-index c.loop-statement-test.false c.loop-statement.invariant
