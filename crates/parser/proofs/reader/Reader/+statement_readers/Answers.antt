use Rattle.std.proofs.Common.{rules, [], ◌∷◌, ◌++◌, sym, refl, ap, ◌∙◌, arith}
use Rattle.syntax.specs.Trees.{none, then}
use Rattle.syntax.specs.TreeOf.{statement_of, statements_of}
use Rattle.syntax.proofs.Blocks.{block_of}
use Rattle.grammar.specs.Kinds.{Scanf, Printf, If, While, LeftBrace, LeftParen, RightParen, Format, Comma, Semicolon, Ampersand, Assign}
use Rattle.grammar.specs.Grammar.{statement_onto, statements_onto}
use Rattle.grammar.specs.Placed.{statement_at, statements_at}
use Rattle.grammar.specs.Automaton.{at_semicolon, braces, token, identifier, expression, statement, tail, guard}
use Rattle.parser.specs.Readers.{tokens}
use Rattle.parser.proofs.Feeds.{gone, onward, read_as, read_mark, peeked_fewer, missed, met, taken, inner_read, else_read, no_else, end_read, no_end}
use Rattle.parser.proofs.Spelled.{respelled, retreed, named_read, behind_one, one_behind}
use Rattle.parser.proofs.Joined.{scan_spelled, print_spelled, when_guarded, either_guarded, while_guarded, block_spelled, none_spelled, then_spelled, before_none, before_more, relevelled}
use Rattle.parser.proofs.reader.Reader.+statement_readers.Goals as goal

pub statement-returns-in_err-value-in-Name-clause-reads : goal.statement-returns-in_err-value-in-Name-clause-reads
statement-returns-in_err-value-in-Name-clause-reads t c = λ source es x s.
    let name = read_as source c.in_ok-token.ensures.read c.in-Name.is in
    let step = taken name (statement 32 c.args.depth es x ∷ s) (token Assign ∷ (expression 32 at_semicolon ∷ (tail 32 es x ∷ s))) refl in
    gone _ c.from_residual-in_err-value-in-Name.result _ c.from_residual-in_err-value-in-Name.ensures.1 step (c.in_err-value-in-Name.ensures.reads source (tail 32 es x ∷ s))

pub statement-returns-in_ok-value-in-Name-clause-reads : goal.statement-returns-in_ok-value-in-Name-clause-reads
statement-returns-in_ok-value-in-Name-clause-reads t c = λ source es x s.
    let name = read_as source c.in_ok-token.ensures.read c.in-Name.is in
    let step = taken name (statement 32 c.args.depth es x ∷ s) (token Assign ∷ (expression 32 at_semicolon ∷ (tail 32 es x ∷ s))) refl in
    let value = c.in_ok-value-in-Name.ensures.reads source (tail 32 es x ∷ s) in
    (step ∙ value.0, respelled statement_onto statement_at _ (named_read source c.into.ensures name) (value.1 c.args.depth c.into.result.place _))

pub statement-returns-in_err-name-in-Mark-Scanf-clause-reads : goal.statement-returns-in_err-name-in-Mark-Scanf-clause-reads
statement-returns-in_err-name-in-Mark-Scanf-clause-reads t c = λ source es x s.
    let word = read_mark source Scanf c.in_ok-token.ensures.read c.in-Mark-Scanf.is (search rules) in
    let step = taken word (statement 32 c.args.depth es x ∷ s) (tokens (LeftParen ∷ (Format ∷ (Comma ∷ (Ampersand ∷ [])))) (identifier ∷ tokens (RightParen ∷ (Semicolon ∷ [])) (tail 32 es x ∷ s))) refl in
    gone _ c.from_residual-in_err-name-in-Mark-Scanf.result _ c.from_residual-in_err-name-in-Mark-Scanf.ensures.1 step (c.in_err-name-in-Mark-Scanf.ensures.reads source (tail 32 es x ∷ s))

pub statement-returns-in_ok-name-in-Mark-Scanf-clause-reads : goal.statement-returns-in_ok-name-in-Mark-Scanf-clause-reads
statement-returns-in_ok-name-in-Mark-Scanf-clause-reads t c = λ source es x s.
    let word = read_mark source Scanf c.in_ok-token.ensures.read c.in-Mark-Scanf.is (search rules) in
    let step = taken word (statement 32 c.args.depth es x ∷ s) (tokens (LeftParen ∷ (Format ∷ (Comma ∷ (Ampersand ∷ [])))) (identifier ∷ tokens (RightParen ∷ (Semicolon ∷ [])) (tail 32 es x ∷ s))) refl in
    let call = c.in_ok-name-in-Mark-Scanf.ensures.reads source (tail 32 es x ∷ s) in
    (step ∙ call.0, respelled statement_onto statement_at _ word (scan_spelled c.args.depth _ call.1.opened call.1.named call.1.closed))

pub statement-returns-in_err-name-in-Mark-Printf-clause-reads : goal.statement-returns-in_err-name-in-Mark-Printf-clause-reads
statement-returns-in_err-name-in-Mark-Printf-clause-reads t c = λ source es x s.
    let word = read_mark source Printf c.in_ok-token.ensures.read c.in-Mark-Printf.is (search rules) in
    let step = taken word (statement 32 c.args.depth es x ∷ s) (tokens (LeftParen ∷ (Format ∷ (Comma ∷ []))) (identifier ∷ tokens (RightParen ∷ (Semicolon ∷ [])) (tail 32 es x ∷ s))) refl in
    gone _ c.from_residual-in_err-name-in-Mark-Printf.result _ c.from_residual-in_err-name-in-Mark-Printf.ensures.1 step (c.in_err-name-in-Mark-Printf.ensures.reads source (tail 32 es x ∷ s))

pub statement-returns-in_ok-name-in-Mark-Printf-clause-reads : goal.statement-returns-in_ok-name-in-Mark-Printf-clause-reads
statement-returns-in_ok-name-in-Mark-Printf-clause-reads t c = λ source es x s.
    let word = read_mark source Printf c.in_ok-token.ensures.read c.in-Mark-Printf.is (search rules) in
    let step = taken word (statement 32 c.args.depth es x ∷ s) (tokens (LeftParen ∷ (Format ∷ (Comma ∷ []))) (identifier ∷ tokens (RightParen ∷ (Semicolon ∷ [])) (tail 32 es x ∷ s))) refl in
    let call = c.in_ok-name-in-Mark-Printf.ensures.reads source (tail 32 es x ∷ s) in
    (step ∙ call.0, respelled statement_onto statement_at _ word (print_spelled c.args.depth _ call.1.opened call.1.named call.1.closed))

pub statement-returns-in_ok-inner-in-Mark-If-clause-reads : goal.statement-returns-in_ok-inner-in-Mark-If-clause-reads
statement-returns-in_ok-inner-in-Mark-If-clause-reads t c = λ source es x s.
    let inner = c.in_ok-inner-in-Mark-If.field-0 in
    let word = read_mark source If c.in_ok-token.ensures.read c.in-Mark-If.is (search rules) in
    let step = inner_read word c.in_ok-inner-in-Mark-If.ensures es x s (guard 32 (statement 32 inner (inner ∷ es) x ∷ s)) refl in
    onward _ _ _ c.if_statement.result step (λ b h. relevelled c.args.depth inner word c.in_ok-inner-in-Mark-If.ensures h) (c.if_statement.ensures.reads source es x s)

pub statement-returns-in_err-guarded-in-Mark-While-clause-reads : goal.statement-returns-in_err-guarded-in-Mark-While-clause-reads
statement-returns-in_err-guarded-in-Mark-While-clause-reads t c = λ source es x s.
    let inner = c.in_ok-inner-in-Mark-While.field-0 in
    let word = read_mark source While c.in_ok-token.ensures.read c.in-Mark-While.is (search rules) in
    let step = inner_read word c.in_ok-inner-in-Mark-While.ensures es x s (guard 32 (statement 32 inner es x ∷ s)) refl in
    gone _ c.from_residual-in_err-guarded-in-Mark-While.result _ c.from_residual-in_err-guarded-in-Mark-While.ensures.1 step (c.in_err-guarded-in-Mark-While.ensures.reads source es x s)

pub statement-returns-in_ok-guarded-in-Mark-While-clause-reads : goal.statement-returns-in_ok-guarded-in-Mark-While-clause-reads
statement-returns-in_ok-guarded-in-Mark-While-clause-reads t c = λ source es x s.
    let inner = c.in_ok-inner-in-Mark-While.field-0 in
    let word = read_mark source While c.in_ok-token.ensures.read c.in-Mark-While.is (search rules) in
    let step = inner_read word c.in_ok-inner-in-Mark-While.ensures es x s (guard 32 (statement 32 inner es x ∷ s)) refl in
    let guarded = c.in_ok-guarded-in-Mark-While.ensures.reads source es x s in
    (step ∙ guarded.0, relevelled c.args.depth inner word c.in_ok-inner-in-Mark-While.ensures (while_guarded source inner c.in_ok-token.token.place guarded.1))

pub statement-returns-in_err-statements-in-Mark-LeftBrace-clause-reads : goal.statement-returns-in_err-statements-in-Mark-LeftBrace-clause-reads
statement-returns-in_err-statements-in-Mark-LeftBrace-clause-reads t c = λ source es x s.
    let inner = c.in_ok-inner-in-Mark-LeftBrace.field-0 in
    let word = read_mark source LeftBrace c.in_ok-token.ensures.read c.in-Mark-LeftBrace.is (search rules) in
    let step = inner_read word c.in_ok-inner-in-Mark-LeftBrace.ensures es x s (statement 32 inner [] (braces inner) ∷ (tail 32 es x ∷ s)) refl in
    gone _ c.from_residual-in_err-statements-in-Mark-LeftBrace.result _ c.from_residual-in_err-statements-in-Mark-LeftBrace.ensures.1 step (c.in_err-statements-in-Mark-LeftBrace.ensures.reads source (tail 32 es x ∷ s))

pub statement-returns-in_ok-statements-in-Mark-LeftBrace-clause-reads : goal.statement-returns-in_ok-statements-in-Mark-LeftBrace-clause-reads
statement-returns-in_ok-statements-in-Mark-LeftBrace-clause-reads t c = λ source es x s.
    let inner = c.in_ok-inner-in-Mark-LeftBrace.field-0 in
    let word = read_mark source LeftBrace c.in_ok-token.ensures.read c.in-Mark-LeftBrace.is (search rules) in
    let step = inner_read word c.in_ok-inner-in-Mark-LeftBrace.ensures es x s (statement 32 inner [] (braces inner) ∷ (tail 32 es x ∷ s)) refl in
    let block = c.in_ok-statements-in-Mark-LeftBrace.ensures.reads source (tail 32 es x ∷ s) in
    (step ∙ block.0, relevelled c.args.depth inner word c.in_ok-inner-in-Mark-LeftBrace.ensures (retreed statement_onto statement_at _ (block_of source c.in_ok-statements-in-Mark-LeftBrace.statements) (block.1 c.in_ok-token.token.place)))

pub body-returns-in_err-statement-clause-reads : goal.body-returns-in_err-statement-clause-reads
body-returns-in_err-statement-clause-reads t c = λ source es x s. gone _ c.from_residual.result _ c.from_residual.ensures.1 refl (c.in_err-statement.ensures.reads source es x s)

pub body-returns-clause-reads : goal.body-returns-clause-reads
body-returns-clause-reads t c = λ source es x s.
    let read = c.in_ok-statement.ensures.reads source es x s in
    (read.0, retreed statement_onto statement_at _ (ap (statement_of source) c.in_ok-boxed.ensures.ok) read.1)

pub guarded-returns-in_err-condition-clause-reads : goal.guarded-returns-in_err-condition-clause-reads
guarded-returns-in_err-condition-clause-reads t c = λ source es x s. gone _ c.from_residual.result _ c.from_residual.ensures.1 refl (c.in_err-condition.ensures.reads source (statement 32 c.args.depth es x ∷ s))

pub guarded-returns-in_err-body-clause-reads : goal.guarded-returns-in_err-body-clause-reads
guarded-returns-in_err-body-clause-reads t c = λ source es x s.
    gone _ c.from_residual-in_err-body.result _ c.from_residual-in_err-body.ensures.1
    (c.in_ok-condition.ensures.reads source (statement 32 c.args.depth es x ∷ s)).0
    (c.in_err-body.ensures.reads source es x s)

pub guarded-returns-clause-reads : goal.guarded-returns-clause-reads
guarded-returns-clause-reads t c = λ source es x s.
    let condition = c.in_ok-condition.ensures.reads source (statement 32 c.args.depth es x ∷ s) in
    let body = c.in_ok-body.ensures.reads source es x s in
    (condition.0 ∙ body.0, record { placed = refl; behind = _; condition = condition.1; body = body.1 })

pub if_statement-returns-in_err-first-clause-reads : goal.if_statement-returns-in_err-first-clause-reads
if_statement-returns-in_err-first-clause-reads t c = λ source es x s. gone _ c.from_residual.result _ c.from_residual.ensures.1 refl (c.in_err-first.ensures.reads source (c.args.depth ∷ es) x s)

pub if_statement-returns-in_default-clause-reads : goal.if_statement-returns-in_default-clause-reads
if_statement-returns-in_default-clause-reads t c = λ source es x s.
    let first = c.in_ok-first.ensures.reads source (c.args.depth ∷ es) x s in
    let none = c.in_default.ensures.read source in
    (first.0 ∙ no_else _ _ none c.args.depth es x s, when_guarded source c.args.depth c.args.place first.1 none)

pub if_statement-returns-in_err-else_body-clause-reads : goal.if_statement-returns-in_err-else_body-clause-reads
if_statement-returns-in_err-else_body-clause-reads t c = λ source es x s.
    gone _ c.from_residual-in_err-else_body.result _ c.from_residual-in_err-else_body.ensures.1
    ((c.in_ok-first.ensures.reads source (c.args.depth ∷ es) x s).0 ∙ else_read (c.in-Some.ensures.read source) c.args.depth es x s)
    (c.in_err-else_body.ensures.reads source es x s)

pub if_statement-returns-clause-reads : goal.if_statement-returns-clause-reads
if_statement-returns-clause-reads t c = λ source es x s.
    let first = c.in_ok-first.ensures.reads source (c.args.depth ∷ es) x s in
    let word = c.in-Some.ensures.read source in
    let other = c.in_ok-else_body.ensures.reads source es x s in
    (first.0 ∙ else_read word c.args.depth es x s ∙ other.0, either_guarded source c.args.depth c.args.place first.1 word other.1)

pub block-returns-in_err-first-clause-reads : goal.block-returns-in_err-first-clause-reads
block-returns-in_err-first-clause-reads t c = λ source s. gone _ c.from_residual.result _ c.from_residual.ensures.1 refl (c.in_err-first.ensures.reads source [] (braces c.args.depth) s)

pub block-returns-in_err-statements-clause-reads : goal.block-returns-in_err-statements-clause-reads
block-returns-in_err-statements-clause-reads t c = λ source s.
    gone _ c.from_residual-in_err-statements.result _ c.from_residual-in_err-statements.ensures.1
    (c.in_ok-first.ensures.reads source [] (braces c.args.depth) s).0
    (c.in_err-statements.ensures.reads source (braces c.args.depth) s refl refl)

pub block-returns-clause-reads : goal.block-returns-clause-reads
block-returns-clause-reads t c = λ source s.
    let first = c.in_ok-first.ensures.reads source [] (braces c.args.depth) s in
    let rest = c.in_ok-statements.ensures.reads source (braces c.args.depth) s refl refl in
    let all = behind_one c.in_ok-first.first rest.1.all_are c.in_ok-push.ensures.items c.new-statements.ensures.items in
    (first.0 ∙ rest.0, λ p. block_spelled c.args.depth p (ap (statements_of source) all) first.1 rest.1.spelled)

pub statements-returns-in_err-statement-clause-reads : goal.statements-returns-in_err-statement-clause-reads
statements-returns-in_err-statement-clause-reads t c = λ source x s e l.
    gone _ c.from_residual.result _ c.from_residual.ensures.1
    (c.loop-end.invariant.0 source x s e l ∙ no_end x _ _ e l (missed _ _ c.accept.result c.loop-end-test.ensures (c.accept.ensures.read source)) s)
    (c.in_err-statement.ensures.reads source [] x s)

pub statements-loop-end-preserved : goal.statements-loop-end-preserved
statements-loop-end-preserved t c =
    let kept = c.loop-end.invariant in
    let read = c.in_ok-statement.statement in (
      λ source x s e l.
          kept.0 source x s e l ∙ no_end x _ _ e l (missed _ _ c.accept.result c.loop-end-test.ensures (c.accept.ensures.read source)) s ∙ (c.in_ok-statement.ensures.reads source [] x s).0,
      omega (arith, kept.1, peeked_fewer _ _ c.accept.result c.accept.ensures.fewer, c.in_ok-statement.ensures.less),
      kept.2 ++ (read ∷ []),
      one_behind _ kept.2 read c.in_ok-push.ensures.items kept.3,
      λ source ss vs h.
          retreed statements_onto statements_at _ (before_more source kept.2 read ss)
          (kept.4 source (then (statement_of source read) ss) vs
          (respelled statements_onto statements_at _ (sym (missed _ _ c.accept.result c.loop-end-test.ensures (c.accept.ensures.read source)).0)
          (then_spelled c.args.depth (c.in_ok-statement.ensures.reads source [] (braces 0) []).1 h))),
    )

pub statements-returns-clause-reads : goal.statements-returns-clause-reads
statements-returns-clause-reads t c = λ source x s e l.
    let kept = c.loop-end.invariant in
    let got = met _ _ c.accept.result c.loop-end-test.ensures (c.accept.ensures.read source) in (
      kept.0 source x s e l ∙ end_read x e got.1 s,
      record { more = kept.2; all_are = kept.3; place = got.0; spelled = retreed statements_onto statements_at _ (sym (before_none source kept.2)) (kept.4 source none _ (none_spelled c.args.depth got.1)) },
    )
