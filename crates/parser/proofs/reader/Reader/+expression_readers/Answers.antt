use Rattle.std.proofs.Common.{rules, [], ◌∷◌, refl, ap, ◌∙◌, arith}
use Rattle.syntax.specs.TreeOf.{expression_of, term_of}
use Rattle.grammar.specs.Kinds.{LeftParen}
use Rattle.grammar.specs.Automaton.{at_paren, factor, products}
use Rattle.parser.specs.Reads.{ahead}
use Rattle.parser.proofs.Feeds.{gone, onward, read_as, read_mark, peeked_fewer, taken, at_paren_lem, number_read, sign_read, sum_read, no_sum, product_read, no_product, paren_read}
use Rattle.parser.proofs.Spelled.{refitted, products_end, sums_end, name_spelled, literal_spelled, paren_spelled, term_spelled, product_spelled, sum_spelled, expression_spelled}
use Rattle.parser.proofs.reader.Reader.+expression_readers.Goals as goal

pub expression-returns-in_err-term-clause-reads : goal.expression-returns-in_err-term-clause-reads
expression-returns-in_err-term-clause-reads t c = λ source x s.
    gone _ c.from_residual.result _ c.from_residual.ensures.1
    (sign_read _ _ c.additive-sign.result (c.additive-sign.ensures.read source) c.args.parens x s)
    (c.in_err-term.ensures.reads source x s)

pub expression-loop-operator-init : goal.expression-loop-operator-init
expression-loop-operator-init t c = (
  λ source x s. sign_read _ _ c.additive-sign.result (c.additive-sign.ensures.read source) c.args.parens x s ∙ (c.in_ok-term.ensures.reads source x s).0,
  λ source e vs h. expression_spelled c.args.parens _ _ _ _ c.additive-sign.result _ _ _ (c.signed-sum.ensures source) (c.additive-sign.ensures.read source) (c.in_ok-term.ensures.reads source at_paren []).1 h,
  omega (arith, c.in_ok-term.ensures.fewer, peeked_fewer _ _ c.additive-sign.result c.additive-sign.ensures.fewer),
)

pub expression-returns-in_err-right-clause-reads : goal.expression-returns-in_err-right-clause-reads
expression-returns-in_err-right-clause-reads t c = λ source x s.
    gone _ c.from_residual-in_err-right.result _ c.from_residual-in_err-right.ensures.1
    (c.loop-operator.invariant.0 source x s ∙ sum_read (c.in-Some.ensures.read source) c.args.parens x s)
    (c.in_err-right.ensures.reads source x s)

pub expression-loop-operator-preserved : goal.expression-loop-operator-preserved
expression-loop-operator-preserved t c = (
  λ source x s. c.loop-operator.invariant.0 source x s ∙ sum_read (c.in-Some.ensures.read source) c.args.parens x s ∙ (c.in_ok-right.ensures.reads source x s).0,
  λ source e vs h. c.loop-operator.invariant.1 source e vs (sum_spelled c.args.parens (ap (expression_of source) c.in_ok-left.ensures.ok) (c.in-Some.ensures.read source) (c.in_ok-right.ensures.reads source at_paren []).1 h),
  omega (arith, c.loop-operator.invariant.2, c.in-Some.ensures.fewer, c.in_ok-right.ensures.fewer),
)

pub expression-returns-clause-reads : goal.expression-returns-clause-reads
expression-returns-clause-reads t c = λ source x s.
    let none = c.in_default.ensures.read source in
    (c.loop-operator.invariant.0 source x s ∙ no_sum _ _ none c.args.parens x s, c.loop-operator.invariant.1 source _ _ (sums_end c.args.parens _ none.0))

pub factor-returns-in-Name-clause-reads : goal.factor-returns-in-Name-clause-reads
factor-returns-in-Name-clause-reads t c = λ source x s.
    let name = read_as source c.in_ok-token.ensures.read c.in-Name.is in
    (taken name (factor c.args.parens x ∷ s) (products c.args.parens x ∷ s) refl, name_spelled c.args.parens source c.into.ensures name)

pub factor-returns-in-Number-clause-reads : goal.factor-returns-in-Number-clause-reads
factor-returns-in-Number-clause-reads t c = λ source x s.
    let number = read_as source c.in_ok-token.ensures.read c.in-Number.is in
    (number_read number c.args.parens x s, literal_spelled c.args.parens number)

pub factor-returns-in_ok-deeper-in-Mark-LeftParen-clause-reads : goal.factor-returns-in_ok-deeper-in-Mark-LeftParen-clause-reads
factor-returns-in_ok-deeper-in-Mark-LeftParen-clause-reads t c = λ source x s.
    let paren = read_mark source LeftParen c.in_ok-token.ensures.read c.in-Mark-LeftParen.is (search rules) in
    onward _ _ _ c.parenthesized.result
    (paren_read paren c.in_ok-deeper-in-Mark-LeftParen.ensures x s)
    (λ f h. refitted c.args.parens _ paren c.in_ok-deeper-in-Mark-LeftParen.ensures (h c.in_ok-token.token.place))
    (c.parenthesized.ensures.reads source (products c.args.parens x ∷ s))

pub parenthesized-returns-in_err-inner-clause-reads : goal.parenthesized-returns-in_err-inner-clause-reads
parenthesized-returns-in_err-inner-clause-reads t c = λ source s. gone _ c.from_residual.result _ c.from_residual.ensures.1 refl (c.in_err-inner.ensures.reads source at_paren s)

pub parenthesized-returns-in_err-expect-clause-reads : goal.parenthesized-returns-in_err-expect-clause-reads
parenthesized-returns-in_err-expect-clause-reads t c = λ source s.
    gone _ c.from_residual-in_err-expect.result _ c.from_residual-in_err-expect.ensures.1
    ((c.in_ok-inner.ensures.reads source at_paren s).0 ∙ at_paren_lem (ahead source c.expression.new.self) s)
    (c.in_err-expect.ensures.reads source s)

pub parenthesized-returns-clause-reads : goal.parenthesized-returns-clause-reads
parenthesized-returns-clause-reads t c = λ source s.
    let inner = c.in_ok-inner.ensures.reads source at_paren s in
    let close = c.in_ok-expect.ensures.reads source s in
    (inner.0 ∙ at_paren_lem (ahead source c.expression.new.self) s ∙ close.0, λ p. paren_spelled c.args.parens p (ap (expression_of source) c.in_ok-inner-2.ensures.ok) inner.1 close.1)

pub term-returns-in_err-factor-clause-reads : goal.term-returns-in_err-factor-clause-reads
term-returns-in_err-factor-clause-reads t c = λ source x s. gone _ c.from_residual.result _ c.from_residual.ensures.1 refl (c.in_err-factor.ensures.reads source x s)

pub term-loop-operator-init : goal.term-loop-operator-init
term-loop-operator-init t c = (λ source x s. (c.in_ok-factor.ensures.reads source x s).0, λ source u vs h. term_spelled c.args.parens (c.in_ok-factor.ensures.reads source at_paren []).1 h, c.in_ok-factor.ensures.fewer)

pub term-returns-in_err-right-clause-reads : goal.term-returns-in_err-right-clause-reads
term-returns-in_err-right-clause-reads t c = λ source x s.
    gone _ c.from_residual-in_err-right.result _ c.from_residual-in_err-right.ensures.1
    (c.loop-operator.invariant.0 source x s ∙ product_read (c.in-Some.ensures.read source) c.args.parens x s)
    (c.in_err-right.ensures.reads source x s)

pub term-loop-operator-preserved : goal.term-loop-operator-preserved
term-loop-operator-preserved t c = (
  λ source x s. c.loop-operator.invariant.0 source x s ∙ product_read (c.in-Some.ensures.read source) c.args.parens x s ∙ (c.in_ok-right.ensures.reads source x s).0,
  λ source u vs h. c.loop-operator.invariant.1 source u vs (product_spelled c.args.parens (ap (term_of source) c.in_ok-left.ensures.ok) (c.in-Some.ensures.read source) (c.in_ok-right.ensures.reads source at_paren []).1 h),
  omega (arith, c.loop-operator.invariant.2, c.in-Some.ensures.fewer, c.in_ok-right.ensures.fewer),
)

pub term-returns-clause-reads : goal.term-returns-clause-reads
term-returns-clause-reads t c = λ source x s.
    let none = c.in_default.ensures.read source in
    (c.loop-operator.invariant.0 source x s ∙ no_product _ _ none c.args.parens x s, c.loop-operator.invariant.1 source _ _ (products_end c.args.parens _ none.0))
