use Rattle.std.proofs.Common.{◌+◌, [], drop, ◌∙◌, arith, ltb-true}
use Rattle.std.proofs.lemmas.List.{drop_more, at_drop_more}
use Rattle.grammar.specs.Automaton.{judge}
use Rattle.parser.specs.Reads.{ahead}
use Rattle.parser.specs.Readers.{tokens}
use Rattle.parser.proofs.Feeds.{gone, more_marks}
use Rattle.parser.proofs.reader.Reader.expect_all.Goals as goal

pub returns-in_err-expect-clause-reads : goal.returns-in_err-expect-clause-reads
returns-in_err-expect-clause-reads c = λ source s.
    gone _ c.from_residual.result _ c.from_residual.ensures.1
    (c.loop-mark.invariant.0 source s ∙ at_drop_more (λ ms. judge (ahead source c.loop-mark.self) (tokens ms s)) c.args.marks.now c.loop-mark.mark-index _ (omega (arith, ltb-true)))
    (c.in_err-expect.ensures.reads source (tokens (drop (c.loop-mark.mark-index + 1) c.args.marks.now) s))

pub loop-mark-preserved : goal.loop-mark-preserved
loop-mark-preserved c = (
  λ source s.
      c.loop-mark.invariant.0 source s ∙ at_drop_more (λ ms. judge (ahead source c.loop-mark.self) (tokens ms s)) c.args.marks.now c.loop-mark.mark-index _ (omega (arith, ltb-true))
      ∙ (c.in_ok-expect.ensures.reads source (tokens (drop (c.loop-mark.mark-index + 1) c.args.marks.now) s)).0,
  λ source vs h. c.loop-mark.invariant.1 source vs (more_marks vs (drop_more c.args.marks.now c.loop-mark.mark-index _ (omega (arith, ltb-true))) (c.in_ok-expect.ensures.reads source []).1 h),
  omega (arith, c.loop-mark.invariant.2, c.in_ok-expect.ensures.fewer),
)
