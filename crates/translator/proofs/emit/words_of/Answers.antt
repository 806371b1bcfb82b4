use Rattle.std.proofs.Common.{◌≡◌, map, length, vec_items, ap, ◌∙◌, subst}
use Rattle.std.proofs.ByRecursion.{All-more}
use Rattle.std.proofs.lemmas.List.{length-map, take_all}
use Rattle.code.specs.Words.{word_of, InRange}
use Rattle.translator.specs.Linear.{Code}
use Rattle.translator.specs.Written.{Fits}
use Rattle.translator.proofs.Appended.{mapped_more, mapped_all}
use Rattle.translator.proofs.emit.words_of.Goals as goal

pub loop-instruction-preserved : goal.loop-instruction-preserved
loop-instruction-preserved c = (
  mapped_more (λ x. word_of x.0) c.args.code.now c.loop-instruction.instruction-index _ _ c.loop-instruction-test.true c.loop-instruction.invariant.0 c.in_ok-push.ensures.items c.in_ok-word.ensures.is,
  All-more (λ x. InRange x.0) c.args.code.now c.loop-instruction.instruction-index _ c.loop-instruction-test.true c.loop-instruction.invariant.1 c.in_ok-word.ensures.range,
)

pub returns : goal.returns
returns c =
    let words : vec_items c.loop-instruction.words ≡ map (λ x. word_of x.0) c.args.code.now =
    mapped_all (λ x. word_of x.0) c.args.code.now c.loop-instruction.instruction-index c.loop-instruction-test.false c.loop-instruction.invariant.0 in
    record {
      words = words;
      range = subst (λ (l : Code). Fits l) (take_all c.loop-instruction.instruction-index c.args.code.now c.loop-instruction-test.false) c.loop-instruction.invariant.1;
      len = c.loop-instruction.words.ok.0 ∙ ap length words ∙ length-map c.args.code.now (λ x. word_of x.0);
    }
