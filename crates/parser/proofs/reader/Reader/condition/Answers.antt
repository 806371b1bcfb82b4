use Rattle.std.proofs.Common.{◌∷◌, refl, ◌∙◌}
use Rattle.grammar.specs.Automaton.{at_paren, at_relation, expression}
use Rattle.parser.specs.Reads.{ahead}
use Rattle.parser.proofs.Feeds.{gone, at_paren_lem}
use Rattle.parser.proofs.Joined.{condition_spelled}
use Rattle.parser.proofs.reader.Reader.condition.Goals as goal

pub returns-in_err-expect-clause-reads : goal.returns-in_err-expect-clause-reads
returns-in_err-expect-clause-reads c = λ source s.
    gone _ c.from_residual.result _ c.from_residual.ensures.1 refl (c.in_err-expect.ensures.reads source (expression 32 at_relation ∷ (expression 32 at_paren ∷ s)))

pub returns-in_err-left-clause-reads : goal.returns-in_err-left-clause-reads
returns-in_err-left-clause-reads c = λ source s.
    let right = expression 32 at_paren ∷ s in
    gone _ c.from_residual-in_err-left.result _ c.from_residual-in_err-left.ensures.1
    (c.in_ok-expect.ensures.reads source (expression 32 at_relation ∷ right)).0
    (c.in_err-left.ensures.reads source at_relation right)

pub returns-in_err-relation-clause-reads : goal.returns-in_err-relation-clause-reads
returns-in_err-relation-clause-reads c = λ source s.
    let right = expression 32 at_paren ∷ s in
    gone _ c.from_residual-in_err-relation.result _ c.from_residual-in_err-relation.ensures.1
    ((c.in_ok-expect.ensures.reads source (expression 32 at_relation ∷ right)).0 ∙ (c.in_ok-left.ensures.reads source at_relation right).0)
    (c.in_err-relation.ensures.reads source right)

pub returns-in_err-right-clause-reads : goal.returns-in_err-right-clause-reads
returns-in_err-right-clause-reads c = λ source s.
    let right = expression 32 at_paren ∷ s in
    gone _ c.from_residual-in_err-right.result _ c.from_residual-in_err-right.ensures.1
    ((c.in_ok-expect.ensures.reads source (expression 32 at_relation ∷ right)).0 ∙ (c.in_ok-left.ensures.reads source at_relation right).0 ∙ (c.in_ok-relation.ensures.reads source right).0)
    (c.in_err-right.ensures.reads source at_paren s)

pub returns-in_err-expect-2-clause-reads : goal.returns-in_err-expect-2-clause-reads
returns-in_err-expect-2-clause-reads c = λ source s.
    let right = expression 32 at_paren ∷ s in
    gone _ c.from_residual-in_err-expect-2.result _ c.from_residual-in_err-expect-2.ensures.1
    ((c.in_ok-expect.ensures.reads source (expression 32 at_relation ∷ right)).0 ∙ (c.in_ok-left.ensures.reads source at_relation right).0 ∙ (c.in_ok-relation.ensures.reads source right).0
    ∙ (c.in_ok-right.ensures.reads source at_paren s).0 ∙ at_paren_lem (ahead source c.expression-2.new.self) s)
    (c.in_err-expect-2.ensures.reads source s)

pub returns-clause-reads : goal.returns-clause-reads
returns-clause-reads c = λ source s.
    let after = expression 32 at_paren ∷ s in
    let paren = c.in_ok-expect.ensures.reads source (expression 32 at_relation ∷ after) in
    let left = c.in_ok-left.ensures.reads source at_relation after in
    let relation = c.in_ok-relation.ensures.reads source after in
    let right = c.in_ok-right.ensures.reads source at_paren s in
    let close = c.in_ok-expect-2.ensures.reads source s in
    (paren.0 ∙ left.0 ∙ relation.0 ∙ right.0 ∙ at_paren_lem (ahead source c.expression-2.new.self) s ∙ close.0, condition_spelled paren.1 left.1 relation.1 right.1 close.1)
