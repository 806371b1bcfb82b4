use Rattle.std.proofs.Common.{◌∷◌, refl, ◌∙◌}
use Rattle.grammar.specs.Automaton.{at_semicolon, expression}
use Rattle.parser.specs.Reads.{ahead}
use Rattle.parser.proofs.Feeds.{gone, at_semicolon_lem}
use Rattle.parser.proofs.Joined.{assign_spelled}
use Rattle.parser.proofs.reader.Reader.assigned.Goals as goal

pub returns-in_err-expect-clause-reads : goal.returns-in_err-expect-clause-reads
returns-in_err-expect-clause-reads c = λ source s. gone _ c.from_residual.result _ c.from_residual.ensures.1 refl (c.in_err-expect.ensures.reads source (expression 32 at_semicolon ∷ s))

pub returns-in_err-value-clause-reads : goal.returns-in_err-value-clause-reads
returns-in_err-value-clause-reads c = λ source s.
    gone _ c.from_residual-in_err-value.result _ c.from_residual-in_err-value.ensures.1
    (c.in_ok-expect.ensures.reads source (expression 32 at_semicolon ∷ s)).0
    (c.in_err-value.ensures.reads source at_semicolon s)

pub returns-in_err-expect-2-clause-reads : goal.returns-in_err-expect-2-clause-reads
returns-in_err-expect-2-clause-reads c = λ source s.
    gone _ c.from_residual-in_err-expect-2.result _ c.from_residual-in_err-expect-2.ensures.1
    ((c.in_ok-expect.ensures.reads source (expression 32 at_semicolon ∷ s)).0 ∙ (c.in_ok-value.ensures.reads source at_semicolon s).0 ∙ at_semicolon_lem (ahead source c.expression.new.self) s)
    (c.in_err-expect-2.ensures.reads source s)

pub returns-clause-reads : goal.returns-clause-reads
returns-clause-reads c = λ source s.
    let sign = c.in_ok-expect.ensures.reads source (expression 32 at_semicolon ∷ s) in
    let value = c.in_ok-value.ensures.reads source at_semicolon s in
    let close = c.in_ok-expect-2.ensures.reads source s in
    (sign.0 ∙ value.0 ∙ at_semicolon_lem (ahead source c.expression.new.self) s ∙ close.0, λ d p i. assign_spelled d sign.1 value.1 close.1)
