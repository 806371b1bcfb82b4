use Rattle.std.proofs.Common.{[], ◌∷◌, refl, ◌∙◌}
use Rattle.grammar.specs.Kinds.{RightParen, Semicolon}
use Rattle.grammar.specs.Automaton.{identifier}
use Rattle.parser.specs.Readers.{tokens}
use Rattle.parser.proofs.Feeds.{gone}
use Rattle.parser.proofs.reader.Reader.call.Goals as goal

pub returns-in_err-expect_all-clause-reads : goal.returns-in_err-expect_all-clause-reads
returns-in_err-expect_all-clause-reads c = λ source s.
    gone _ c.from_residual.result _ c.from_residual.ensures.1 refl (c.in_err-expect_all.ensures.reads source (identifier ∷ tokens (RightParen ∷ (Semicolon ∷ [])) s))

pub returns-in_err-name-clause-reads : goal.returns-in_err-name-clause-reads
returns-in_err-name-clause-reads c = λ source s.
    gone _ c.from_residual-in_err-name.result _ c.from_residual-in_err-name.ensures.1
    (c.in_ok-expect_all.ensures.reads source (identifier ∷ tokens (RightParen ∷ (Semicolon ∷ [])) s)).0
    (c.in_err-name.ensures.reads source (tokens (RightParen ∷ (Semicolon ∷ [])) s))

pub returns-in_err-expect_all-2-clause-reads : goal.returns-in_err-expect_all-2-clause-reads
returns-in_err-expect_all-2-clause-reads c = λ source s.
    gone _ c.from_residual-in_err-expect_all-2.result _ c.from_residual-in_err-expect_all-2.ensures.1
    ((c.in_ok-expect_all.ensures.reads source (identifier ∷ tokens (RightParen ∷ (Semicolon ∷ [])) s)).0 ∙ (c.in_ok-name.ensures.reads source (tokens (RightParen ∷ (Semicolon ∷ [])) s)).0)
    (c.in_err-expect_all-2.ensures.reads source s)

pub returns-clause-reads : goal.returns-clause-reads
returns-clause-reads c = λ source s.
    let front = c.in_ok-expect_all.ensures.reads source (identifier ∷ tokens (RightParen ∷ (Semicolon ∷ [])) s) in
    let name = c.in_ok-name.ensures.reads source (tokens (RightParen ∷ (Semicolon ∷ [])) s) in
    let close = c.in_ok-expect_all-2.ensures.reads source s in
    (front.0 ∙ name.0 ∙ close.0, record { front = _; behind = _; opened = front.1; named = name.1; closed = close.1 })
