use Rattle.std.proofs.Common.{[], ◌∷◌, refl, ap, ◌∙◌}
use Rattle.syntax.specs.TreeOf.{declared_of}
use Rattle.grammar.specs.Grammar.{declaration_onto}
use Rattle.grammar.specs.Placed.{declaration_at}
use Rattle.grammar.specs.Automaton.{whole, names, body, identifier, tail}
use Rattle.parser.proofs.Feeds.{gone, missed, met, taken, no_int}
use Rattle.parser.proofs.Spelled.{retreed, behind_one}
use Rattle.parser.proofs.Declared.{undeclared, variables_spelled}
use Rattle.parser.proofs.reader.Reader.declaration.Goals as goal

pub returns-then-is_none-clause-reads : goal.returns-then-is_none-clause-reads
returns-then-is_none-clause-reads c = λ source s.
    let none = missed _ _ c.accept.result c.if-is_none.ensures (c.accept.ensures.read source) in
    (no_int _ _ none s, retreed declaration_onto declaration_at _ (ap (declared_of source) c.new-names.ensures.items) (undeclared none.0))

pub returns-in_err-first-clause-reads : goal.returns-in_err-first-clause-reads
returns-in_err-first-clause-reads c = λ source s.
    let after = names ∷ (tail 32 [] (whole 31) ∷ s) in
    gone _ c.from_residual.result _ c.from_residual.ensures.1
    (taken (met _ _ c.accept.result c.if-is_none.ensures (c.accept.ensures.read source)).1 (body 32 31 ∷ s) (identifier ∷ after) refl)
    (c.in_err-first.ensures.reads source after)

pub returns-in_err-names-clause-reads : goal.returns-in_err-names-clause-reads
returns-in_err-names-clause-reads c = λ source s.
    let after = names ∷ (tail 32 [] (whole 31) ∷ s) in
    gone _ c.from_residual-in_err-names.result _ c.from_residual-in_err-names.ensures.1
    (taken (met _ _ c.accept.result c.if-is_none.ensures (c.accept.ensures.read source)).1 (body 32 31 ∷ s) (identifier ∷ after) refl ∙ (c.in_ok-first.ensures.reads source after).0)
    (c.in_err-names.ensures.reads source (tail 32 [] (whole 31) ∷ s))

pub returns-clause-reads : goal.returns-clause-reads
returns-clause-reads c = λ source s.
    let after = names ∷ (tail 32 [] (whole 31) ∷ s) in
    let int = met _ _ c.accept.result c.if-is_none.ensures (c.accept.ensures.read source) in
    let first = c.in_ok-first.ensures.reads source after in
    let rest = c.in_ok-names.ensures.reads source (tail 32 [] (whole 31) ∷ s) in
    let all = behind_one c.in_ok-first.first rest.1.all_are c.in_ok-push.ensures.items c.new-names.ensures.items in (
      taken int.1 (body 32 31 ∷ s) (identifier ∷ after) refl ∙ first.0 ∙ rest.0,
      retreed declaration_onto declaration_at _ (ap (declared_of source) all) (variables_spelled int.1 first.1 rest.1.spelled),
    )
