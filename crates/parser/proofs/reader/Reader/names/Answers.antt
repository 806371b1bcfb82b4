use Rattle.std.proofs.Common.{[], ◌∷◌, ◌++◌, sym, refl, ◌∙◌, append-nil, arith}
use Rattle.syntax.specs.TreeOf.{name_of}
use Rattle.grammar.specs.Grammar.{names_onto}
use Rattle.grammar.specs.Placed.{names_at}
use Rattle.grammar.specs.Automaton.{names, identifier}
use Rattle.parser.proofs.Feeds.{gone, peeked_fewer, missed, met, taken, no_comma}
use Rattle.parser.proofs.Spelled.{respelled, retreed, one_behind}
use Rattle.parser.proofs.Declared.{names_end, also_spelled, declared_more}
use Rattle.parser.proofs.reader.Reader.names.Goals as goal

pub loop-self-preserved : goal.loop-self-preserved
loop-self-preserved c =
    let kept = c.loop-self.invariant in
    let name = c.in_ok-name.name in (
      λ source s.
          kept.0 source s ∙ taken (met _ _ c.accept.result (sym c.loop-self-test.ensures) (c.accept.ensures.read source)).1 (names ∷ s) (identifier ∷ (names ∷ s)) refl
          ∙ (c.in_ok-name.ensures.reads source (names ∷ s)).0,
      omega (arith, kept.1, peeked_fewer _ _ c.accept.result c.accept.ensures.fewer, c.in_ok-name.ensures.fewer),
      kept.2 ++ (name ∷ []),
      one_behind _ kept.2 name c.in_ok-push.ensures.items kept.3,
      λ source ns vs h.
          retreed names_onto names_at _ (declared_more source kept.2 name ns)
          (kept.4 source ((name_of source name, name.place) ∷ ns) vs
          (also_spelled (met _ _ c.accept.result (sym c.loop-self-test.ensures) (c.accept.ensures.read source)).1 (c.in_ok-name.ensures.reads source []).1 h)),
    )

pub returns-in_err-name-clause-reads : goal.returns-in_err-name-clause-reads
returns-in_err-name-clause-reads c = λ source s.
    gone _ c.from_residual.result _ c.from_residual.ensures.1
    (c.loop-self.invariant.0 source s ∙ taken (met _ _ c.accept.result (sym c.loop-self-test.ensures) (c.accept.ensures.read source)).1 (names ∷ s) (identifier ∷ (names ∷ s)) refl)
    (c.in_err-name.ensures.reads source (names ∷ s))

pub returns-in_err-expect-clause-reads : goal.returns-in_err-expect-clause-reads
returns-in_err-expect-clause-reads c = λ source s.
    gone _ c.from_residual-in_err-expect.result _ c.from_residual-in_err-expect.ensures.1
    (c.loop-self.invariant.0 source s ∙ no_comma _ _ (missed _ _ c.accept.result (sym c.loop-self-test.ensures) (c.accept.ensures.read source)) s)
    (c.in_err-expect.ensures.reads source s)

pub returns-clause-reads : goal.returns-clause-reads
returns-clause-reads c = λ source s.
    let kept = c.loop-self.invariant in
    let none = missed _ _ c.accept.result (sym c.loop-self-test.ensures) (c.accept.ensures.read source) in
    let close = c.in_ok-expect.ensures.reads source s in (
      kept.0 source s ∙ no_comma _ _ none s ∙ close.0,
      record {
        more = kept.2;
        all_are = kept.3;
        spelled = retreed names_onto names_at _ (sym (append-nil _)) (kept.4 source [] _ (respelled names_onto names_at _ (sym none.0) (names_end close.1)));
      },
    )
