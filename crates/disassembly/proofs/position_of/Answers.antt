use Rattle.std.proofs.Common.{◌≡◌, take, rules, length, ◌+◌, ◌<◌, ◌≤◌, Some, refl, ap, ◌∙◌, arith, length-append, tests}
use Rattle.std.proofs.lemmas.Fn.{serves_by, fold_over, slice_gives, fronts}
use Rattle.std.proofs.lemmas.Grind.{common_steps}
use Rattle.std.proofs.lemmas.List.Sums.{fold_push}
use Rattle.std.proofs.lemmas.Iterator.{YieldsList-from_slice}
use Rattle.std.proofs.lemmas.Iterator.Consumers.{YieldsList-turn}
use Rattle.disassembly.specs.Text.{position, stepped}
use Rattle.disassembly.proofs.position_of.Goals as goal

pub fold-requires-clause-callable : goal.fold-requires-clause-callable
fold-requires-clause-callable c =
    serves_by _ (λ xs p. (p.1.line ≤ length xs + 1) × (p.1.column ≤ length xs + 1))
    (λ xs q x v j r. search (rules, arith, length-append))
    _ _ _ _
    (omega arith, omega arith)
    (λ xs t q x u y e j.
    let turn = YieldsList-turn (YieldsList-from_slice c.iter.result.rest.now refl) xs t y (Some x) u x refl e in
    let few : length c.iter.result.rest.now < 9223372036854775808 = search (rules, arith) in
    let line : q.1.line + 1 < 18446744073709551616 = omega (arith, j.0, turn.0, few) in
    let column : q.1.column + 1 < 18446744073709551616 = omega (arith, j.1, turn.0, few) in
    search (rules, arith))

pub returns : goal.returns
returns c =
    let run : (c.fold.result.line, c.fold.result.column) ≡ position c.iter.result.rest.now =
    fold_over fronts (λ y. y.now) _ (λ ys p. (p.line, p.column) ≡ position ys) _ (λ ys a x b f' j k. let more = fold_push stepped (1, 1) ys x.now in search (rules, tests)) _ _ _ _ (slice_gives c.iter.result) refl c.fold.ensures.ran in
    let rest : c.iter.result.rest.now ≡ take c.args.place c.args.source.now = grind (arith, common_steps) in
    run ∙ ap position rest
