use Rattle.std.proofs.Common.{◌≡◌, ◌+◌, ◌-◌, ◌*◌, ◌≤◌, min, rules, refl, ap, ◌∙◌, arith, tests}
use Rattle.std.proofs.lemmas.Fn.{fold_over, slice_gives, fronts}
use Rattle.std.proofs.lemmas.List.Sums.{fold_push}
use Rattle.lexer.specs.Scan.{value_of}
use Rattle.lexer.proofs.Values.{cut_step}
use Rattle.lexer.proofs.scan.value.Goals as goal

pub overflow_cast-result : goal.overflow_cast-result
overflow_cast-result c =
    let run : c.fold-value.result ≤ 1073741824 =
    fold_over fronts (λ y. y.now) _ (λ ys v. v ≤ 1073741824) _ (λ ys a x b f' j k. search (rules, arith, tests)) _ _ _ _ (slice_gives c.iter.result) (omega arith) c.fold-value.ensures.ran in
    omega (arith, run)

pub returns : goal.returns
returns c =
    let run : c.fold-value.result ≡ min (value_of c.iter.result.rest.now) 1073741824 =
    fold_over fronts (λ y. y.now) _ (λ ys v. v ≡ min (value_of ys) 1073741824) _ (λ ys a x b f' j k.
    let more = ap (λ v. min v 1073741824) (fold_push (λ v d. v * 10 + (d - 48)) 0 ys x.now) in
    let cut = cut_step (value_of ys) (x.now - 48) in
    search (rules, arith, tests)) _ _ _ _ (slice_gives c.iter.result) refl c.fold-value.ensures.ran in
    let all : c.iter.result.rest.now ≡ c.args.digits.now = search rules in
    run ∙ ap (λ ds. min (value_of ds) 1073741824) all
