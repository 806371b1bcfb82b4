use Rattle.std.proofs.Common.{◌≡◌, ◌+◌, ◌-◌, length, ap, ◌∙◌, rules, tests, arith, length-drop}
use Rattle.std.specs.List.{prefix_len}
use Rattle.std.proofs.lemmas.List.{take_rest}
use Rattle.std.proofs.lemmas.List.Sums.{prefix_len-le-length}
use Rattle.lexer.specs.Bytes.{gap}
use Rattle.lexer.specs.Scan.{seen}
use Rattle.lexer.proofs.Runs.{run_counted}
use Rattle.lexer.proofs.Heads.{head_none, head_some}
use Rattle.lexer.proofs.scan.head.Goals as goal

pub returns-in_err-rest : goal.returns-in_err-rest
returns-in_err-rest c =
    let text = c.args.text.now in
    let behind = c.in_ok-behind.behind.now in
    let n = c.count-gap.result in
    let run : n ≡ prefix_len gap behind =
    run_counted _ gap behind c.take_while.result _ _ (cc) c.take_while.ensures.closure c.take_while.ensures.done (λ x b q k. search (rules, tests)) c.count-gap.ensures.ran in
    let first = c.in_ok-behind.ensures.cases in
    let last = c.in_err-rest.ensures.cases in
    ap (seen text) c.from_residual-in_err-rest.ensures ∙ head_none text behind _ n first.0 first.1 run (take_rest behind n) last

pub returns : goal.returns
returns c =
    let text = c.args.text.now in
    let behind = c.in_ok-behind.behind.now in
    let n = c.count-gap.result in
    let run : n ≡ prefix_len gap behind =
    run_counted _ gap behind c.take_while.result _ _ (cc) c.take_while.ensures.closure c.take_while.ensures.done (λ x b q k. search (rules, tests)) c.count-gap.ensures.ran in
    let first = c.in_ok-behind.ensures.cases in
    let last = c.in_ok-rest.ensures.cases in
    let long : length text - length c.in_ok-rest.rest.now ≡ 17 + n = omega (arith, run, first.2, last.2, prefix_len-le-length gap behind, ap length (take_rest behind n), length-drop n behind) in
    head_some text behind _ n first.0 first.1 run (take_rest behind n) last.0 _ long
