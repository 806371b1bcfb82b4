use Rattle.std.proofs.Common.{◌≡◌, ◌≤◌, ◌≢◌, get_or, length, take, arith, rules, tests, length-take}
use Rattle.std.specs.List.{prefix_len}
use Rattle.std.proofs.lemmas.List.Sums.{prefix_len-le-length}
use Rattle.lexer.specs.Bytes.{digit}
use Rattle.lexer.proofs.Runs.{run_counted}
use Rattle.lexer.proofs.Numbers.{zero_first_none, number_some}
use Rattle.lexer.proofs.scan.number.Goals as goal

pub returns-in-48 : goal.returns-in-48
returns-in-48 c =
    let text = c.args.text.now in
    let n = c.count-length.result in
    let run : n ≡ prefix_len digit text =
    run_counted _ digit text c.take_while.result _ _ (cc) c.take_while.ensures.closure c.take_while.ensures.done (λ x b q k. search (rules, tests)) c.count-length.ensures.ran in
    zero_first_none text n run c.in-48.len_at_least (search rules)

pub returns-in_default : goal.returns-in_default
returns-in_default c =
    let text = c.args.text.now in
    let n = c.count-length.result in
    let run : n ≡ prefix_len digit text =
    run_counted _ digit text c.take_while.result _ _ (cc) c.take_while.ensures.closure c.take_while.ensures.done (λ x b q k. search (rules, tests)) c.count-length.ensures.ran in
    let long : length (take n text) ≡ n = omega (arith, length-take n text, run, prefix_len-le-length digit text) in
    let apart : 2 ≤ n → get_or (take n text) 0 0 ≢ 48 = λ two zero. grind (arith, long, two, zero) in
    number_some text n run c.value.result c.value.ensures apart
