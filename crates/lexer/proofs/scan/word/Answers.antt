use Rattle.std.proofs.Common.{◌≡◌, rules, tests}
use Rattle.std.specs.List.{prefix_len}
use Rattle.std.specs.Char.{is_ascii_alphanumeric}
use Rattle.lexer.proofs.Runs.{run_counted}
use Rattle.lexer.proofs.Words.{word_is}
use Rattle.lexer.proofs.scan.word.Goals as goal

pub returns : goal.returns
returns c =
    let text = c.args.text.now in
    let run : c.count-length.result ≡ prefix_len is_ascii_alphanumeric text =
    run_counted _ is_ascii_alphanumeric text c.take_while.result _ _ (cc) c.take_while.ensures.closure c.take_while.ensures.done (λ x b q k. search (rules, tests)) c.count-length.ensures.ran in
    word_is text c.count-length.result _ run c.word_kind-kind.ensures
