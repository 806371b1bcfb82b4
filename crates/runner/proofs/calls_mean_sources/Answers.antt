use Rattle.runner.proofs.Admitted.{calls_mean_sources, drives_mean_sources}
use Rattle.runner.proofs.calls_mean_sources.Goals as goal

pub returns : goal.returns
returns c = record { calls = calls_mean_sources c.one_word_each.ensures.each; drives = drives_mean_sources c.one_word_each.ensures.each }
