use Rattle.meaning.proofs.Histories.{histories_mean_sources, histories_exist}
use Rattle.meaning.proofs.histories_mean_sources.Goals as goal

pub returns : goal.returns
returns c = record { promised = histories_mean_sources; exist = histories_exist }
