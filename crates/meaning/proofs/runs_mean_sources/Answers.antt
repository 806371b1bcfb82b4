use Rattle.meaning.proofs.Histories.{runs_mean_sources, units_agree}
use Rattle.meaning.proofs.runs_mean_sources.Goals as goal

pub returns : goal.returns
returns c = record { told = runs_mean_sources; units = units_agree }
