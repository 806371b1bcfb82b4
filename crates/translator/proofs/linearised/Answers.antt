use Rattle.translator.proofs.Labels.{labelled_once, linearised}
use Rattle.translator.proofs.linearised.Goals as goal

pub returns : goal.returns
returns c = record { labels = labelled_once; code = linearised }
