use Rattle.std.proofs.Common.{take}
use Rattle.layers.specs.Layers.{Sent}
use Rattle.layers.proofs.send.send.Given as goal

abbrev pub invariant-loop-word : goal.invariant-loop-word
invariant-loop-word g l = let means = g.O.OutputTape.means in Sent (means l.initial.output) (take l.word-index l.words) (means l.output)
