use Rattle.std.proofs.Common.{◌≡◌, length}
use Rattle.relay.proofs.Delivering.{whole}
use Rattle.relay.proofs.relay.relay.Given as goal

abbrev pub invariant-loop-x : goal.invariant-loop-x
invariant-loop-x g l =
    let waiting = g.I.InputTape.waiting in
    let means = g.O.OutputTape.means in
    let narrowed = g.U.Arithmetic.narrowed in
    whole narrowed (waiting l.input) (means l.output) ≡ whole narrowed (waiting l.initial.input) (means l.initial.output)

abbrev pub decreases-loop-x : goal.decreases-loop-x
decreases-loop-x g l = length (g.I.InputTape.waiting l.input)
