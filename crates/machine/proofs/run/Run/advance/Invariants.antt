use Rattle.std.proofs.Common.{◌≡◌, ◌-◌, ◌≤◌}
use Rattle.tapes.specs.Meaning.{KeptAtRest}
use Rattle.code.specs.Machine.{moves}
use Rattle.machine.specs.View.{unit_of, run_of}
use Rattle.machine.proofs.run.Run.advance.Given as goal

abbrev pub invariant-loop-self : goal.invariant-loop-self
invariant-loop-self g l =
    let unit = unit_of g.U.Arithmetic.LEAST g.U.Arithmetic.GREATEST g.U.Arithmetic.narrowed in
    let view = run_of g.I.InputTape.waiting g.O.OutputTape.means in
    (view l.core l.self.memory ≡ moves unit l.code (l.core.steps - l.before) (view l.initial.core l.initial.self.memory))
    × (l.before ≤ l.core.steps)
    × (l.core.steps ≤ l.limit)
    × (l.self.image ≡ l.initial.self.image)
    × (l.self.lid ≡ l.initial.self.lid)
    × KeptAtRest (g.O.OutputTape.means l.initial.self.memory.output) (g.O.OutputTape.means l.self.memory.output)

abbrev pub decreases-loop-self : goal.decreases-loop-self
decreases-loop-self g l = l.limit - l.core.steps
