use Rattle.std.proofs.Common.{◌≡◌, take}
use Rattle.code.specs.Machine.{status}
use Rattle.machine.specs.Runs.{code_of, state_of}
use Rattle.machine.specs.View.{unit_of}
use Rattle.meaning.specs.Promise.{advances}
use Rattle.runner.specs.Driving.{LastOf}
use Rattle.runner.proofs.drive.drive.Given as goal

-- the run after the allowances so far, with what its advances told
abbrev pub invariant-loop-allowance : goal.invariant-loop-allowance
invariant-loop-allowance g l =
    let view = state_of g.I.InputTape.waiting g.O.OutputTape.means in
    let unit = unit_of g.U.Arithmetic.LEAST g.U.Arithmetic.GREATEST g.U.Arithmetic.narrowed in
    let code = code_of l.initial.run in
    let lid = l.initial.run.lid in
    let before = take l.allowance-index l.allowances in
    (view l.run ≡ advances unit code lid before (view l.initial.run))
    × (l.run.image ≡ l.initial.run.image)
    × (l.run.lid ≡ lid)
    × (l.steps ≡ l.run.core.steps)
    × LastOf before l.last (status lid code (view l.run))
