use Rattle.std.proofs.Common.{ℕ, refl, ap, ◌∙◌}
use Rattle.tapes.specs.Meaning.{Meaning}
use Rattle.code.specs.World.{Report}
use Rattle.code.specs.Machine.{status_with, fetch, placed}
use Rattle.machine.specs.Numbers.{fault_of, status_number}
use Rattle.machine.specs.View.{tapes_of}
use Rattle.machine.proofs.Advancing.{status_is}
use Rattle.machine.proofs.run.Run.finish.Goals as goal

pub returns : goal.returns
returns g c =
    let run = c.args.self in
    let core = run.core in
    let waiting = g.I.InputTape.waiting run.memory.input in
    let told = ap status_number c.status-status.ensures
    ∙ status_is core.fault c.instructions.result.now core.counter core.steps run.lid core.counted run.lidded
    ∙ ap (λ xs. status_with run.lid core.steps (fault_of core.fault) (fetch xs core.counter)) c.instructions.ensures.value in
    record {
      report = λ places.
          let report : Meaning → ℕ → Report = λ m status. record {
            world = record { cells = run.memory.cells; tapes = tapes_of waiting m };
            steps = core.steps;
            status = status;
            fault = placed places (fault_of core.fault);
          } in
          ap (λ m. report m (status_number c.status-status.result)) c.settle.ensures ∙ ap (report (g.O.OutputTape.means run.memory.output)) told;
      settled = c.settle.ensures;
      unit = refl;
      input = refl;
    }
