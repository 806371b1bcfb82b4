-- What a finished run tells.
--   report_of  its report, with the fault's address turned into a place by a place list
use Rattle.std.specs.Prelude.{ℕ, List, ℤ}
use Rattle.tapes.specs.Meaning.{Meaning}
use Rattle.code.specs.World.{Report}
use Rattle.code.specs.Machine.{placed}
use Rattle.machine.specs.Numbers.{fault_of, status_number}
use Rattle.machine.specs.View.{tapes_of}
use Rattle.machine.specs.declared.finished.Finished.{Finished}

abbrev pub report_of : {U I O : Type 0} → (I → List ℤ) → (O → Meaning) → List ℕ → Finished U I O → Report
report_of waiting means places r = record {
  world = record { cells = r.cells; tapes = tapes_of (waiting r.input) (means r.output) };
  steps = r.steps;
  status = status_number r.status;
  fault = placed places (fault_of r.fault);
}
