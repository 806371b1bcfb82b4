-- Runs as a caller has them.
--   code_of    the instructions of a run's image
--   state_of   the state of the machine that a run stands for
use Rattle.std.specs.Prelude.{List, ℤ, vec_items}
use Rattle.tapes.specs.Meaning.{Meaning}
use Rattle.code.specs.declared.Instruction.{Instruction}
use Rattle.code.specs.Machine as am
use Rattle.machine.specs.View.{run_of}
use Rattle.machine.specs.declared.run.Run.{Run}

abbrev pub code_of : {U I O : Type 0} → Run U I O → List Instruction
code_of r = vec_items r.image.now.code

abbrev pub state_of : {U I O : Type 0} → (I → List ℤ) → (O → Meaning) → Run U I O → am.Run
state_of waiting means r = run_of waiting means r.core r.memory
