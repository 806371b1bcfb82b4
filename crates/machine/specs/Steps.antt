-- What a step makes of a run's registers and memory.
--   status_of  the first that fits: faulted, ended, at the limit, running
--   Went       the registers once the counter has left a done instruction
--   Closed     the registers after an instruction's answer
--   Stepped    a call that says whether it made a step
use Rattle.std.specs.Prelude.{◌≡◌, ℕ, ◌+◌, ◌-◌, ◌<◌, Bool, true, false, cond, List, ℤ, Some, None, Ok, Err, Option, Result, nat_lt}
use Rattle.tapes.specs.Meaning.{Meaning, KeptAtRest}
use Rattle.code.specs.declared.Instruction.{Instruction}
use Rattle.code.specs.World.{ArithmeticUnit}
use Rattle.code.specs.Machine.{once, moves}
use Rattle.machine.specs.View.{run_of}
use Rattle.machine.specs.declared.fault.Cause.{Cause}
use Rattle.machine.specs.declared.fault.Fault.{Fault}
use Rattle.machine.specs.declared.run.Core.{Core}
use Rattle.machine.specs.declared.run.Memory.{Memory}
use Rattle.machine.specs.declared.status.Status.{Status}
use Rattle.machine.specs.declared.status.Status.TheVariants.{Running, Ended, Faulted, AtLid}

abbrev pub status_of : Option Fault → ℕ → ℕ → ℕ → ℕ → Status
status_of (Some f) len counter steps limit = Faulted
status_of None len counter steps limit = cond (nat_lt len counter) Ended (cond (nat_lt steps limit) Running AtLid)

abbrev pub steps_by : {X : Type 0} → Result X Cause → ℕ → ℕ
steps_by (Ok x) n = n + 1
steps_by (Err c) n = n

abbrev pub fault_by : {X : Type 0} → Result X Cause → ℕ → Option Fault → Option Fault
fault_by (Ok x) address f = f
fault_by (Err c) address f = Some (record { cause = c; address = address })

abbrev pub counter_by : {X : Type 0} → Result X Cause → ℕ → ℕ
counter_by (Ok x) n = n + 1
counter_by (Err c) n = n

pub record Went {X : Type 0} (done : Result X Cause) (a b : Core) : Type 0 where
  pub counter : b.counter ≡ counter_by done a.counter
  pub steps : b.steps ≡ a.steps
  pub fault : b.fault ≡ a.fault

pub record Closed {X : Type 0} (done : Result X Cause) (a b : Core) : Type 0 where
  pub counter : b.counter ≡ a.counter
  pub steps : b.steps ≡ steps_by done a.steps
  pub fault : b.fault ≡ fault_by done a.counter a.fault

-- where a step was made, it was one of the machine's, below the limit
pub record Made {U I O : Type 0} (unit : ArithmeticUnit) (waiting : I → List ℤ) (means : O → Meaning) (code : List Instruction) (limit : ℕ) (a : Core) (m : Memory U I O) (b : Core) (n : Memory U I O) : Type 0 where
  pub ran : run_of waiting means b n ≡ once unit code (run_of waiting means a m)
  pub counted : b.steps ≡ a.steps + 1
  pub below : a.steps < limit

-- where none was made, none will be: the run is where all moves up to the limit would bring it
pub record Halted {U I O : Type 0} (unit : ArithmeticUnit) (waiting : I → List ℤ) (means : O → Meaning) (code : List Instruction) (limit : ℕ) (a : Core) (m : Memory U I O) (b : Core) (n : Memory U I O) : Type 0 where
  pub rests : run_of waiting means b n ≡ moves unit code (limit - a.steps) (run_of waiting means a m)
  pub counted : b.steps ≡ a.steps

abbrev pub OneStep : {U I O : Type 0} → ArithmeticUnit → (I → List ℤ) → (O → Meaning) → List Instruction → ℕ → Core → Memory U I O → Bool → Core → Memory U I O → Type 0
OneStep unit waiting means code limit a m true b n = Made unit waiting means code limit a m b n
OneStep unit waiting means code limit a m false b n = Halted unit waiting means code limit a m b n

pub record Stepped {U I O : Type 0} (unit : ArithmeticUnit) (waiting : I → List ℤ) (means : O → Meaning) (code : List Instruction) (limit : ℕ) (a : Core) (m : Memory U I O) (made : Bool) (b : Core) (n : Memory U I O) : Type 0 where
  pub moved : OneStep unit waiting means code limit a m made b n
  pub kept : KeptAtRest (means m.output) (means n.output)
