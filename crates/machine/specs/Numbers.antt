-- The numbers of faults, of the tape's refusal in one, and of statuses.
--   pinch_numbers  depth and reason's number of a tape's refusal
--   cause_of       the fault of a cause: its number, and for 21 the tape's refusal
--   fault_of       a run's fault: its address and that
--   status_number  the number of a status
use Rattle.std.specs.Prelude.{ℕ, Some, None, Option}
use Rattle.tapes.specs.declared.output.Pinch.{Pinch}
use Rattle.tapes.specs.Meaning.{reason_number}
use Rattle.code.specs.World as world
use Rattle.code.specs.World.{plain}
use Rattle.machine.specs.declared.fault.Cause.{Cause}
use Rattle.machine.specs.declared.fault.Cause.TheVariants.{NoInput, NoRoom, Unset, OutOfRange, DivisionByZero, TooFewWords, StackFull}
use Rattle.machine.specs.declared.fault.Fault.{Fault}
use Rattle.machine.specs.declared.status.Status.{Status}
use Rattle.machine.specs.declared.status.Status.TheVariants.{Running, Ended, Faulted, AtLid}

abbrev pub pinch_numbers : Pinch → ℕ × ℕ
pinch_numbers p = (p.depth, reason_number p.reason)

abbrev pub cause_of : Cause → world.Fault
cause_of NoInput = plain 20
cause_of (NoRoom p) = record { cause = 21; pinch = Some (pinch_numbers p) }
cause_of Unset = plain 22
cause_of OutOfRange = plain 23
cause_of DivisionByZero = plain 24
cause_of TooFewWords = plain 25
cause_of StackFull = plain 26

abbrev pub fault_of : Option Fault → Option (ℕ × world.Fault)
fault_of None = None
fault_of (Some f) = Some (f.address, cause_of f.cause)

abbrev pub status_number : Status → ℕ
status_number Running = 0
status_number Ended = 1
status_number Faulted = 2
status_number AtLid = 3
