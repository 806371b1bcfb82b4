-- What a run stands for: the state of the machine AM.
--   unit_of    a unit by its range and its narrowing
--   unit       the unit that a type of arithmetic is
--   tops       the stack as a list: the first n words of its memory, the last of them first
--   tapes_of   both tapes by their meanings
--   world_of   cells and tapes
--   run_of     the state of the machine
--   closed     a state after an instruction's answer: a step more, or a fault at its address
--   Done       an instruction came to this step
--   Acted      an instruction was executed as the meaning of code says
--   told       the step of an instruction's answer, at an address
--   Did        an instruction came to this step, and left the counter to another
--   Worked     an instruction was executed as the meaning of code says, but for the counter
--   Room       the stack has room for one word more, or it is full
--   Operands   the two upper words, the left one first
--   Popped     the top word
--   truth      the word of an answer
use Rattle.std.specs.Prelude.{◌≡◌, ℕ, zero, suc, ◌<◌, Bool, true, false, List, [], ◌∷◌, length, drop, ℤ, pos, negsuc, ◌≤ℤ◌, Some, None, Ok, Err, Option, Result, OnErr, nat_lt, slice_index_or}
use Rattle.units.specs.declared.arithmetic.Arithmetic.{Ghosts}
use Rattle.tapes.specs.Meaning.{Meaning, KeptAtRest}
use Rattle.code.specs.declared.Instruction.{Instruction}
use Rattle.code.specs.World.{ArithmeticUnit, Tapes, World}
use Rattle.code.specs.Machine.{Step, moved, faulted, execute, stepped}
use Rattle.code.specs.Machine as am
use Rattle.machine.specs.Numbers.{pinch_numbers, cause_of, fault_of}
use Rattle.machine.specs.declared.fault.Cause.{Cause}
use Rattle.machine.specs.declared.fault.Cause.TheVariants.{TooFewWords, StackFull}
use Rattle.machine.specs.declared.run.Core.{Core}
use Rattle.machine.specs.declared.run.Memory.{Memory}

abbrev pub unit_of : ℤ → ℤ → (ℤ → Option ℤ) → ArithmeticUnit
unit_of least greatest narrowed = record { least = least; greatest = greatest; narrow = narrowed }

abbrev pub unit : {U : Type 0} → Ghosts U → ArithmeticUnit
unit u = unit_of u.LEAST u.GREATEST u.narrowed

abbrev pub tops : List ℤ → ℕ → List ℤ
tops xs zero = []
tops xs (suc n) = slice_index_or xs n (pos 0) ∷ tops xs n

abbrev pub tapes_of : List ℤ → Meaning → Tapes
tapes_of waiting m = record { waiting = waiting; written = m.written; room = m.room; pinch = pinch_numbers m.pinch }

abbrev pub world_of : {U I O : Type 0} → (I → List ℤ) → (O → Meaning) → Memory U I O → World
world_of waiting means m = record { cells = m.cells; tapes = tapes_of (waiting m.input) (means m.output) }

abbrev pub run_of : {U I O : Type 0} → (I → List ℤ) → (O → Meaning) → Core → Memory U I O → am.Run
run_of waiting means c m = record { counter = c.counter; stack = m.stack; world = world_of waiting means m; steps = c.steps; fault = fault_of c.fault }

abbrev pub closed : {X : Type 0} → Result X Cause → am.Run → am.Run
closed (Ok x) m = record { counter = m.counter; stack = m.stack; world = m.world; steps = suc m.steps; fault = None }
closed (Err c) m = record { counter = m.counter; stack = m.stack; world = m.world; steps = m.steps; fault = Some (m.counter, cause_of c) }

-- from a over m to b over n: beside the step, words at rest stay there; no step is counted and no fault noted yet
pub record Done {U I O X : Type 0} (waiting : I → List ℤ) (means : O → Meaning) (s : Step) (a : Core) (m : Memory U I O) (r : Result X Cause) (b : Core) (n : Memory U I O) : Type 0 where
  pub effect : stepped (run_of waiting means a m) s ≡ closed r (run_of waiting means b n)
  pub rests : KeptAtRest (means m.output) (means n.output)
  pub steps : b.steps ≡ a.steps
  pub fault : b.fault ≡ a.fault

abbrev pub Acted : {U I O X : Type 0} → ArithmeticUnit → (I → List ℤ) → (O → Meaning) → Instruction → Core → Memory U I O → Result X Cause → Core → Memory U I O → Type 0
Acted unit waiting means i a m r b n = Done waiting means (execute unit i a.counter m.stack (world_of waiting means m)) a m r b n

abbrev pub told : {X : Type 0} → ℕ → Result X Cause → List ℤ → World → Step
told address (Ok x) st w = moved (suc address) st w
told address (Err c) st w = faulted (cause_of c) w

-- from m to n; a fault leaves the stack as it was, and words at rest stay there
pub record Did {U I O X : Type 0} (waiting : I → List ℤ) (means : O → Meaning) (s : Step) (address : ℕ) (m : Memory U I O) (r : Result X Cause) (n : Memory U I O) : Type 0 where
  pub effect : s ≡ told address r n.stack (world_of waiting means n)
  pub stays : OnErr r (n.stack ≡ m.stack)
  pub rests : KeptAtRest (means m.output) (means n.output)

abbrev pub Worked : {U I O X : Type 0} → ArithmeticUnit → (I → List ℤ) → (O → Meaning) → Instruction → ℕ → Memory U I O → Result X Cause → Memory U I O → Type 0
Worked unit waiting means i address m r n = Did waiting means (execute unit i address m.stack (world_of waiting means m)) address m r n

abbrev pub Room : {X : Type 0} → List ℤ → Result X Cause → Type 0
Room st (Ok x) = nat_lt (length st) 68 ≡ true
Room st (Err c) = (c ≡ StackFull) × (nat_lt (length st) 68 ≡ false)

-- a number of 32 bits
pub record Word (z : ℤ) : Type 0 where
  pub low : negsuc 2147483647 ≤ℤ z
  pub high : z ≤ℤ pos 2147483647

pub record Two (st : List ℤ) (x y : ℤ) : Type 0 where
  pub words : st ≡ y ∷ x ∷ drop 2 st
  pub left : Word x
  pub right : Word y

abbrev pub Operands : List ℤ → Result (ℤ × ℤ) Cause → Type 0
Operands st (Ok p) = Two st p.0 p.1
Operands st (Err c) = (c ≡ TooFewWords) × (length st < 2)

abbrev pub Popped : List ℤ → Result ℤ Cause → List ℤ → Type 0
Popped st (Ok v) rest = st ≡ v ∷ rest
Popped st (Err c) rest = (c ≡ TooFewWords) × (st ≡ []) × (rest ≡ st)

-- what a comparison leaves
abbrev pub truth : Bool → ℤ
truth true = pos 1
truth false = pos 0
