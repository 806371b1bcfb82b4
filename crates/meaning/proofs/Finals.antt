-- What a run of at most n steps comes to, as a function of counter, stack and world.
use Rattle.std.proofs.Common.{ℕ, zero, suc, List, ℤ, Some, None, Option}
use Rattle.code.specs.declared.Instruction.{Instruction}
use Rattle.code.specs.World.{World, Fault, ArithmeticUnit}
use Rattle.code.specs.Machine.{Step, moved, faulted, execute, fetch, or_zero}
use Rattle.meaning.specs.Meaning.{Outcome, goes_on, stops, fails}
use Rattle.meaning.proofs.Results.{Result, ok, bad}

-- the last number is the steps left
pub data Final : Type 0 where
  ended : World → ℕ → Final
  running : World → Final
  failed : ℕ → Fault → World → ℕ → Final

abbrev pub at_instruction : Option Instruction → Final → (Instruction → Final) → Final
at_instruction None e f = e
at_instruction (Some i) e f = f i

abbrev pub go_on : Step → (ℕ → List ℤ → World → Final) → (Fault → World → Final) → Final
go_on (moved a st w) f g = f a st w
go_on (faulted c w) f g = g c w

abbrev pub run : ArithmeticUnit → List Instruction → ℕ → ℕ → List ℤ → World → Final
run U code zero a st w = at_instruction (fetch code a) (ended w 0) (λ i. running w)
run U code (suc n) a st w =
    at_instruction (fetch code a) (ended w (suc n))
    (λ i. go_on (execute U i a st w) (λ a' st' w'. run U code n a' st' w') (λ c w'. failed a c w' (suc n)))

-- a run's fault names a token by the place list
abbrev pub named : List ℕ → Final → Final
named ps (ended w n) = ended w n
named ps (running w) = running w
named ps (failed a c w n) = failed (or_zero (fetch ps a)) c w n

-- what a meaning comes to
abbrev pub verdict : Outcome (Unit {0}) → Final
verdict (goes_on v s) = ended s.world s.left
verdict (stops s) = running s.world
verdict (fails p c s) = failed p c s.world s.left

-- an act's result as a step: where it goes and what is on the stack, by its value
abbrev pub step_of : {A : Type 0} → (A → ℕ) → (A → List ℤ) → Result A → Step
step_of f g (ok v w) = moved (f v) (g v) w
step_of f g (bad c w) = faulted c w
