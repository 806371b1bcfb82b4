-- Instructions whose operation is a closure's: what a closure computes, and the machine's step with that.
--   Computes   on words it answers what g does
--   Decides    on words its answer stands for what g gives
--   divided    what g gives, where the right one is not 0
--   finished   a result is narrowed and goes onto the stack, or the step has that fault
--   operation  two words become what g answers of them
--   comparing  two words become what g gives of them
use Rattle.std.specs.Prelude.{◌≡◌, ℕ, Bool, cond, List, ℤ, Ok, Err, Option, Result}
use Rattle.code.specs.World.{World}
use Rattle.code.specs.Machine.{Step, faulted, pop_two, push, comparison}
use Rattle.code.specs.Division.{is_zero}
use Rattle.machine.specs.Numbers.{cause_of}
use Rattle.machine.specs.View.{Word, truth}
use Rattle.machine.specs.declared.fault.Cause.{Cause}
use Rattle.machine.specs.declared.fault.Cause.TheVariants.{DivisionByZero}

abbrev pub Computes : (ℤ → ℤ → Result ℤ Cause → Type 0) → (ℤ → ℤ → Result ℤ Cause) → Type 0
Computes post g = (x y : ℤ) (r : Result ℤ Cause) → Word x → Word y → post x y r → r ≡ g x y

abbrev pub Decides : (ℤ → ℤ → Bool → Type 0) → (ℤ → ℤ → ℤ) → Type 0
Decides post g = (x y : ℤ) (answer : Bool) → Word x → Word y → post x y answer → truth answer ≡ g x y

abbrev pub divided : (ℤ → ℤ → ℤ) → ℤ → ℤ → Result ℤ Cause
divided g x y = cond (is_zero y) (Err DivisionByZero) (Ok (g x y))

abbrev pub finished : ℕ → List ℤ → World → (ℤ → Option ℤ) → Result ℤ Cause → Step
finished a st w narrow (Ok z) = push a st w 23 (narrow z)
finished a st w narrow (Err c) = faulted (cause_of c) w

abbrev pub operation : ℕ → List ℤ → World → (ℤ → Option ℤ) → (ℤ → ℤ → Result ℤ Cause) → Step
operation a st w narrow g = pop_two st w (λ x y r. finished a r w narrow (g x y))

abbrev pub comparing : ℕ → List ℤ → World → (ℤ → ℤ → ℤ) → Step
comparing a st w g = pop_two st w (λ x y r. comparison a r w (g x y))
