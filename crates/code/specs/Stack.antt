-- How every instruction uses the stack, whatever code it stands in.
--   takes     how many words an instruction takes off
--   over      the same step with more words below
--   Frame     words below those that an instruction takes stay, and make no difference
--   TooFew    with fewer words than it takes it faults with 25, before all else
--   Full      an instruction that only puts a word on faults with 26 on a full stack, before all else
--   Jumps     JMC jumps on 0, and on nothing else
use Rattle.std.specs.Prelude.{◌≡◌, ℕ, suc, ◌+◌, ◌<◌, ◌≤◌, List, ◌∷◌, ◌++◌, length, ℤ, pos, ◌≢◌}
use Rattle.code.specs.declared.Instruction.{Instruction}
use Rattle.code.specs.declared.Instruction.TheVariants.{Literal, Read, Write, Load, Store, Jump, JumpIfZero, Add, Subtract, Multiply, Divide, Modulo, Less, Equal, Unequal, Greater, AtMost, AtLeast}
use Rattle.code.specs.World.{World, plain, ArithmeticUnit}
use Rattle.code.specs.Machine.{Step, moved, faulted, execute}

abbrev pub takes : Instruction → ℕ
takes (Literal z) = 0
takes (Read n) = 0
takes (Write n) = 0
takes (Load n) = 0
takes (Store n) = 1
takes (Jump t) = 0
takes (JumpIfZero t) = 1
takes Add = 2
takes Subtract = 2
takes Multiply = 2
takes Divide = 2
takes Modulo = 2
takes Less = 2
takes Equal = 2
takes Unequal = 2
takes Greater = 2
takes AtMost = 2
takes AtLeast = 2

abbrev pub over : List ℤ → Step → Step
over deep (moved a st w) = moved a (st ++ deep) w
over deep (faulted f w) = faulted f w

abbrev pub Frame : Type 0
Frame =
    (U : ArithmeticUnit) (i : Instruction) (a : ℕ) (st deep : List ℤ) (w : World) →
    takes i ≤ length st →
    length st + length deep < 68 →
    execute U i a (st ++ deep) w ≡ over deep (execute U i a st w)

abbrev pub TooFew : Type 0
TooFew = (U : ArithmeticUnit) (i : Instruction) (a : ℕ) (st : List ℤ) (w : World) → length st < takes i → execute U i a st w ≡ faulted (plain 25) w

abbrev pub Full : Type 0
Full =
    (U : ArithmeticUnit) (a : ℕ) (st : List ℤ) (w : World) →
    68 ≤ length st →
    ((z : ℤ) → execute U (Literal z) a st w ≡ faulted (plain 26) w) × ((n : ℕ) → execute U (Load n) a st w ≡ faulted (plain 26) w)

abbrev pub Jumps : Type 0
Jumps =
    (U : ArithmeticUnit) (a t : ℕ) (st : List ℤ) (w : World) →
    (execute U (JumpIfZero t) a (pos 0 ∷ st) w ≡ moved t st w)
    × ((v : ℤ) → (v ≢ pos 0) → execute U (JumpIfZero t) a (v ∷ st) w ≡ moved (suc a) st w)
