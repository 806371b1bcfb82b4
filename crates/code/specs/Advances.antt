-- What holds of advances, whatever the unit and the code.
--   made        the steps that an advance makes
--   Together    advancing by a and then by b is advancing by a + b, in state and status, and their steps add up
--   Within      an advance makes no more steps than its allowance, and none past the lid; a run that has ended or
--               faulted, or is at its lid, it leaves as it is
use Rattle.std.specs.Prelude.{◌≡◌, ℕ, ◌+◌, ◌-◌, ◌≤◌, List, ◌≢◌}
use Rattle.code.specs.declared.Instruction.{Instruction}
use Rattle.code.specs.World.{ArithmeticUnit}
use Rattle.code.specs.Machine.{Run, advance, status}

abbrev pub made : ArithmeticUnit → List Instruction → ℕ → ℕ → Run → ℕ
made U code lid n m = (advance U code lid n m).steps - m.steps

pub record Together (U : ArithmeticUnit) (code : List Instruction) (lid a b : ℕ) (m : Run) : Type 0 where
  pub state : advance U code lid b (advance U code lid a m) ≡ advance U code lid (a + b) m
  pub told : status lid code (advance U code lid b (advance U code lid a m)) ≡ status lid code (advance U code lid (a + b) m)
  pub steps : made U code lid a m + made U code lid b (advance U code lid a m) ≡ made U code lid (a + b) m

pub record Within (U : ArithmeticUnit) (code : List Instruction) (lid n : ℕ) (m : Run) : Type 0 where
  pub onward : m.steps ≤ (advance U code lid n m).steps
  pub allowed : made U code lid n m ≤ n
  pub lidded : m.steps ≤ lid → (advance U code lid n m).steps ≤ lid
  pub stays : (status lid code m ≢ 0) → advance U code lid n m ≡ m

abbrev pub AdvancesAddUp : Type 0
AdvancesAddUp = (U : ArithmeticUnit) (code : List Instruction) (lid a b : ℕ) (m : Run) → Together U code lid a b m

abbrev pub AdvancesStayWithin : Type 0
AdvancesStayWithin = (U : ArithmeticUnit) (code : List Instruction) (lid n : ℕ) (m : Run) → Within U code lid n m
