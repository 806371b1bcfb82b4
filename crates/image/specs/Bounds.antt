-- Which cells and targets exist.
--   cell_exists    cells are numbered 1 to 64
--   target_exists  a jump goes to an address of the code, or to the one after it
--   inside         the cell or target of an instruction exists, where the code has so many instructions
--   is_outside     it does not exist
--   all_inside     those of all instructions do
use Rattle.std.specs.Prelude.{ℕ, ◌+◌, Bool, true, not, ◌&&◌, List, [], ◌∷◌, nat_le}
use Rattle.code.specs.declared.Instruction.{Instruction}
use Rattle.code.specs.declared.Instruction.TheVariants.{Literal, Read, Write, Load, Store, Jump, JumpIfZero, Add, Subtract, Multiply, Divide, Modulo, Less, Equal, Unequal, Greater, AtMost, AtLeast}

abbrev pub cell_exists : ℕ → Bool
cell_exists n = nat_le 1 n && nat_le n 64

abbrev pub target_exists : ℕ → ℕ → Bool
target_exists len n = nat_le 1 n && nat_le n (len + 1)

abbrev pub inside : ℕ → Instruction → Bool
inside len (Literal z) = true
inside len (Read n) = cell_exists n
inside len (Write n) = cell_exists n
inside len (Load n) = cell_exists n
inside len (Store n) = cell_exists n
inside len (Jump n) = target_exists len n
inside len (JumpIfZero n) = target_exists len n
inside len Add = true
inside len Subtract = true
inside len Multiply = true
inside len Divide = true
inside len Modulo = true
inside len Less = true
inside len Equal = true
inside len Unequal = true
inside len Greater = true
inside len AtMost = true
inside len AtLeast = true

abbrev pub is_outside : ℕ → Instruction → Bool
is_outside len i = not (inside len i)

abbrev pub all_inside : ℕ → List Instruction → Bool
all_inside len [] = true
all_inside len (i ∷ is) = inside len i && all_inside len is
