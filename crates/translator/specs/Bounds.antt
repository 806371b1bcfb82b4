-- The cells and targets of a program's code.
--   Cell           a cell from 1 to 64
--   Within         an instruction's cell is one of those, and its target lies between two addresses
--   StaysInside    the code of a program whose names are declared as they should be has such cells, and its jumps stay
--                  between the first address and the one behind the last
use Rattle.std.specs.Prelude.{ℕ, suc, ◌≤◌, length}
use Rattle.std.specs.List.{AllByRecursion}
use Rattle.syntax.specs.Tokens.{Name}
use Rattle.syntax.specs.Trees.{Program}
use Rattle.names.specs.Names.{Named}
use Rattle.code.specs.declared.Instruction.{Instruction}
use Rattle.code.specs.declared.Instruction.TheVariants.{Literal, Read, Write, Load, Store, Jump, JumpIfZero, Add, Subtract, Multiply, Divide, Modulo, Less, Equal, Unequal, Greater, AtMost, AtLeast}
use Rattle.translator.specs.Published.{trans, linearise}

abbrev pub Cell : ℕ → Type 0
Cell n = (1 ≤ n) × (n ≤ 64)

abbrev pub Within : ℕ → ℕ → Instruction → Type 0
Within low high (Read n) = Cell n
Within low high (Write n) = Cell n
Within low high (Load n) = Cell n
Within low high (Store n) = Cell n
Within low high (Jump n) = (low ≤ n) × (n ≤ high)
Within low high (JumpIfZero n) = (low ≤ n) × (n ≤ high)
Within low high (Literal z) = Unit {0}
Within low high Add = Unit {0}
Within low high Subtract = Unit {0}
Within low high Multiply = Unit {0}
Within low high Divide = Unit {0}
Within low high Modulo = Unit {0}
Within low high Less = Unit {0}
Within low high Equal = Unit {0}
Within low high Unequal = Unit {0}
Within low high Greater = Unit {0}
Within low high AtMost = Unit {0}
Within low high AtLeast = Unit {0}

abbrev pub StaysInside : Type 0
StaysInside = (p : Program Name) → Named p → AllByRecursion (λ x. Within 1 (suc (length (linearise (trans p)))) x.0) (linearise (trans p))
