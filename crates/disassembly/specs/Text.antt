-- How code is written for a person.
--   named      an instruction's name and operand
--   position   the line and the column, both from 1, behind some bytes
use Rattle.std.specs.Prelude.{ℕ, ◌+◌, cond, List, ◌++◌, codes, decimal, fold, ◌==◌}
use Rattle.std.specs.Fmt.{signed_decimal}
use Rattle.code.specs.declared.Instruction.{Instruction}
use Rattle.code.specs.declared.Instruction.TheVariants.{Literal, Read, Write, Load, Store, Jump, JumpIfZero, Add, Subtract, Multiply, Divide, Modulo, Less, Equal, Unequal, Greater, AtMost, AtLeast}

abbrev pub named : Instruction → List ℕ
named (Literal z) = codes "LIT " ++ signed_decimal z
named (Read n) = codes "READ " ++ decimal n
named (Write n) = codes "WRITE " ++ decimal n
named (Load n) = codes "LOAD " ++ decimal n
named (Store n) = codes "STORE " ++ decimal n
named (Jump n) = codes "JMP " ++ decimal n
named (JumpIfZero n) = codes "JMC " ++ decimal n
named Add = codes "ADD"
named Subtract = codes "SUB"
named Multiply = codes "MUL"
named Divide = codes "DIV"
named Modulo = codes "MOD"
named Less = codes "LT"
named Equal = codes "EQ"
named Unequal = codes "NE"
named Greater = codes "GT"
named AtMost = codes "LE"
named AtLeast = codes "GE"

-- behind a byte at this position
abbrev pub stepped : ℕ × ℕ → ℕ → ℕ × ℕ
stepped p b = cond (b == 10) (p.0 + 1, 1) (p.0, p.1 + 1)

abbrev pub position : List ℕ → ℕ × ℕ
position bytes = fold stepped (1, 1) bytes
