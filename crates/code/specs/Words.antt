-- The words of instructions.
--   Short         a literal of 31 bits, two's complement
--   InRange       a literal has 31 bits, an operand 16
--   word_of       the word of an instruction
--   Encoded       what encoding an instruction answers
--   Decoded       what decoding a word answers
--   OneWordEach   each instruction in range has one word, its own, and decoding undoes encoding
--   Examples      two words worked out
use Rattle.std.specs.Prelude.{◌≡◌, ℕ, ◌+◌, ◌-◌, ◌*◌, ◌^◌, ◌<◌, ◌↔◌, ℤ, pos, negsuc, Some, None, Option, ◌≢◌}
use Rattle.code.specs.declared.Instruction.{Instruction}
use Rattle.code.specs.declared.Instruction.TheVariants.{Literal, Read, Write, Load, Store, Jump, JumpIfZero, Add, Subtract, Multiply, Divide, Modulo, Less, Equal, Unequal, Greater, AtMost, AtLeast}

-- the top bit is 1, the low 31 bits are the number in two's complement
abbrev pub literal_word : ℤ → ℕ
literal_word (pos n) = 2 ^ 31 + n
literal_word (negsuc n) = 2 ^ 32 - 1 - n

-- the top bits are 01, the bits 29 to 27 the kind, the low 16 bits the operand, the others 0
abbrev pub operand_word : ℕ → ℕ → ℕ
operand_word kind n = 2 ^ 30 + kind * 2 ^ 27 + n

abbrev pub word_of : Instruction → ℕ
word_of (Literal z) = literal_word z
word_of (Read n) = operand_word 0 n
word_of (Write n) = operand_word 1 n
word_of (Load n) = operand_word 2 n
word_of (Store n) = operand_word 3 n
word_of (Jump n) = operand_word 4 n
word_of (JumpIfZero n) = operand_word 5 n
word_of Add = 1
word_of Subtract = 2
word_of Multiply = 3
word_of Divide = 4
word_of Modulo = 5
word_of Less = 6
word_of Equal = 7
word_of Unequal = 8
word_of Greater = 9
word_of AtMost = 10
word_of AtLeast = 11

abbrev pub Short : ℤ → Type 0
Short (pos n) = n < 2 ^ 30
Short (negsuc n) = n < 2 ^ 30

abbrev pub InRange : Instruction → Type 0
InRange (Literal z) = Short z
InRange (Read n) = n < 2 ^ 16
InRange (Write n) = n < 2 ^ 16
InRange (Load n) = n < 2 ^ 16
InRange (Store n) = n < 2 ^ 16
InRange (Jump n) = n < 2 ^ 16
InRange (JumpIfZero n) = n < 2 ^ 16
InRange Add = Unit {0}
InRange Subtract = Unit {0}
InRange Multiply = Unit {0}
InRange Divide = Unit {0}
InRange Modulo = Unit {0}
InRange Less = Unit {0}
InRange Equal = Unit {0}
InRange Unequal = Unit {0}
InRange Greater = Unit {0}
InRange AtMost = Unit {0}
InRange AtLeast = Unit {0}

-- the word, or none where the instruction is out of range
abbrev pub Encoded : Instruction → Option ℕ → Type 0
Encoded i (Some w) = InRange i × (w ≡ word_of i)
Encoded i None = InRange i → ⊥

-- the instruction that has the word, or none where none has
abbrev pub Decoded : ℕ → Option Instruction → Type 0
Decoded w (Some i) = InRange i × (word_of i ≡ w)
Decoded w None = (i : Instruction) → InRange i → word_of i ≢ w

pub record OneWordEach : Type 0 where
  pub fits : (i : Instruction) → InRange i → word_of i < 2 ^ 32
  pub own : (i j : Instruction) → InRange i → InRange j → word_of i ≡ word_of j → i ≡ j
  pub inverse : (i : Instruction) (w : ℕ) → Encoded i (Some w) ↔ Decoded w (Some i)

pub record Examples : Type 0 where
  pub minus_one : word_of (Literal (negsuc 0)) ≡ 0xFFFF_FFFF
  pub jump_13 : word_of (JumpIfZero 13) ≡ 0x6800_000D
