-- Worked examples of the published translation.
--   squares       the sum of squares: int i,n,s; scanf("%d",&n); i=1; s=0; while (i<=n) { s=s+i*i; i=i+1; } printf("%d",s);
--   nested        if (i<n) if (n>s) i=-i; else s=i/(n-1)%s; with `int i,n,s;` before it
--   Published     their code with tree addresses
--   Linear        their code, linearised
use Rattle.std.specs.Prelude.{◌≡◌, ℕ, List, [], ◌∷◌, pos, negsuc}
use Rattle.syntax.specs.declared.token.Relation.TheVariants.{Less, Greater, AtMost}
use Rattle.syntax.specs.declared.token.Additive.TheVariants.{Plus, Minus}
use Rattle.syntax.specs.declared.token.Multiplicative.TheVariants.{Times, Divide, Modulo}
use Rattle.syntax.specs.Tokens.{Name}
use Rattle.syntax.specs.Trees.{Expression, first, minus, more, one, times, name, number, paren, test, assign, scan, print, when, either, while, block, none, then, Program}
use Rattle.code.specs.declared.Instruction.TheVariants as instruction
use Rattle.code.specs.declared.Instruction.TheVariants.{Literal, Read, Write, Load, Store, Jump, JumpIfZero, Add, Subtract, Multiply}
use Rattle.translator.specs.Published.{label, plain, jump, jump_if_zero, trans, linearise}

abbrev i : Name
i = 105 ∷ []

abbrev n : Name
n = 110 ∷ []

abbrev s : Name
s = 115 ∷ []

abbrev var : Name → ℕ → Expression Name
var x p = first (one (name x p))

abbrev const : ℕ → ℕ → Expression Name
const z p = first (one (number z p))

-- int i,n,s;
abbrev declared : List (Name × ℕ)
declared = (i, 36) ∷ (n, 38) ∷ (s, 40) ∷ []

abbrev pub squares : Program Name
squares = record {
  declared = declared;
  statements =
      then (scan n 57)
      (then (assign i 63 (const 1 65))
      (then (assign s 70 (const 0 72))
      (then (while 77 (test (var i 84) AtMost 85 (var n 87))
      (block (then (assign s 96 (more (var s 98) Plus 99 (times (one (name i 100)) Times 101 (name i 102))))
      (then (assign i 111 (more (var i 113) Plus 114 (one (number 1 115)))) none))))
      (then (print s 138) none))));
}

abbrev pub nested : Program Name
nested = record {
  declared = declared;
  statements =
      then (when 45 (test (var i 49) Less 50 (var n 51))
      (either 54 (test (var n 58) Greater 59 (var s 60))
      (assign i 63 (minus 65 (one (name i 66))))
      69
      (assign s 74 (first (times (times (one (name i 76)) Divide 77 (paren (more (var n 79) Minus 80 (one (number 1 81))))) Modulo 83 (name s 84))))))
      none;
}

pub record Published : Type 0 where
  pub squares : trans squares ≡
      (plain (Read 2) 57
      ∷ plain (Literal (pos 1)) 65 ∷ plain (Store 1) 63
      ∷ plain (Literal (pos 0)) 72 ∷ plain (Store 3) 70
      ∷ label (1 ∷ 4 ∷ 2 ∷ []) ∷ plain (Load 1) 84 ∷ plain (Load 2) 87 ∷ plain instruction.AtMost 85
      ∷ jump_if_zero (1 ∷ 4 ∷ []) 77
      ∷ plain (Load 3) 98 ∷ plain (Load 1) 100 ∷ plain (Load 1) 102 ∷ plain Multiply 101 ∷ plain Add 99 ∷ plain (Store 3) 96
      ∷ plain (Load 1) 113 ∷ plain (Literal (pos 1)) 115 ∷ plain Add 114 ∷ plain (Store 1) 111
      ∷ jump (1 ∷ 4 ∷ 2 ∷ []) 77
      ∷ label (1 ∷ 4 ∷ []) ∷ plain (Write 3) 138
      ∷ [])
  pub nested : trans nested ≡
      (plain (Load 1) 49 ∷ plain (Load 2) 51 ∷ plain instruction.Less 50
      ∷ jump_if_zero (1 ∷ 1 ∷ []) 45
      ∷ plain (Load 2) 58 ∷ plain (Load 3) 60 ∷ plain instruction.Greater 59
      ∷ jump_if_zero (1 ∷ 1 ∷ 1 ∷ []) 54
      ∷ plain (Load 1) 66 ∷ plain (Literal (negsuc 0)) 65 ∷ plain Multiply 65 ∷ plain (Store 1) 63
      ∷ jump (1 ∷ 1 ∷ 1 ∷ 3 ∷ []) 69
      ∷ label (1 ∷ 1 ∷ 1 ∷ [])
      ∷ plain (Load 1) 76 ∷ plain (Load 2) 79 ∷ plain (Literal (pos 1)) 81 ∷ plain Subtract 80 ∷ plain instruction.Divide 77 ∷ plain (Load 3) 84 ∷ plain instruction.Modulo 83 ∷ plain (Store 3) 74
      ∷ label (1 ∷ 1 ∷ 1 ∷ 3 ∷ [])
      ∷ label (1 ∷ 1 ∷ [])
      ∷ [])

pub record Linear : Type 0 where
  pub squares : linearise (trans squares) ≡
      ((Read 2, 57)
      ∷ (Literal (pos 1), 65) ∷ (Store 1, 63)
      ∷ (Literal (pos 0), 72) ∷ (Store 3, 70)
      ∷ (Load 1, 84) ∷ (Load 2, 87) ∷ (instruction.AtMost, 85)
      ∷ (JumpIfZero 21, 77)
      ∷ (Load 3, 98) ∷ (Load 1, 100) ∷ (Load 1, 102) ∷ (Multiply, 101) ∷ (Add, 99) ∷ (Store 3, 96)
      ∷ (Load 1, 113) ∷ (Literal (pos 1), 115) ∷ (Add, 114) ∷ (Store 1, 111)
      ∷ (Jump 6, 77)
      ∷ (Write 3, 138)
      ∷ [])
  pub nested : linearise (trans nested) ≡
      ((Load 1, 49) ∷ (Load 2, 51) ∷ (instruction.Less, 50)
      ∷ (JumpIfZero 22, 45)
      ∷ (Load 2, 58) ∷ (Load 3, 60) ∷ (instruction.Greater, 59)
      ∷ (JumpIfZero 14, 54)
      ∷ (Load 1, 66) ∷ (Literal (negsuc 0), 65) ∷ (Multiply, 65) ∷ (Store 1, 63)
      ∷ (Jump 22, 69)
      ∷ (Load 1, 76) ∷ (Load 2, 79) ∷ (Literal (pos 1), 81) ∷ (Subtract, 80) ∷ (instruction.Divide, 77) ∷ (Load 3, 84) ∷ (instruction.Modulo, 83) ∷ (Store 3, 74)
      ∷ [])
