-- The linear translation of a tree with cells: instructions with the places of their tokens.
--   Code                   instructions, each with the place of its token
--   instructions, places   the two lists of a code
--   past                   the address after some code that stands at an address
--   code_of_…              the code of each piece; of a statement at an address
--   linear_code            the code of a program's statements, from address 1
use Rattle.std.specs.Prelude.{ℕ, suc, List, [], ◌∷◌, ◌++◌, map, pos, negsuc}
use Rattle.syntax.specs.declared.token.Relation.{Relation}
use Rattle.syntax.specs.declared.token.Relation.TheVariants.{Equal, Unequal, Less, Greater, AtMost, AtLeast}
use Rattle.syntax.specs.declared.token.Additive.{Additive}
use Rattle.syntax.specs.declared.token.Additive.TheVariants.{Plus, Minus}
use Rattle.syntax.specs.declared.token.Multiplicative.{Multiplicative}
use Rattle.syntax.specs.declared.token.Multiplicative.TheVariants.{Times, Divide, Modulo}
use Rattle.syntax.specs.Trees.{Expression, first, minus, more, Term, one, times, Factor, name, number, paren, Condition, test, Statement, assign, scan, print, when, either, while, block, Statements, none, then}
use Rattle.code.specs.declared.Instruction.{Instruction}
use Rattle.code.specs.declared.Instruction.TheVariants.{Literal, Read, Write, Load, Store, Jump, JumpIfZero, Add, Subtract, Multiply}
use Rattle.code.specs.declared.Instruction.TheVariants as instruction

abbrev pub Code : Type 0
Code = List (Instruction × ℕ)

abbrev pub instructions : Code → List Instruction
instructions c = map (λ x. x.0) c

abbrev pub places : Code → List ℕ
places c = map (λ x. x.1) c

-- the address after xs, where xs stands at a
abbrev pub past : {A : Type 0} → ℕ → List A → ℕ
past a [] = a
past a (x ∷ xs) = past (suc a) xs

abbrev pub code_of_sum : Additive → Instruction
code_of_sum Plus = Add
code_of_sum Minus = Subtract

abbrev pub code_of_product : Multiplicative → Instruction
code_of_product Times = Multiply
code_of_product Divide = instruction.Divide
code_of_product Modulo = instruction.Modulo

abbrev pub code_of_relation : Relation → Instruction
code_of_relation Equal = instruction.Equal
code_of_relation Unequal = instruction.Unequal
code_of_relation Less = instruction.Less
code_of_relation Greater = instruction.Greater
code_of_relation AtMost = instruction.AtMost
code_of_relation AtLeast = instruction.AtLeast

abbrev mutual
  pub code_of_expression : Expression ℕ → Code
  code_of_expression (first t) = code_of_term t
  code_of_expression (minus p t) = code_of_term t ++ ((Literal (negsuc 0), p) ∷ (Multiply, p) ∷ [])
  code_of_expression (more e o p t) = code_of_expression e ++ (code_of_term t ++ ((code_of_sum o, p) ∷ []))

  pub code_of_term : Term ℕ → Code
  code_of_term (one f) = code_of_factor f
  code_of_term (times t o p f) = code_of_term t ++ (code_of_factor f ++ ((code_of_product o, p) ∷ []))

  pub code_of_factor : Factor ℕ → Code
  code_of_factor (name n p) = (Load n, p) ∷ []
  code_of_factor (number z p) = (Literal (pos z), p) ∷ []
  code_of_factor (paren e) = code_of_expression e

abbrev pub code_of_condition : Condition ℕ → Code
code_of_condition (test l r p e) = code_of_expression l ++ (code_of_expression e ++ ((code_of_relation r, p) ∷ []))

abbrev mutual
  pub code_of_statement : Statement ℕ → ℕ → Code
  code_of_statement (assign n p e) a = code_of_expression e ++ ((Store n, p) ∷ [])
  code_of_statement (scan n p) a = (Read n, p) ∷ []
  code_of_statement (print n p) a = (Write n, p) ∷ []
  code_of_statement (when p c s) a =
      let a₁ : ℕ = suc (past a (code_of_condition c)) in
      let body : Code = code_of_statement s a₁ in
      code_of_condition c ++ ((JumpIfZero (past a₁ body), p) ∷ body)
  code_of_statement (either p c s q s') a =
      let a₁ : ℕ = suc (past a (code_of_condition c)) in
      let taken : Code = code_of_statement s a₁ in
      let a₂ : ℕ = suc (past a₁ taken) in
      let other : Code = code_of_statement s' a₂ in
      code_of_condition c ++ ((JumpIfZero a₂, p) ∷ (taken ++ ((Jump (past a₂ other), q) ∷ other)))
  code_of_statement (while p c s) a =
      let a₁ : ℕ = suc (past a (code_of_condition c)) in
      let body : Code = code_of_statement s a₁ in
      code_of_condition c ++ ((JumpIfZero (suc (past a₁ body)), p) ∷ (body ++ ((Jump a, p) ∷ [])))
  code_of_statement (block ss) a = code_of_statements ss a

  pub code_of_statements : Statements ℕ → ℕ → Code
  code_of_statements none a = []
  code_of_statements (then s ss) a =
      let xs : Code = code_of_statement s a in
      xs ++ code_of_statements ss (past a xs)

abbrev pub linear_code : Statements ℕ → Code
linear_code ss = code_of_statements ss 1
