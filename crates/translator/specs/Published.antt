-- The published translation: a symbol table, jumps that name tree addresses, and linearising.
--   mksymtab        the symbol table of a declaration: its names have the cells 1, 2, …; any other name has 0
--   Label, below    a tree address is a list of numbers; a.k
--   Line            a tree address that marks where it stands; an instruction; JMP and JMC to a tree address.
--                   Each instruction has the place of its token
--   trans, blocktrans, stseqtrans, sttrans, boolexptrans, simpleexptrans, termtrans, factortrans
--                   the translation of each piece of a program
--   table, find     the pairs of tree address and number, with the instructions numbered from 1; the number of an address
--   adapt           the instructions alone, their jumps adapted to the numbers
--   linearise       numbering and adapting
--   labels          the tree addresses that stand in some lines
--   Distinct        no tree address stands twice
--   LabelledOnce    no tree address stands twice in a program's translation
--   Linearised      the published code, linearised, is the linear code of the tree with cells for names
use Rattle.std.specs.Prelude.{◌≡◌, ℕ, suc, cond, ◌≢◌, List, [], ◌∷◌, ◌++◌, pos, negsuc}
use Rattle.std.specs.List.{AllByRecursion}
use Rattle.std.specs.Str.{bytes_eq}
use Rattle.syntax.specs.declared.token.Relation.{Relation}
use Rattle.syntax.specs.declared.token.Relation.TheVariants.{Equal, Unequal, Less, Greater, AtMost, AtLeast}
use Rattle.syntax.specs.declared.token.Additive.{Additive}
use Rattle.syntax.specs.declared.token.Additive.TheVariants.{Plus, Minus}
use Rattle.syntax.specs.declared.token.Multiplicative.{Multiplicative}
use Rattle.syntax.specs.declared.token.Multiplicative.TheVariants.{Times, Divide, Modulo}
use Rattle.syntax.specs.Tokens.{Name}
use Rattle.syntax.specs.Trees.{Expression, first, minus, more, Term, one, times, Factor, name, number, paren, Condition, test, Statement, assign, scan, print, when, either, while, block, Statements, none, then, Program}
use Rattle.code.specs.declared.Instruction.{Instruction}
use Rattle.code.specs.declared.Instruction.TheVariants.{Literal, Read, Write, Load, Store, Jump, JumpIfZero, Add, Subtract, Multiply}
use Rattle.code.specs.declared.Instruction.TheVariants as instruction
use Rattle.translator.specs.Cells.{cells_of_statements}
use Rattle.translator.specs.Linear.{Code, linear_code}

-- [id₁/k, id₂/k+1, …]
abbrev pub symbols : ℕ → List (Name × ℕ) → Name → ℕ
symbols k [] x = 0
symbols k (id ∷ ids) x = cond (bytes_eq x id.0) k (symbols (suc k) ids x)

abbrev pub mksymtab : List (Name × ℕ) → Name → ℕ
mksymtab ids = symbols 1 ids

abbrev pub Label : Type 0
Label = List ℕ

abbrev pub below : Label → ℕ → Label
below a k = a ++ (k ∷ [])

pub data Line : Type 0 where
  label : Label → Line
  plain : Instruction → ℕ → Line
  jump : Label → ℕ → Line
  jump_if_zero : Label → ℕ → Line

abbrev pub sumtrans : Additive → Instruction
sumtrans Plus = Add
sumtrans Minus = Subtract

abbrev pub producttrans : Multiplicative → Instruction
producttrans Times = Multiply
producttrans Divide = instruction.Divide
producttrans Modulo = instruction.Modulo

abbrev pub reltrans : Relation → Instruction
reltrans Equal = instruction.Equal
reltrans Unequal = instruction.Unequal
reltrans Less = instruction.Less
reltrans Greater = instruction.Greater
reltrans AtMost = instruction.AtMost
reltrans AtLeast = instruction.AtLeast

module _ {N : Type 0} (tab : N → ℕ) where
  abbrev mutual
    pub simpleexptrans : Expression N → List Line
    simpleexptrans (first t) = termtrans t
    simpleexptrans (minus p t) = termtrans t ++ (plain (Literal (negsuc 0)) p ∷ plain Multiply p ∷ [])
    simpleexptrans (more e o p t) = simpleexptrans e ++ (termtrans t ++ (plain (sumtrans o) p ∷ []))

    pub termtrans : Term N → List Line
    termtrans (one f) = factortrans f
    termtrans (times t o p f) = termtrans t ++ (factortrans f ++ (plain (producttrans o) p ∷ []))

    pub factortrans : Factor N → List Line
    factortrans (name x p) = plain (Load (tab x)) p ∷ []
    factortrans (number z p) = plain (Literal (pos z)) p ∷ []
    factortrans (paren e) = simpleexptrans e

  abbrev pub boolexptrans : Condition N → List Line
  boolexptrans (test l r p e) = simpleexptrans l ++ (simpleexptrans e ++ (plain (reltrans r) p ∷ []))

  abbrev mutual
    pub sttrans : Statement N → Label → List Line
    sttrans (assign x p e) a = simpleexptrans e ++ (plain (Store (tab x)) p ∷ [])
    sttrans (scan x p) a = plain (Read (tab x)) p ∷ []
    sttrans (print x p) a = plain (Write (tab x)) p ∷ []
    sttrans (when p c s) a = boolexptrans c ++ (jump_if_zero a p ∷ (sttrans s (below a 1) ++ (label a ∷ [])))
    sttrans (either p c s q s') a =
        boolexptrans c ++ (jump_if_zero a p ∷ (sttrans s (below a 1) ++ (jump (below a 3) q ∷ label a ∷ (sttrans s' (below a 2) ++ (label (below a 3) ∷ [])))))
    sttrans (while p c s) a =
        label (below a 2) ∷ (boolexptrans c ++ (jump_if_zero a p ∷ (sttrans s (below a 1) ++ (jump (below a 2) p ∷ label a ∷ []))))
    sttrans (block ss) a = stseqtrans ss a 1

    -- the statements of a sequence, the first of which is number k
    pub stseqtrans : Statements N → Label → ℕ → List Line
    stseqtrans none a k = []
    stseqtrans (then s ss) a k = sttrans s (below a k) ++ stseqtrans ss a (suc k)

  -- a block's statements begin at tree address 1
  abbrev pub blocktrans : Statements N → List Line
  blocktrans ss = stseqtrans ss (1 ∷ []) 1

abbrev pub trans : Program Name → List Line
trans p = blocktrans (mksymtab p.declared) p.statements

abbrev pub Table : Type 0
Table = List (Label × ℕ)

abbrev pub table : ℕ → List Line → Table
table n [] = []
table n (label l ∷ xs) = (l, n) ∷ table n xs
table n (plain i p ∷ xs) = table (suc n) xs
table n (jump l p ∷ xs) = table (suc n) xs
table n (jump_if_zero l p ∷ xs) = table (suc n) xs

abbrev pub find : Label → Table → ℕ
find l [] = 0
find l (x ∷ xs) = cond (bytes_eq l x.0) x.1 (find l xs)

abbrev pub adapt : Table → List Line → Code
adapt t [] = []
adapt t (label l ∷ xs) = adapt t xs
adapt t (plain i p ∷ xs) = (i, p) ∷ adapt t xs
adapt t (jump l p ∷ xs) = (Jump (find l t), p) ∷ adapt t xs
adapt t (jump_if_zero l p ∷ xs) = (JumpIfZero (find l t), p) ∷ adapt t xs

abbrev pub linearise : List Line → Code
linearise xs = adapt (table 1 xs) xs

abbrev pub labels : List Line → List Label
labels [] = []
labels (label l ∷ xs) = l ∷ labels xs
labels (plain i p ∷ xs) = labels xs
labels (jump l p ∷ xs) = labels xs
labels (jump_if_zero l p ∷ xs) = labels xs

abbrev pub Absent : Label → List Label → Type 0
Absent l ms = AllByRecursion (λ m. m ≢ l) ms

abbrev pub Distinct : List Label → Type 0
Distinct [] = Unit {0}
Distinct (l ∷ ls) = Absent l ls × Distinct ls

abbrev pub LabelledOnce : Type 0
LabelledOnce = (tab : Name → ℕ) (ss : Statements Name) → Distinct (labels (blocktrans tab ss))

abbrev pub Linearised : Type 0
Linearised = (tab : Name → ℕ) (ss : Statements Name) → linearise (blocktrans tab ss) ≡ linear_code (cells_of_statements tab ss)
