-- The grammar: programs as parse trees, the tokens of a tree, its depths, and which `if` each `else` belongs to.
--   Sign, Factor, Products, Term, Sums, Expression, Condition, Statement, Statements, Names, Declaration, ProgramTree
--                        parse trees, one type for each piece of a program
--   factor_onto, ..      the tokens of a tree, in front of given ones
--   yield                the tokens of a whole program
--   factor_parens, ..    how deep the parentheses of its factors go
--   statement_depth, statements_depth
--                        how deep its statements go: 1 outside all others, a body, branch or statement in braces one deeper
--   ends_open            whether a statement ends in an `if` without `else`
--   Nearest              every `else` belongs to the nearest `if`
--   Within               a tree within both depths whose every `else` is so
--   Program, Begins      the tokens of such a tree; tokens that some others complete to such a program
--   Breaks, BrokenAt     the first token with which the tokens begin no such program, and its refusal's number
use Rattle.std.specs.Prelude.{◌≡◌, Bool, true, false, List, [], ◌∷◌, ◌++◌, ◌⊎◌, ℕ, suc, max, ◌≤◌}
use Rattle.grammar.specs.Kinds.{Name, Kind, Token, kinds, Additive, Multiplicative, Relation}
use Rattle.grammar.specs.Kinds as kind

pub data Sign : Type 0 where
  bare : Sign
  signed : Additive → Sign

mutual
  pub data Expression : Type 0 where
    expression : Sign → Term → Sums → Expression

  pub data Term : Type 0 where
    term : Factor → Products → Term

  pub data Factor : Type 0 where
    variable : Name → Factor
    literal : ℕ → Factor
    paren : Expression → Factor

  pub data Products : Type 0 where
    single : Products
    by : Multiplicative → Factor → Products → Products

  pub data Sums : Type 0 where
    alone : Sums
    and : Additive → Term → Sums → Sums

pub data Condition : Type 0 where
  test : Expression → Relation → Expression → Condition

mutual
  pub data Statement : Type 0 where
    assign : Name → Expression → Statement
    scan : Name → Statement
    print : Name → Statement
    when : Condition → Statement → Statement
    either : Condition → Statement → Statement → Statement
    loop : Condition → Statement → Statement
    block : Statement → Statements → Statement

  pub data Statements : Type 0 where
    none : Statements
    then : Statement → Statements → Statements

-- the names of a declaration behind its first
pub data Names : Type 0 where
  nomore : Names
  also : Name → Names → Names

pub data Declaration : Type 0 where
  nothing : Declaration
  variables : Name → Names → Declaration

pub data ProgramTree : Type 0 where
  program : Declaration → Statements → ProgramTree

-- ── tokens: what stands before the tokens r ──

abbrev pub sign_onto : Sign → List Kind → List Kind
sign_onto bare r = r
sign_onto (signed a) r = kind.additive a ∷ r

abbrev mutual
  pub expression_onto : Expression → List Kind → List Kind
  expression_onto (expression g t ss) r = sign_onto g (term_onto t (sums_onto ss r))

  pub term_onto : Term → List Kind → List Kind
  term_onto (term f ps) r = factor_onto f (products_onto ps r)

  pub factor_onto : Factor → List Kind → List Kind
  factor_onto (variable i) r = kind.name i ∷ r
  factor_onto (literal v) r = kind.number v ∷ r
  factor_onto (paren e) r = kind.left_paren ∷ expression_onto e (kind.right_paren ∷ r)

  pub products_onto : Products → List Kind → List Kind
  products_onto single r = r
  products_onto (by m f ps) r = kind.multiplicative m ∷ factor_onto f (products_onto ps r)

  pub sums_onto : Sums → List Kind → List Kind
  sums_onto alone r = r
  sums_onto (and a t ss) r = kind.additive a ∷ term_onto t (sums_onto ss r)

abbrev pub condition_onto : Condition → List Kind → List Kind
condition_onto (test a o b) r = kind.left_paren ∷ expression_onto a (kind.relation o ∷ expression_onto b (kind.right_paren ∷ r))

abbrev mutual
  pub statement_onto : Statement → List Kind → List Kind
  statement_onto (assign i e) r = kind.name i ∷ (kind.assign ∷ expression_onto e (kind.semicolon ∷ r))
  statement_onto (scan i) r = kind.scanf ∷ (kind.left_paren ∷ (kind.format ∷ (kind.comma ∷ (kind.ampersand ∷ (kind.name i ∷ (kind.right_paren ∷ (kind.semicolon ∷ r)))))))
  statement_onto (print i) r = kind.printf ∷ (kind.left_paren ∷ (kind.format ∷ (kind.comma ∷ (kind.name i ∷ (kind.right_paren ∷ (kind.semicolon ∷ r))))))
  statement_onto (when c b) r = kind.if ∷ condition_onto c (statement_onto b r)
  statement_onto (either c a b) r = kind.if ∷ condition_onto c (statement_onto a (kind.else ∷ statement_onto b r))
  statement_onto (loop c b) r = kind.while ∷ condition_onto c (statement_onto b r)
  statement_onto (block b ss) r = kind.left_brace ∷ statement_onto b (statements_onto ss (kind.right_brace ∷ r))

  pub statements_onto : Statements → List Kind → List Kind
  statements_onto none r = r
  statements_onto (then b ss) r = statement_onto b (statements_onto ss r)

abbrev pub names_onto : Names → List Kind → List Kind
names_onto nomore r = kind.semicolon ∷ r
names_onto (also i ns) r = kind.comma ∷ (kind.name i ∷ names_onto ns r)

abbrev pub declaration_onto : Declaration → List Kind → List Kind
declaration_onto nothing r = r
declaration_onto (variables i ns) r = kind.int ∷ (kind.name i ∷ names_onto ns r)

abbrev pub closing : List Kind
closing = kind.return ∷ (kind.number 0 ∷ (kind.semicolon ∷ (kind.right_brace ∷ [])))

abbrev pub opening : List Kind → List Kind
opening r = kind.head ∷ (kind.int ∷ (kind.main ∷ (kind.left_paren ∷ (kind.right_paren ∷ (kind.left_brace ∷ r)))))

abbrev pub yield : ProgramTree → List Kind
yield (program d ss) = opening (declaration_onto d (statements_onto ss closing))

-- ── the depth of a factor's parentheses ──

abbrev mutual
  pub expression_parens : Expression → ℕ
  expression_parens (expression g t ss) = max (term_parens t) (sums_parens ss)

  pub term_parens : Term → ℕ
  term_parens (term f ps) = max (factor_parens f) (products_parens ps)

  pub factor_parens : Factor → ℕ
  factor_parens (variable i) = 0
  factor_parens (literal v) = 0
  factor_parens (paren e) = suc (expression_parens e)

  pub products_parens : Products → ℕ
  products_parens single = 0
  products_parens (by m f ps) = max (factor_parens f) (products_parens ps)

  pub sums_parens : Sums → ℕ
  sums_parens alone = 0
  sums_parens (and a t ss) = max (term_parens t) (sums_parens ss)

abbrev pub condition_parens : Condition → ℕ
condition_parens (test a o b) = max (expression_parens a) (expression_parens b)

abbrev mutual
  pub statement_parens : Statement → ℕ
  statement_parens (assign i e) = expression_parens e
  statement_parens (scan i) = 0
  statement_parens (print i) = 0
  statement_parens (when c b) = max (condition_parens c) (statement_parens b)
  statement_parens (either c a b) = max (condition_parens c) (max (statement_parens a) (statement_parens b))
  statement_parens (loop c b) = max (condition_parens c) (statement_parens b)
  statement_parens (block b ss) = max (statement_parens b) (statements_parens ss)

  pub statements_parens : Statements → ℕ
  statements_parens none = 0
  statements_parens (then b ss) = max (statement_parens b) (statements_parens ss)

-- ── the depth of statements, 1 outside all others ──

abbrev mutual
  pub statement_depth : Statement → ℕ
  statement_depth (assign i e) = 1
  statement_depth (scan i) = 1
  statement_depth (print i) = 1
  statement_depth (when c b) = suc (statement_depth b)
  statement_depth (either c a b) = suc (max (statement_depth a) (statement_depth b))
  statement_depth (loop c b) = suc (statement_depth b)
  statement_depth (block b ss) = suc (max (statement_depth b) (statements_depth ss))

  pub statements_depth : Statements → ℕ
  statements_depth none = 0
  statements_depth (then b ss) = max (statement_depth b) (statements_depth ss)

-- ── every `else` belongs to the nearest `if` ──

abbrev pub ends_open : Statement → Bool
ends_open (assign i e) = false
ends_open (scan i) = false
ends_open (print i) = false
ends_open (when c b) = true
ends_open (either c a b) = ends_open b
ends_open (loop c b) = ends_open b
ends_open (block b ss) = false

abbrev mutual
  pub ElseNearest : Statement → Type 0
  ElseNearest (assign i e) = Unit {0}
  ElseNearest (scan i) = Unit {0}
  ElseNearest (print i) = Unit {0}
  ElseNearest (when c b) = ElseNearest b
  ElseNearest (either c a b) = (ends_open a ≡ false) × ElseNearest a × ElseNearest b
  ElseNearest (loop c b) = ElseNearest b
  ElseNearest (block b ss) = ElseNearest b × ElsesNearest ss

  pub ElsesNearest : Statements → Type 0
  ElsesNearest none = Unit {0}
  ElsesNearest (then b ss) = ElseNearest b × ElsesNearest ss

-- within the statement depth d and the parenthesis depth p
abbrev pub Within : ℕ → ℕ → ProgramTree → Type 0
Within d p (program v ss) = (statements_parens ss ≤ p) × (statements_depth ss ≤ d) × ElsesNearest ss

abbrev pub Nearest : ProgramTree → Type 0
Nearest (program v ss) = ElsesNearest ss

abbrev pub Program : ℕ → ℕ → List Kind → Type 0
Program d p ts = (t : ProgramTree) × Within d p t × (yield t ≡ ts)

abbrev pub Begins : ℕ → ℕ → List Kind → Type 0
Begins d p ts = (rest : List Kind) × Program d p (ts ++ rest)

-- the first token that breaks it is t, behind the tokens us: 5 if some deeper program begins so, otherwise 4
pub record Breaks (d p : ℕ) (us : List Token) (t : Token) (c : ℕ) : Type 0 where
  pub before : Begins d p (kinds us)
  pub breaks : ¬ Begins d p (kinds us ++ (t.kind ∷ []))
  pub number : ((c ≡ 5) × (d' : ℕ) × (p' : ℕ) × Begins d' p' (kinds us ++ (t.kind ∷ []))) ⊎ ((c ≡ 4) × ((d' p' : ℕ) → ¬ Begins d' p' (kinds us ++ (t.kind ∷ []))))

-- that token is among the tokens ts, and n is its place
abbrev pub BrokenAt : ℕ → ℕ → List Token → ℕ → ℕ → Type 0
BrokenAt d p ts c n = (us : List Token) × (t : Token) × (vs : List Token) × (ts ≡ us ++ (t ∷ vs)) × (n ≡ t.place) × Breaks d p us t c
