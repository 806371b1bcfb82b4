-- The syntax tree of a program, over what a name is (its bytes; later its cell). Each act has the place of its token.
--   Expression   a first term, or its negative at the place of the sign; then sums, from the left
--   Term         a factor; then products, from the left
--   Factor       a name, a number or an expression in parentheses
--   Condition    two expressions and the relation between them
--   Statement    an assignment, scanf, printf, an `if` without or with `else`, a `while` or a block
--   Statements   statements one after another
--   Program      the declared names, each with its place, and the statements
use Rattle.std.specs.Prelude.{ℕ, List}
use Rattle.syntax.specs.declared.token.Relation.{Relation}
use Rattle.syntax.specs.declared.token.Additive.{Additive}
use Rattle.syntax.specs.declared.token.Multiplicative.{Multiplicative}

mutual
  pub data Expression (N : Type 0) : Type 0 where
    first : Term N → Expression N
    minus : ℕ → Term N → Expression N
    more : Expression N → Additive → ℕ → Term N → Expression N

  pub data Term (N : Type 0) : Type 0 where
    one : Factor N → Term N
    times : Term N → Multiplicative → ℕ → Factor N → Term N

  pub data Factor (N : Type 0) : Type 0 where
    name : N → ℕ → Factor N
    number : ℕ → ℕ → Factor N
    paren : Expression N → Factor N

pub data Condition (N : Type 0) : Type 0 where
  test : Expression N → Relation → ℕ → Expression N → Condition N

mutual
  pub data Statement (N : Type 0) : Type 0 where
    assign : N → ℕ → Expression N → Statement N
    scan : N → ℕ → Statement N
    print : N → ℕ → Statement N
    when : ℕ → Condition N → Statement N → Statement N
    either : ℕ → Condition N → Statement N → ℕ → Statement N → Statement N
    while : ℕ → Condition N → Statement N → Statement N
    block : Statements N → Statement N

  pub data Statements (N : Type 0) : Type 0 where
    none : Statements N
    then : Statement N → Statements N → Statements N

pub record Program (N : Type 0) : Type 0 where
  pub declared : List (N × ℕ)
  pub statements : Statements N
