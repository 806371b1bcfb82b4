use Rattle.std.proofs.Common.{◌≡◌, ℕ, ◌+◌, ◌*◌, ◌≤◌, List, ◌∷◌, length}
use Rattle.syntax.specs.Trees as tree
use Rattle.syntax.specs.TreeOf.{term_of, expression_of}
use Rattle.grammar.specs.Kinds.{Name, Token}
use Rattle.grammar.specs.Automaton.{End, Symbol, judge, expression, factor, products, sums}
use Rattle.parser.specs.Reads.{left, ahead}
use Rattle.parser.proofs.Spelled.{IsTerm, IsExpression, AreProducts, AreSums}
use Rattle.parser.proofs.reader.Reader.+expression_readers.Given as goal

abbrev pub decreases-expression : goal.decreases-expression
decreases-expression l = 4 * length (left l.self.now) + 2

abbrev pub decreases-factor : goal.decreases-factor
decreases-factor l = 4 * length (left l.self.now)

abbrev pub decreases-parenthesized : goal.decreases-parenthesized
decreases-parenthesized l = 4 * length (left l.self.now) + 3

abbrev pub decreases-term : goal.decreases-term
decreases-term l = 4 * length (left l.self.now) + 1

abbrev pub decreases-expression-loop-operator : goal.decreases-expression-loop-operator
decreases-expression-loop-operator l = length (left l.self)

abbrev pub decreases-term-loop-operator : goal.decreases-term-loop-operator
decreases-term-loop-operator l = length (left l.self)

-- what may follow the sum that was read; and with what follows it, it makes the expression
abbrev pub invariant-expression-loop-operator : goal.invariant-expression-loop-operator
invariant-expression-loop-operator l =
    ((source : List ℕ) (x : End) (s : List Symbol) → judge (ahead source l.fn.self) (expression l.parens x ∷ s) ≡ judge (ahead source l.self) (sums l.parens x ∷ s))
    × ((source : List ℕ) (e : tree.Expression Name) (vs : List Token) → AreSums l.parens (expression_of source l.sum) (ahead source l.self) e vs → IsExpression l.parens (ahead source l.fn.self) e vs)
    × (length (left l.self) ≤ length (left l.fn.self))

abbrev pub invariant-term-loop-operator : goal.invariant-term-loop-operator
invariant-term-loop-operator l =
    ((source : List ℕ) (x : End) (s : List Symbol) → judge (ahead source l.fn.self) (factor l.parens x ∷ s) ≡ judge (ahead source l.self) (products l.parens x ∷ s))
    × ((source : List ℕ) (t : tree.Term Name) (vs : List Token) → AreProducts l.parens (term_of source l.product) (ahead source l.self) t vs → IsTerm l.parens (ahead source l.fn.self) t vs)
    × (length (left l.self) ≤ length (left l.fn.self))
