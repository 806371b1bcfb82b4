use Rattle.std.proofs.Common.{◌≡◌, ℕ, ◌+◌, ◌*◌, ◌≤◌, List, [], ◌∷◌, ◌++◌, length, vec_items}
use Rattle.syntax.specs.Trees as tree
use Rattle.syntax.specs.declared.tree.Statement.{Statement}
use Rattle.grammar.specs.Kinds.{Name, Token}
use Rattle.grammar.specs.Automaton.{Frame, level, Symbol, tail, judge}
use Rattle.parser.specs.Reads.{left, ahead}
use Rattle.parser.specs.Statements.{end_of, AreStatements}
use Rattle.parser.proofs.Joined.{before}
use Rattle.parser.proofs.reader.Reader.+statement_readers.Given as goal

abbrev pub decreases-block : goal.decreases-block
decreases-block l = 4 * length (left l.self.now) + 2

abbrev pub decreases-body : goal.decreases-body
decreases-body l = 4 * length (left l.self.now) + 1

abbrev pub decreases-guarded : goal.decreases-guarded
decreases-guarded l = 4 * length (left l.self.now) + 2

abbrev pub decreases-if_statement : goal.decreases-if_statement
decreases-if_statement l = 4 * length (left l.self.now) + 3

abbrev pub decreases-statement : goal.decreases-statement
decreases-statement l = 4 * length (left l.self.now)

abbrev pub decreases-statements : goal.decreases-statements
decreases-statements l = 4 * length (left l.self.now) + 1

abbrev pub decreases-statements-loop-end : goal.decreases-statements-loop-end
decreases-statements-loop-end l = length (left l.self)

-- what may follow; and the statements read so far, with those that follow, are those of the tokens
abbrev pub invariant-statements-loop-end : goal.invariant-statements-loop-end
invariant-statements-loop-end l =
    ((source : List ℕ) (x : Frame) (s : List Symbol) → end_of x ≡ l.end → level x ≡ l.depth → judge (ahead source l.fn.self) (tail 32 [] x ∷ s) ≡ judge (ahead source l.self) (tail 32 [] x ∷ s))
    × (length (left l.self) ≤ length (left l.fn.self))
    × (more : List Statement)
    × (vec_items l.statements ≡ vec_items l.fn.statements ++ more)
    × ((source : List ℕ) (ss : tree.Statements Name) (vs : List Token) → AreStatements l.depth (ahead source l.self) ss vs → AreStatements l.depth (ahead source l.fn.self) (before source more ss) vs)
