use Rattle.std.proofs.Common.{◌≡◌, ℕ, ◌≤◌, List, ◌∷◌, ◌++◌, length, vec_items}
use Rattle.syntax.specs.declared.tree.Name as coded
use Rattle.syntax.specs.TreeOf.{declared_of}
use Rattle.grammar.specs.Kinds.{Name, Token}
use Rattle.grammar.specs.Automaton.{Symbol, names, judge}
use Rattle.parser.specs.Reads.{left, ahead}
use Rattle.parser.specs.Programs.{AreNames}
use Rattle.parser.proofs.reader.Reader.names.Given as goal

-- what may follow; and the names read so far, with those that follow, are those of the tokens
abbrev pub invariant-loop-self : goal.invariant-loop-self
invariant-loop-self l =
    ((source : List ℕ) (s : List Symbol) → judge (ahead source l.fn.self) (names ∷ s) ≡ judge (ahead source l.self) (names ∷ s))
    × (length (left l.self) ≤ length (left l.fn.self))
    × (more : List coded.Name)
    × (vec_items l.names ≡ vec_items l.fn.names ++ more)
    × ((source : List ℕ) (ns : List (Name × ℕ)) (vs : List Token) → AreNames (ahead source l.self) ns vs → AreNames (ahead source l.fn.self) (declared_of source more ++ ns) vs)

abbrev pub decreases-loop-self : goal.decreases-loop-self
decreases-loop-self l = length (left l.self)
