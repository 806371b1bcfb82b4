use Rattle.std.proofs.Common.{◌≡◌, ℕ, ◌≤◌, List, length, drop}
use Rattle.grammar.specs.Kinds.{Token}
use Rattle.grammar.specs.Automaton.{Symbol, judge}
use Rattle.parser.specs.Reads.{left, ahead}
use Rattle.parser.specs.Readers.{tokens, Marks}
use Rattle.parser.proofs.reader.Reader.expect_all.Given as goal

-- the marks that are still expected stand for all of them
abbrev pub invariant-loop-mark : goal.invariant-loop-mark
invariant-loop-mark l =
    ((source : List ℕ) (s : List Symbol) → judge (ahead source l.fn.self) (tokens l.marks s) ≡ judge (ahead source l.self) (tokens (drop l.mark-index l.marks) s))
    × ((source : List ℕ) (vs : List Token) → Marks (drop l.mark-index l.marks) (ahead source l.self) vs → Marks l.marks (ahead source l.fn.self) vs)
    × (length (left l.self) ≤ length (left l.fn.self))
