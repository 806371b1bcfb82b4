-- What is proved of the grammar. `feed` and `judge` are the automaton's, which readers are proved against.
--   Unique     a program has one parse tree
--   Accepts    the automaton expects nothing more exactly after programs
--   Runs       it goes on exactly on beginnings of programs
--   Refuses    it refuses exactly at the first token that breaks a program, with its number
--   Judges     the three together, as one answer
--   Places     placing statements goes past just their tokens
use Rattle.std.specs.Prelude.{◌≡◌, List, [], ◌↔◌, ℕ, suc}
use Rattle.grammar.specs.Kinds.{Kind, Token, kinds}
use Rattle.grammar.specs.Placed.{statements_at}
use Rattle.grammar.specs.Grammar.{Statements, statements_onto, ProgramTree, yield, Nearest, Program, Begins, BrokenAt}
use Rattle.grammar.specs.Automaton.{Symbol, running, refused, feed, start, good, short, wrong, judge}

-- two trees of the same tokens are one
abbrev pub Unique : Type 0
Unique = (t u : ProgramTree) → Nearest t → Nearest u → yield t ≡ yield u → t ≡ u

-- a program is what leaves nothing expected
abbrev pub Accepts : Type 0
Accepts = (d p : ℕ) (ts : List Token) → (feed ts (start d p) ≡ running []) ↔ Program (suc d) p (kinds ts)

-- the beginnings of programs are what is not refused
abbrev pub Runs : Type 0
Runs = (d p : ℕ) (ts : List Token) → ((s : List Symbol) × (feed ts (start d p) ≡ running s)) ↔ Begins (suc d) p (kinds ts)

-- the token refused is the first that breaks it
abbrev pub Refuses : Type 0
Refuses = (d p : ℕ) (ts : List Token) (c n : ℕ) → (feed ts (start d p) ≡ refused c n) ↔ BrokenAt (suc d) p ts c n

-- the whole answer
abbrev pub Judges : Type 0
Judges =
    (d p : ℕ) (ts : List Token)
    → ((judge ts (start d p) ≡ good) ↔ Program (suc d) p (kinds ts))
    × ((judge ts (start d p) ≡ short) ↔ (Begins (suc d) p (kinds ts) × (Program (suc d) p (kinds ts) → ⊥)))
    × ((c n : ℕ) → (judge ts (start d p) ≡ wrong c n) ↔ BrokenAt (suc d) p ts c n)

-- placing the statements of a list of tokens goes past just their tokens
abbrev pub Places : Type 0
Places = (ss : Statements) (ts : List Token) (r : List Kind) → kinds ts ≡ statements_onto ss r → kinds (statements_at ss ts).1 ≡ r
