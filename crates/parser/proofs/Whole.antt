-- From the automaton's verdict to programs.
use Rattle.std.proofs.Common.{◌≡◌, ℕ, List, [], ◌∷◌, IsErrAnd, Some, None, Ok, Err, Result, sym, refl, ap, ◌∙◌, subst, arith, MatchResult}
use Rattle.std.specs.List.{slice_get}
use Rattle.syntax.specs.Trees as tree
use Rattle.syntax.specs.declared.token.Token as coded
use Rattle.syntax.specs.Tokens.{tokens_of}
use Rattle.grammar.specs.Kinds.{Name, Token, kinds}
use Rattle.grammar.specs.Grammar.{Program}
use Rattle.grammar.specs.Automaton.{judge, wrong, start}
use Rattle.grammar.proofs.Verdicts.{judges}
use Rattle.parser.specs.declared.refusals.Refusal.{Refusal}
use Rattle.parser.specs.declared.refusals.Refusal.TheVariants.{TooSoon, Grammar, Depth, NoMemory}
use Rattle.parser.specs.Reads.{Refuses}
use Rattle.parser.specs.Programs.{IsProgram}
use Rattle.parser.specs.Promise.{Refused, Parsed}

pub refused : (ts : List Token) (e : Refusal) → Refuses (judge ts (start 31 32)) e → Refused ts e
refused ts TooSoon h = (judges 31 32 ts).1.0 h
refused ts (Grammar p) h = ((judges 31 32 ts).2 4 p).0 h
refused ts (Depth p) h = ((judges 31 32 ts).2 5 p).0 h
refused ts NoMemory h = tt

-- an exit without a program
pub exited : {X : Type 0} (P : X → Type 0) (ts : List Token) (r : Result X Refusal) (e : Refusal) → IsErrAnd r (λ y. y ≡ e) → Refused ts e → MatchResult r P (Refused ts)
exited P ts (Ok x) e h f = absurd h
exited P ts (Err y) e h f = subst (Refused ts) (sym h) f

none_left : (source : List ℕ) (vs : List coded.Token) → None ≡ slice_get vs 0 → tokens_of source vs ≡ []
none_left source [] e = refl
none_left source (v ∷ vs) e = grind arith

pub all_read : (source : List ℕ) (us vs : List coded.Token) (p : tree.Program Name) → IsProgram (tokens_of source us) p (tokens_of source vs) → None ≡ slice_get vs 0 → Parsed (tokens_of source us) p
all_read source us vs p h e = record { parse = h.parse; within = h.within; spelled = h.spelled (none_left source vs e); placed = h.placed }

pub more_left : (source : List ℕ) (us vs : List coded.Token) (t : coded.Token) → judge (tokens_of source us) (start 31 32) ≡ judge (tokens_of source vs) [] → Some t ≡ slice_get vs 0 → Refused (tokens_of source us) (Grammar t.place)
more_left source us [] t h e = grind arith
more_left source us (v ∷ vs) t h e = ((judges 31 32 (tokens_of source us)).2 4 t.place).0 (h ∙ ap (λ p. wrong 4 p) (grind arith))

pub a_program : (ts : List Token) (p : tree.Program Name) → Parsed ts p → Program 32 32 (kinds ts)
a_program ts p h = (h.parse, h.within, h.spelled)
