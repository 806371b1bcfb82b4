-- The whole answer.
use mathlib.Core.Path.{◌≡◌, refl, ap, subst, ◌∙◌}
use mathlib.Core.List.{List, [], ◌∷◌, cons≢nil}
use Prim.Native.Nat.{ℕ, suc}
use Rattle.grammar.specs.Kinds.{Token, kinds}
use Rattle.grammar.specs.Grammar.{Program, Begins}
use Rattle.grammar.specs.Automaton.{Symbol, Result, running, refused, feed, start, Verdict, good, short, wrong, judged, judge}
use Rattle.grammar.specs.Theorems.{Judges}
use Rattle.grammar.proofs.Runs.{accepts, runs}
use Rattle.grammar.proofs.Broken.{refuses}

abbrev IsGood : Verdict → Type 0
IsGood good = Unit {0}
IsGood short = ⊥
IsGood (wrong c n) = ⊥

abbrev IsShort : Verdict → Type 0
IsShort good = ⊥
IsShort short = Unit {0}
IsShort (wrong c n) = ⊥

abbrev IsWrong : Verdict → Type 0
IsWrong good = ⊥
IsWrong short = ⊥
IsWrong (wrong c n) = Unit {0}

abbrev number : Verdict → ℕ
number good = 0
number short = 0
number (wrong c n) = c

abbrev place : Verdict → ℕ
place good = 0
place short = 0
place (wrong c n) = n

abbrev stack_of : Result → List Symbol
stack_of (running s) = s
stack_of (refused c n) = []

was_good : (r : Result) → judged r ≡ good → r ≡ running []
was_good (running []) e = refl
was_good (running (y ∷ s)) e = absurd (subst IsShort e tt)
was_good (refused c n) e = absurd (subst IsWrong e tt)

was_short : (r : Result) → judged r ≡ short → (s : List Symbol) × (r ≡ running s) × (r ≡ running [] → ⊥)
was_short (running []) e = absurd (subst IsGood e tt)
was_short (running (y ∷ s)) e = (y ∷ s, refl, λ q. cons≢nil (ap stack_of q))
was_short (refused c n) e = absurd (subst IsWrong e tt)

is_short : (s : List Symbol) → (s ≡ [] → ⊥) → judged (running s) ≡ short
is_short [] h = absurd (h refl)
is_short (y ∷ s) h = refl

was_wrong : (r : Result) (c n : ℕ) → judged r ≡ wrong c n → r ≡ refused c n
was_wrong (running []) c n e = absurd (subst IsGood e tt)
was_wrong (running (y ∷ s)) c n e = absurd (subst IsShort e tt)
was_wrong (refused c' n') c n e = ap {B = Result} (λ v. refused (number v) (place v)) e

short_so : (d p : ℕ) (ts : List Token) → judge ts (start d p) ≡ short → Begins (suc d) p (kinds ts) × (Program (suc d) p (kinds ts) → ⊥)
short_so d p ts e =
    let w = was_short (feed ts (start d p)) e in
    ((runs d p ts).0 (w.0, w.1), λ h. w.2 ((accepts d p ts).1 h))

so_short : (d p : ℕ) (ts : List Token) → Begins (suc d) p (kinds ts) × (Program (suc d) p (kinds ts) → ⊥) → judge ts (start d p) ≡ short
so_short d p ts h =
    let w = (runs d p ts).1 h.0 in
    ap judged w.1 ∙ is_short w.0 (λ e. h.1 ((accepts d p ts).0 (w.1 ∙ ap running e)))

pub judges : Judges
judges d p ts = (
  (λ e. (accepts d p ts).0 (was_good (feed ts (start d p)) e), λ h. ap judged ((accepts d p ts).1 h)),
  (short_so d p ts, so_short d p ts),
  λ c n. (λ e. (refuses d p ts c n).0 (was_wrong (feed ts (start d p)) c n e), λ h. ap judged ((refuses d p ts c n).1 h)),
)
