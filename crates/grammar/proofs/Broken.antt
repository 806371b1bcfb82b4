-- The first token that breaks a program, and its number.
use mathlib.Core.Path.{◌≡◌, refl, sym, ap, subst, ◌∙◌}
use mathlib.Core.List.{List, [], ◌∷◌, ◌++◌}
use mathlib.Core.Logic.{◌⊎◌, inl, inr}
use Prim.Native.Nat.{ℕ, zero, suc, ◌+◌, ◌≤◌}
use native.Mathlib.Omega.{arith}
use Rattle.grammar.specs.Kinds.{Kind, Token, kinds}
use Rattle.grammar.specs.Grammar.{ProgramTree, program, Within, Begins, Breaks, BrokenAt}
use Rattle.grammar.specs.Automaton.{Symbol, Step, next, bad, deep, step, Result, running, refused, go, feed, start}
use Rattle.grammar.specs.Theorems.{Refuses}
use Rattle.grammar.proofs.Runs.{running_not_refused, begins_runs, runs_begins}
use Rattle.grammar.proofs.Lift.{lift_all, Lifted, step_lifted, run_lifted}

-- ── beginnings ──

within_more : (d p D P : ℕ) (t : ProgramTree) → d ≤ D → p ≤ P → Within d p t → Within D P t
within_more d p D P (program v ss) a b h = (omega (arith, h.0), omega (arith, h.1), h.2)

begins_more : (d p D P : ℕ) (ts : List Kind) → d ≤ D → p ≤ P → Begins d p ts → Begins D P ts
begins_more d p D P ts a b h = (h.0, (h.1.0, within_more d p D P h.1.0 a b h.1.1, h.1.2))

kinds_append : (us vs : List Token) → kinds (us ++ vs) ≡ kinds us ++ kinds vs
kinds_append [] vs = refl
kinds_append (u ∷ us) vs = ap (λ l. u.kind ∷ l) (kinds_append us vs)

-- ── feeding on ──

go_on : (r : Step) (n : ℕ) (ts vs : List Token) (s' : List Symbol) → ((s : List Symbol) → feed ts s ≡ running s' → feed (ts ++ vs) s ≡ feed vs s') → go (feed ts) n r ≡ running s' → go (feed (ts ++ vs)) n r ≡ feed vs s'
go_on (next s) n ts vs s' ih e = ih s e
go_on bad n ts vs s' ih e = absurd (running_not_refused (sym e))
go_on deep n ts vs s' ih e = absurd (running_not_refused (sym e))

abbrev stack_of : Result → List Symbol
stack_of (running s) = s
stack_of (refused c n) = []

pub feed_on : (ts vs : List Token) (s s' : List Symbol) → feed ts s ≡ running s' → feed (ts ++ vs) s ≡ feed vs s'
feed_on [] vs s s' e = ap (λ r. feed vs (stack_of r)) e
feed_on (t ∷ ts) vs s s' e = go_on (step s t.kind) t.place ts vs s' (λ s₁. feed_on ts vs s₁ s') e

-- the tokens us are fed, and what is then expected is s
abbrev At : ℕ → ℕ → List Token → List Symbol → Type 0
At d p us s = feed us (start d p) ≡ running s

next_begins : (d p : ℕ) (us : List Token) (t : Token) (s s' : List Symbol) → At d p us s → step s t.kind ≡ next s' → Begins (suc d) p (kinds us ++ (t.kind ∷ []))
next_begins d p us t s s' e q =
    subst (Begins (suc d) p) (kinds_append us (t ∷ []))
    (runs_begins d p (us ++ (t ∷ [])) s' (feed_on us (t ∷ []) (start d p) s e ∙ ap (go (feed []) t.place) q))

stops : (d p c : ℕ) (us : List Token) (t : Token) (s : List Symbol) → At d p us s → go (feed []) t.place (step s t.kind) ≡ refused c t.place → ¬ Begins (suc d) p (kinds us ++ (t.kind ∷ []))
stops d p c us t s e q h =
    let w = begins_runs d p (us ++ (t ∷ [])) (subst (Begins (suc d) p) (sym (kinds_append us (t ∷ []))) h) in
    running_not_refused (sym w.1 ∙ feed_on us (t ∷ []) (start d p) s e ∙ q)

-- ── with more to spare ──

lifted_bad : (s : List Symbol) (k : Kind) → step s k ≡ bad → step (lift_all s) k ≡ bad
lifted_bad s k e = subst (λ r. Lifted r (step (lift_all s) k)) e (step_lifted s k)

lifted_deep : (s : List Symbol) (k : Kind) → step s k ≡ deep → (s' : List Symbol) × (step (lift_all s) k ≡ next s')
lifted_deep s k e = subst (λ r. Lifted r (step (lift_all s) k)) e (step_lifted s k)

deep_some : (d p : ℕ) (us : List Token) (t : Token) (s : List Symbol) → At d p us s → step s t.kind ≡ deep → Begins (suc (suc d)) (suc p) (kinds us ++ (t.kind ∷ []))
deep_some d p us t s e q = let w = lifted_deep s t.kind q in next_begins (suc d) (suc p) us t (lift_all s) w.0 (run_lifted us (start d p) s e) w.1

bad_above : (m d p : ℕ) (us : List Token) (t : Token) (s : List Symbol) → At d p us s → step s t.kind ≡ bad → (D : ℕ) × (P : ℕ) × (s' : List Symbol) × (m + d ≤ D) × (m + p ≤ P) × At D P us s' × (step s' t.kind ≡ bad)
bad_above zero d p us t s e q = (d, p, s, omega arith, omega arith, e, q)
bad_above (suc m) d p us t s e q =
    let w = bad_above m d p us t s e q in
    (suc w.0, suc w.1, lift_all w.2, omega (arith, w.3), omega (arith, w.4), run_lifted us (start w.0 w.1) w.2 w.5, lifted_bad w.2 t.kind w.6)

bad_none : (d p : ℕ) (us : List Token) (t : Token) (s : List Symbol) → At d p us s → step s t.kind ≡ bad → (d' p' : ℕ) → ¬ Begins d' p' (kinds us ++ (t.kind ∷ []))
bad_none d p us t s e q d' p' h =
    let w = bad_above (d' + p') d p us t s e q in
    stops w.0 w.1 4 us t w.2 w.5 (ap (go (feed []) t.place) w.6) (begins_more d' p' (suc w.0) w.1 (kinds us ++ (t.kind ∷ [])) (omega (arith, w.3)) (omega (arith, w.4)) h)

-- ── where it stops ──

abbrev Number : ℕ → Step → Type 0
Number c (next s) = ⊥
Number c bad = c ≡ 4
Number c deep = c ≡ 5

abbrev Stop : List Token → List Symbol → ℕ → ℕ → Type 0
Stop ts s c n = (us : List Token) × (t : Token) × (vs : List Token) × (ts ≡ us ++ (t ∷ vs)) × (n ≡ t.place) × (s' : List Symbol) × (feed us s ≡ running s') × Number c (step s' t.kind)

abbrev code_of : Result → ℕ
code_of (running s) = 0
code_of (refused c n) = c

abbrev place_of : Result → ℕ
place_of (running s) = 0
place_of (refused c n) = n

go_stop : (r : Step) (t : Token) (ts : List Token) (s : List Symbol) (c n : ℕ) → step s t.kind ≡ r → ((s₁ : List Symbol) → feed ts s₁ ≡ refused c n → Stop ts s₁ c n) → go (feed ts) t.place r ≡ refused c n → Stop (t ∷ ts) s c n
go_stop (next s₁) t ts s c n q ih e =
    let w = ih s₁ e in
    (t ∷ w.0, w.1, w.2, ap (λ l. t ∷ l) w.3, w.4, w.5, ap (go (feed w.0) t.place) q ∙ w.6, w.7)
go_stop bad t ts s c n q ih e = ([], t, ts, refl, sym (ap place_of e), s, refl, subst (Number c) (sym q) (sym (ap code_of e)))
go_stop deep t ts s c n q ih e = ([], t, ts, refl, sym (ap place_of e), s, refl, subst (Number c) (sym q) (sym (ap code_of e)))

stop : (ts : List Token) (s : List Symbol) (c n : ℕ) → feed ts s ≡ refused c n → Stop ts s c n
stop [] s c n e = absurd (running_not_refused e)
stop (t ∷ ts) s c n e = go_stop (step s t.kind) t ts s c n refl (λ s₁. stop ts s₁ c n) e

breaks_at : (r : Step) (d p c : ℕ) (us : List Token) (t : Token) (s : List Symbol) → At d p us s → step s t.kind ≡ r → Number c r → Breaks (suc d) p us t c
breaks_at (next s') d p c us t s e q h = absurd h
breaks_at bad d p c us t s e q h = record {
  before = runs_begins d p us s e;
  breaks = stops d p 4 us t s e (ap (go (feed []) t.place) q);
  number = inr (h, bad_none d p us t s e q);
}
breaks_at deep d p c us t s e q h = record {
  before = runs_begins d p us s e;
  breaks = stops d p 5 us t s e (ap (go (feed []) t.place) q);
  number = inl (h, suc (suc d), suc p, deep_some d p us t s e q);
}

number_of : (r : Step) (d p c : ℕ) (us : List Token) (t : Token) (s : List Symbol) → At d p us s → step s t.kind ≡ r → Breaks (suc d) p us t c → Number c r
number_of (next s') d p c us t s e q b = b.breaks (next_begins d p us t s s' e q)
number_of bad d p c us t s e q b = on b.number
  where
    on : ((c ≡ 5) × (d' : ℕ) × (p' : ℕ) × Begins d' p' (kinds us ++ (t.kind ∷ []))) ⊎ ((c ≡ 4) × ((d' p' : ℕ) → ¬ Begins d' p' (kinds us ++ (t.kind ∷ [])))) → c ≡ 4
    on (inl h) = absurd (bad_none d p us t s e q h.1 h.2 h.3)
    on (inr h) = h.0
number_of deep d p c us t s e q b = on b.number
  where
    on : ((c ≡ 5) × (d' : ℕ) × (p' : ℕ) × Begins d' p' (kinds us ++ (t.kind ∷ []))) ⊎ ((c ≡ 4) × ((d' p' : ℕ) → ¬ Begins d' p' (kinds us ++ (t.kind ∷ [])))) → c ≡ 5
    on (inl h) = h.0
    on (inr h) = absurd (h.1 (suc (suc d)) (suc p) (deep_some d p us t s e q))

go_number : (r : Step) (c n : ℕ) (f : List Symbol → Result) → Number c r → go f n r ≡ refused c n
go_number (next s) c n f h = absurd h
go_number bad c n f h = ap (λ m. refused m n) (sym h)
go_number deep c n f h = ap (λ m. refused m n) (sym h)

broken : (d p : ℕ) (ts : List Token) (c n : ℕ) → feed ts (start d p) ≡ refused c n → BrokenAt (suc d) p ts c n
broken d p ts c n e =
    let w = stop ts (start d p) c n e in
    (w.0, w.1, w.2, w.3, w.4, breaks_at (step w.5 w.1.kind) d p c w.0 w.1 w.5 w.6 refl w.7)

refused_at : (d p : ℕ) (ts : List Token) (c n : ℕ) → BrokenAt (suc d) p ts c n → feed ts (start d p) ≡ refused c n
refused_at d p ts c n w =
    let t = w.1 in
    let r = begins_runs d p w.0 w.5.before in
    ap (λ l. feed l (start d p)) w.3
    ∙ feed_on w.0 (t ∷ w.2) (start d p) r.0 r.1
    ∙ go_number (step r.0 t.kind) c t.place (feed w.2) (number_of (step r.0 t.kind) d p c w.0 t r.0 r.1 refl w.5)
    ∙ ap (refused c) (sym w.4)

pub refuses : Refuses
refuses d p ts c n = (broken d p ts c n, refused_at d p ts c n)
