-- Feeding and trees.
use mathlib.Core.Path.{◌≡◌, refl, sym, ap, subst, ◌∙◌}
use mathlib.Core.List.{List, [], ◌∷◌, ◌++◌, append-nil, nil≢cons, cons≢nil, head-eq_of_cons-eq, tail-eq_of_cons-eq}
use Prim.Native.Nat.{ℕ, suc, max}
use native.Mathlib.Omega.{arith}
use Rattle.grammar.specs.Kinds.{Kind, Token, kinds}
use Rattle.grammar.specs.Kinds as kind
use Rattle.grammar.specs.Grammar.{ProgramTree, program, Declaration, Statements, bare, term, variable, single, alone, scan, none, nomore, nothing, yield, Within, Nearest, Program, Begins}
use Rattle.grammar.specs.Grammar as tree
use Rattle.grammar.specs.Automaton.{End, at_semicolon, at_paren, at_relation, Symbol, token, identifier, zero_number, expression, factor, products, sums, end, statement, tail, names, body, Step, next, bad, deep, Result, running, refused, go, feed, step, start}
use Rattle.grammar.specs.Theorems.{Unique, Accepts, Runs}
use Rattle.grammar.proofs.Forest.{last, EndTree, Tree, Good, Forest, spell, AllGood, After, spell_after, GoodAfter}
use Rattle.grammar.proofs.Grow.{grow}
use Rattle.grammar.proofs.Cut.{cut}

abbrev pub Spells : List Symbol → List Kind → Type 0
Spells s ts = (f : Forest s) × AllGood s f × (spell s f ≡ ts)

abbrev SpellsAfter : Step → List Kind → Type 0
SpellsAfter r vs = (a : After r) × GoodAfter r a × (spell_after r a ≡ vs)

abbrev CutTo : (y : Symbol) (s : List Symbol) → Forest (y ∷ s) → List Kind → Kind → Type 0
CutTo y s f vs k = (a : After (step (y ∷ s) k)) × GoodAfter (step (y ∷ s) k) a × (spell_after (step (y ∷ s) k) a ≡ vs) × ((grow y s k a).0 ≡ f)

cut_to : (y : Symbol) (s : List Symbol) (f : Forest (y ∷ s)) (k : Kind) (vs : List Kind) → AllGood (y ∷ s) f → spell (y ∷ s) f ≡ k ∷ vs → CutTo y s f vs k
cut_to y s f k vs g e =
    let c = cut y s f.0 f.1 g.0 g.1 in
    let q = sym c.1.1 ∙ e in
    subst (CutTo y s f vs) (head-eq_of_cons-eq q) (c.1.0, c.1.2, tail-eq_of_cons-eq q, c.1.3)

some_token : (y : Symbol) (s : List Symbol) (f : Forest (y ∷ s)) → AllGood (y ∷ s) f → spell (y ∷ s) f ≡ [] → ⊥
some_token y s f g e = let c = cut y s f.0 f.1 g.0 g.1 in cons≢nil (sym c.1.1 ∙ e)

step_sound : (s : List Symbol) (k : Kind) (vs : List Kind) → SpellsAfter (step s k) vs → Spells s (k ∷ vs)
step_sound [] k vs h = absurd h.0
step_sound (y ∷ s) k vs h = let w = grow y s k h.0 in (w.0, (w.1 h.1).1, (w.1 h.1).0 ∙ ap (λ l. k ∷ l) h.2)

step_complete : (s : List Symbol) (k : Kind) (vs : List Kind) → Spells s (k ∷ vs) → SpellsAfter (step s k) vs
step_complete [] k vs h = absurd (nil≢cons h.2)
step_complete (y ∷ s) k vs h = let c = cut_to y s h.0 k vs h.1 h.2 in (c.0, c.1, c.2)

-- ── one tree at most ──

after_unique : (r : Step) (a b : After r) (vs : List Kind) → GoodAfter r a → GoodAfter r b → spell_after r a ≡ vs → spell_after r b ≡ vs → ((s : List Symbol) (f g : Forest s) → AllGood s f → AllGood s g → spell s f ≡ vs → spell s g ≡ vs → f ≡ g) → a ≡ b
after_unique (next s) a b vs g h p q ih = ih s a b g h p q
after_unique bad a b vs g h p q ih = absurd a
after_unique deep a b vs g h p q ih = absurd a

pub forest_unique : (ts : List Kind) (s : List Symbol) (f g : Forest s) → AllGood s f → AllGood s g → spell s f ≡ ts → spell s g ≡ ts → f ≡ g
forest_unique [] [] f g a b p q = refl
forest_unique [] (y ∷ s) f g a b p q = absurd (some_token y s f a p)
forest_unique (k ∷ ts) [] f g a b p q = refl
forest_unique (k ∷ ts) (y ∷ s) f g a b p q =
    let c = cut_to y s f k ts a p in
    let d = cut_to y s g k ts b q in
    sym c.3 ∙ ap (λ (w : After (step (y ∷ s) k)). (grow y s k w).0) (after_unique (step (y ∷ s) k) c.0 d.0 ts c.1 d.1 c.2 d.2 (forest_unique ts)) ∙ d.3

-- ── feeding ──

abbrev IsRunning : Result → Type 0
IsRunning (running s) = Unit {0}
IsRunning (refused c n) = ⊥

pub running_not_refused : {s : List Symbol} {c n : ℕ} → running s ≡ refused c n → ⊥
running_not_refused e = subst IsRunning e tt

abbrev stack_of : Result → List Symbol
stack_of (running s) = s
stack_of (refused c n) = []

go_sound : (r : Step) (n : ℕ) (ks : List Token) (s' : List Symbol) (rest : List Kind) → ((s : List Symbol) → feed ks s ≡ running s' → Spells s (kinds ks ++ rest)) → go (feed ks) n r ≡ running s' → SpellsAfter r (kinds ks ++ rest)
go_sound (next s) n ks s' rest ih e = ih s e
go_sound bad n ks s' rest ih e = absurd (running_not_refused (sym e))
go_sound deep n ks s' rest ih e = absurd (running_not_refused (sym e))

pub sound : (ts : List Token) (s s' : List Symbol) (rest : List Kind) → Spells s' rest → feed ts s ≡ running s' → Spells s (kinds ts ++ rest)
sound [] s s' rest h e = subst (λ l. Spells l rest) (sym (ap stack_of e)) h
sound (k ∷ ks) s s' rest h e = step_sound s k.kind (kinds ks ++ rest) (go_sound (step s k.kind) k.place ks s' rest (λ s₁. sound ks s₁ s' rest h) e)

abbrev Reaches : Result → List Kind → Type 0
Reaches r rest = (s' : List Symbol) × (r ≡ running s') × Spells s' rest

go_complete : (r : Step) (n : ℕ) (ks : List Token) (rest : List Kind) → ((s : List Symbol) → Spells s (kinds ks ++ rest) → Reaches (feed ks s) rest) → SpellsAfter r (kinds ks ++ rest) → Reaches (go (feed ks) n r) rest
go_complete (next s) n ks rest ih h = ih s h
go_complete bad n ks rest ih h = absurd h.0
go_complete deep n ks rest ih h = absurd h.0

pub complete : (ts : List Token) (s : List Symbol) (rest : List Kind) → Spells s (kinds ts ++ rest) → Reaches (feed ts s) rest
complete [] s rest h = (s, refl, h)
complete (k ∷ ks) s rest h = go_complete (step s k.kind) k.place ks rest (λ s₁. complete ks s₁ rest) (step_complete s k.kind (kinds ks ++ rest) h)

spells_nothing : (s : List Symbol) → Spells s [] → s ≡ []
spells_nothing [] h = refl
spells_nothing (y ∷ s) h = absurd (some_token y s h.0 h.1 h.2)

pub accepted_spells : (ts : List Token) (s : List Symbol) → feed ts s ≡ running [] → Spells s (kinds ts)
accepted_spells ts s e = subst (Spells s) (append-nil (kinds ts)) (sound ts s [] [] (tt, tt, refl) e)

pub spells_accepted : (ts : List Token) (s : List Symbol) → Spells s (kinds ts) → feed ts s ≡ running []
spells_accepted ts s h =
    let w = complete ts s [] (subst (Spells s) (sym (append-nil (kinds ts))) h) in
    w.1 ∙ ap running (spells_nothing w.0 w.2)

-- ── every stack can be completed ──

some_end : (x : End) → EndTree x
some_end at_semicolon = tt
some_end at_paren = tt
some_end at_relation = kind.Equal

some_tree : (y : Symbol) → (t : Tree y) × Good y t
some_tree (token m) = (tt, tt)
some_tree identifier = ([], tt)
some_tree zero_number = (tt, tt)
some_tree (expression p x) = ((tree.expression bare (term (variable []) single) alone, some_end x), omega arith)
some_tree (factor p x) = ((variable [], single, alone, some_end x), omega arith)
some_tree (products p x) = ((single, alone, some_end x), omega arith)
some_tree (sums p x) = ((alone, some_end x), omega arith)
some_tree (end x) = (some_end x, tt)
some_tree (statement p d es x) = ((scan [], last none), ((omega arith, omega arith, tt), tt, (omega arith, omega arith, tt)))
some_tree (tail p es x) = (last none, (omega arith, omega arith, tt))
some_tree names = (nomore, tt)
some_tree (body p d) = ((nothing, none), (omega arith, omega arith, tt))

some_forest : (s : List Symbol) → (f : Forest s) × AllGood s f
some_forest [] = (tt, tt)
some_forest (y ∷ s) = let a = some_tree y in let b = some_forest s in ((a.0, b.0), (a.1, b.1))

pub completed : (s : List Symbol) → (ts : List Kind) × Spells s ts
completed s = let a = some_forest s in (spell s a.0, (a.0, a.1, refl))

-- ── whole programs ──

pub to_spells : (d p : ℕ) (ts : List Kind) → Program (suc d) p ts → Spells (start d p) ts
to_spells d p ts h = at h.0 h.1 h.2
  where
    at : (t : ProgramTree) → Within (suc d) p t → yield t ≡ ts → Spells (start d p) ts
    at (program v ss) g e = ((tt, (tt, (tt, (tt, (tt, (tt, ((v, ss), tt))))))), (tt, (tt, (tt, (tt, (tt, (tt, (g, tt))))))), e)

pub from_spells : (d p : ℕ) (ts : List Kind) → Spells (start d p) ts → Program (suc d) p ts
from_spells d p ts h = let b = h.0.1.1.1.1.1.1.0 in (program b.0 b.1, h.1.1.1.1.1.1.1.0, h.2)

pub accepts : Accepts
accepts d p ts = (λ e. from_spells d p (kinds ts) (accepted_spells ts (start d p) e), λ h. spells_accepted ts (start d p) (to_spells d p (kinds ts) h))

pub begins_runs : (d p : ℕ) (ts : List Token) → Begins (suc d) p (kinds ts) → (s : List Symbol) × (feed ts (start d p) ≡ running s)
begins_runs d p ts h = let w = complete ts (start d p) h.0 (to_spells d p (kinds ts ++ h.0) h.1) in (w.0, w.1)

pub runs_begins : (d p : ℕ) (ts : List Token) (s : List Symbol) → feed ts (start d p) ≡ running s → Begins (suc d) p (kinds ts)
runs_begins d p ts s e = let c = completed s in (c.0, from_spells d p (kinds ts ++ c.0) (sound ts (start d p) s c.0 c.1 e))

pub runs : Runs
runs d p ts = (λ h. runs_begins d p ts h.0 h.1, begins_runs d p ts)

pub unique : Unique
unique (program v ss) (program w us) n m e =
    let p : ℕ = max (tree.statements_parens ss) (tree.statements_parens us) in
    let d : ℕ = max (tree.statements_depth ss) (tree.statements_depth us) in
    let f : Forest (start d p) = (tt, (tt, (tt, (tt, (tt, (tt, ((v, ss), tt))))))) in
    let g : Forest (start d p) = (tt, (tt, (tt, (tt, (tt, (tt, ((w, us), tt))))))) in
    let q : f ≡ g =
    forest_unique (yield (program w us)) (start d p) f g
    (tt, (tt, (tt, (tt, (tt, (tt, ((omega arith, omega arith, n), tt)))))))
    (tt, (tt, (tt, (tt, (tt, (tt, ((omega arith, omega arith, m), tt)))))))
    e refl in
    ap (λ (h : Forest (start d p)). program h.1.1.1.1.1.1.0.0 h.1.1.1.1.1.1.0.1) q
