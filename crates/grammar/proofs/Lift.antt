-- One more level and one more parenthesis everywhere.
use mathlib.Core.Path.{◌≡◌, refl, ap, subst, ◌∙◌}
use mathlib.Core.Bool.{Bool, true, false, cond}
use mathlib.Core.List.{List, [], ◌∷◌}
use Prim.Native.Nat.{ℕ, zero, suc}
use Rattle.grammar.specs.Kinds.{Kind, Token, same}
use Rattle.grammar.specs.Automaton.{End, at_semicolon, at_paren, at_relation, Frame, braces, whole, Symbol, token, identifier, zero_number, expression, factor, products, sums, end, statement, tail, names, body, Step, next, bad, deep, Entry, pick, end_entries, inside, factor_entries, ifs, whiles, blocks, statement_entries, elses, tail_entries, entries, step, Result, running, refused, go, feed}

abbrev lift_frame : Frame → Frame
lift_frame (braces d) = braces (suc d)
lift_frame (whole d) = whole (suc d)

abbrev lift_levels : List ℕ → List ℕ
lift_levels [] = []
lift_levels (e ∷ es) = suc e ∷ lift_levels es

abbrev lift : Symbol → Symbol
lift (token m) = token m
lift identifier = identifier
lift zero_number = zero_number
lift (expression p x) = expression (suc p) x
lift (factor p x) = factor (suc p) x
lift (products p x) = products (suc p) x
lift (sums p x) = sums (suc p) x
lift (end x) = end x
lift (statement p d es x) = statement (suc p) (suc d) (lift_levels es) (lift_frame x)
lift (tail p es x) = tail (suc p) (lift_levels es) (lift_frame x)
lift names = names
lift (body p d) = body (suc p) (suc d)

abbrev pub lift_all : List Symbol → List Symbol
lift_all [] = []
lift_all (y ∷ s) = lift y ∷ lift_all s

abbrev pub Lifted : Step → Step → Type 0
Lifted (next s) r = r ≡ next (lift_all s)
Lifted bad r = r ≡ bad
Lifted deep r = (s : List Symbol) × (r ≡ next s)

abbrev AllLifted : List Entry → List Entry → Type 0
AllLifted [] [] = Unit {0}
AllLifted [] (e ∷ es) = ⊥
AllLifted (e ∷ es) [] = ⊥
AllLifted (e ∷ es) (u ∷ us) = (e.0 ≡ u.0) × Lifted e.1 u.1 × AllLifted es us

cond_lifted : (b : Bool) (r q r' q' : Step) → Lifted r r' → Lifted q q' → Lifted (cond b r q) (cond b r' q')
cond_lifted true r q r' q' h k = h
cond_lifted false r q r' q' h k = k

pick_lifted : (es us : List Entry) (k : Kind) → AllLifted es us → Lifted (pick es k) (pick us k)
pick_lifted [] [] k h = refl
pick_lifted [] (u ∷ us) k h = absurd h
pick_lifted (e ∷ es) [] k h = absurd h
pick_lifted (e ∷ es) (u ∷ us) k h =
    subst (λ j. Lifted (pick (e ∷ es) k) (cond (same j k) u.1 (pick us k))) h.0 (cond_lifted (same e.0 k) e.1 (pick es k) u.1 (pick us k) h.1 (pick_lifted es us k h.2))

inside_lifted : (p : ℕ) (x : End) (s : List Symbol) → Lifted (inside p x s) (inside (suc p) x (lift_all s))
inside_lifted zero x s = (_, refl)
inside_lifted (suc p) x s = refl

end_lifted : (x : End) (s : List Symbol) → AllLifted (end_entries x s) (end_entries x (lift_all s))
end_lifted at_semicolon s = (refl, refl, tt)
end_lifted at_paren s = (refl, refl, tt)
end_lifted at_relation s = (refl, refl, (refl, refl, (refl, refl, (refl, refl, (refl, refl, (refl, refl, tt))))))

factor_lifted : (p : ℕ) (x : End) (s : List Symbol) → AllLifted (factor_entries p x s) (factor_entries (suc p) x (lift_all s))
factor_lifted p x s = (refl, refl, (refl, refl, (refl, refl, (refl, inside_lifted p x s, tt))))

ifs_lifted : (p d : ℕ) (es : List ℕ) (x : Frame) (s : List Symbol) → Lifted (ifs p d es x s) (ifs (suc p) (suc d) (lift_levels es) (lift_frame x) (lift_all s))
ifs_lifted p zero es x s = (_, refl)
ifs_lifted p (suc d) es x s = refl

whiles_lifted : (p d : ℕ) (es : List ℕ) (x : Frame) (s : List Symbol) → Lifted (whiles p d es x s) (whiles (suc p) (suc d) (lift_levels es) (lift_frame x) (lift_all s))
whiles_lifted p zero es x s = (_, refl)
whiles_lifted p (suc d) es x s = refl

blocks_lifted : (p d : ℕ) (es : List ℕ) (x : Frame) (s : List Symbol) → Lifted (blocks p d es x s) (blocks (suc p) (suc d) (lift_levels es) (lift_frame x) (lift_all s))
blocks_lifted p zero es x s = (_, refl)
blocks_lifted p (suc d) es x s = refl

statement_lifted : (p d : ℕ) (es : List ℕ) (x : Frame) (s : List Symbol) → AllLifted (statement_entries p d es x s) (statement_entries (suc p) (suc d) (lift_levels es) (lift_frame x) (lift_all s))
statement_lifted p d es x s =
    (refl, refl, (refl, refl, (refl, refl, (refl, ifs_lifted p d es x s, (refl, whiles_lifted p d es x s, (refl, blocks_lifted p d es x s, tt))))))

elses_lifted : (p : ℕ) (es : List ℕ) (x : Frame) (s : List Symbol) → Lifted (elses p es x s) (elses (suc p) (lift_levels es) (lift_frame x) (lift_all s))
elses_lifted p [] x s = refl
elses_lifted p (e ∷ es) x s = refl

tail_lifted : (p : ℕ) (es : List ℕ) (x : Frame) (s : List Symbol) → AllLifted (tail_entries p es x s) (tail_entries (suc p) (lift_levels es) (lift_frame x) (lift_all s))
tail_lifted p es (braces d) s = (refl, elses_lifted p es (braces d) s, (refl, refl, statement_lifted p d [] (braces d) s))
tail_lifted p es (whole d) s = (refl, elses_lifted p es (whole d) s, (refl, refl, statement_lifted p d [] (whole d) s))

entries_lifted : (y : Symbol) (s : List Symbol) → AllLifted (entries y s) (entries (lift y) (lift_all s))
entries_lifted (token m) s = (refl, refl, tt)
entries_lifted identifier s = (refl, refl, tt)
entries_lifted zero_number s = (refl, refl, tt)
entries_lifted (expression p x) s = (refl, refl, (refl, refl, factor_lifted p x s))
entries_lifted (factor p x) s = factor_lifted p x s
entries_lifted (products p x) s = (refl, refl, (refl, refl, (refl, refl, (refl, refl, (refl, refl, end_lifted x s)))))
entries_lifted (sums p x) s = (refl, refl, (refl, refl, end_lifted x s))
entries_lifted (end x) s = end_lifted x s
entries_lifted (statement p d es x) s = statement_lifted p d es x s
entries_lifted (tail p es x) s = tail_lifted p es x s
entries_lifted names s = (refl, refl, (refl, refl, tt))
entries_lifted (body p d) s = (refl, refl, tail_lifted p [] (whole d) s)

pub step_lifted : (s : List Symbol) (k : Kind) → Lifted (step s k) (step (lift_all s) k)
step_lifted [] k = refl
step_lifted (y ∷ s) k = pick_lifted (entries y s) (entries (lift y) (lift_all s)) k (entries_lifted y s)

abbrev RunLifted : List Token → List Symbol → Result → Type 0
RunLifted ts s (running s') = feed ts (lift_all s) ≡ running (lift_all s')
RunLifted ts s (refused c n) = Unit {0}

go_lifted : (t : Token) (ts : List Token) (s : List Symbol) (r : Step) → Lifted r (step (lift_all s) t.kind) → ((s₁ : List Symbol) → RunLifted ts s₁ (feed ts s₁)) → RunLifted (t ∷ ts) s (go (feed ts) t.place r)
go_lifted t ts s (next s₁) h ih = on (feed ts s₁) (ih s₁)
  where
    on : (q : Result) → RunLifted ts s₁ q → RunLifted (t ∷ ts) s q
    on (running s') e = ap (go (feed ts) t.place) h ∙ e
    on (refused c n) e = tt
go_lifted t ts s bad h ih = tt
go_lifted t ts s deep h ih = tt

run_lifted_all : (ts : List Token) (s : List Symbol) → RunLifted ts s (feed ts s)
run_lifted_all [] s = refl
run_lifted_all (t ∷ ts) s = go_lifted t ts s (step s t.kind) (step_lifted s t.kind) (run_lifted_all ts)

pub run_lifted : (ts : List Token) (s s' : List Symbol) → feed ts s ≡ running s' → feed ts (lift_all s) ≡ running (lift_all s')
run_lifted ts s s' e = subst (RunLifted ts s) e (run_lifted_all ts s)
