-- Trees of what is expected begin with a token that is taken, and leave trees of what is then expected.
use mathlib.Core.Path.{◌≡◌, refl, sym, ap, ◌∙◌}
use mathlib.Core.Bool.{Bool, true, false, cond}
use mathlib.Core.List.{List, [], ◌∷◌}
use mathlib.Core.Logic.{inr}
use Prim.Native.Nat.{ℕ, zero, suc, ◌≤◌}
use native.Mathlib.Omega.{arith}
use Rattle.grammar.specs.Kinds.{Kind, Mark, Additive, Plus, Minus, Multiplicative, Times, Divide, Modulo, Relation, Equal, Unequal, Less, Greater, AtMost, AtLeast}
use Rattle.grammar.specs.Kinds as kind
use Rattle.grammar.specs.Grammar.{Condition, test, Expression, Factor, Products, Sums, Statement, Statements, Names, Declaration, bare, signed, term, variable, literal, paren, single, by, alone, and, assign, scan, print, when, either, loop, block, none, then, nomore, also, nothing, variables}
use Rattle.grammar.specs.Grammar as tree
use Rattle.grammar.specs.Automaton.{End, at_semicolon, at_paren, at_relation, Frame, braces, whole, Symbol, token, identifier, zero_number, expression, factor, products, sums, end, statement, tail, names, body, next, bad, Entry, pick, level, step, statement_entries, elses, closes, tail_entries}
use Rattle.grammar.proofs.Forest.{Tail, other, last, EndTree, Tree, Good, GoodTail, Forest, spell, AllGood, After, spell_after, GoodAfter, Found, found}
use store.Seg.{eqb_same}
use mathlib.Core.Bool.{true≢false}
use Rattle.grammar.specs.Kinds.{class, same}
use Rattle.grammar.proofs.Forest.{onto, found_at}
use Rattle.grammar.proofs.Grow.{grow, grow_any, grow_tail, tail_tree, body_tree}

abbrev pub CutAt : (y : Symbol) (s : List Symbol) → Tree y → Forest s → Kind → Type 0
CutAt y s t f k = (a : After (step (y ∷ s) k)) × (onto y t (spell s f) ≡ k ∷ spell_after (step (y ∷ s) k) a) × GoodAfter (step (y ∷ s) k) a × ((grow y s k a).0 ≡ (t, f))

-- ── past an entry ──

skip_at : (b : Bool) (e : Entry) (es : List Entry) (k : Kind) (q : same e.0 k ≡ b) → b ≡ false → (F : Type 0) (φ : (vs : List Kind) (G : Type 0) → Found (e ∷ es) k vs G → F) (a : After (pick es k)) → (a' : After (cond b e.1 (pick es k))) × (spell_after (cond b e.1 (pick es k)) a' ≡ spell_after (pick es k) a) × (GoodAfter (pick es k) a → GoodAfter (cond b e.1 (pick es k)) a') × (φ _ _ (found_at b e es k q (found es k) a') ≡ φ _ _ (inr (found es k a)))
skip_at true e es k q n F φ a = absurd (true≢false n)
skip_at false e es k q n F φ a = (a, refl, λ g. g, refl)

skip : (e : Entry) (es : List Entry) (k : Kind) → same e.0 k ≡ false → (F : Type 0) (φ : (vs : List Kind) (G : Type 0) → Found (e ∷ es) k vs G → F) (a : After (pick es k)) → (a' : After (pick (e ∷ es) k)) × (spell_after (pick (e ∷ es) k) a' ≡ spell_after (pick es k) a) × (GoodAfter (pick es k) a → GoodAfter (pick (e ∷ es) k) a') × (φ _ _ (found (e ∷ es) k a') ≡ φ _ _ (inr (found es k a)))
skip e es k n F φ a = skip_at (same e.0 k) e es k refl n F φ a

-- ── a token ──

cut_token_at : (m : Mark) (s : List Symbol) (f : Forest s) → AllGood s f → (b : Bool) (q : same (kind.mark m) (kind.mark m) ≡ b) → (a : After (cond b (next s) bad)) × (kind.mark m ∷ spell s f ≡ kind.mark m ∷ spell_after (cond b (next s) bad) a) × GoodAfter (cond b (next s) bad) a × ((grow_any (token m) s (found_at b (kind.mark m, next s) [] (kind.mark m) q (found [] (kind.mark m)) a)).0 ≡ (tt, f))
cut_token_at m s f g true q = (f, refl, g, refl)
cut_token_at m s f g false q = absurd (true≢false (sym (eqb_same (class (kind.mark m))) ∙ q))

cut_token : (m : Mark) (s : List Symbol) (f : Forest s) → AllGood s f → CutAt (token m) s tt f (kind.mark m)
cut_token m s f g = cut_token_at m s f g (same (kind.mark m) (kind.mark m)) refl

-- ── expressions ──

abbrev first_factor : Factor → Kind
first_factor (variable i) = kind.name i
first_factor (literal v) = kind.number v
first_factor (paren e) = kind.left_paren

cut_factor : (p : ℕ) (x : End) (s : List Symbol) (l : Factor) (ps : Products) (ss : Sums) (e : EndTree x) (f : Forest s) → Good (factor p x) (l, ps, ss, e) → AllGood s f → CutAt (factor p x) s (l, ps, ss, e) f (first_factor l)
cut_factor p x s (variable i) ps ss e f g h = (((ps, ss, e), f), refl, (omega (arith, g), h), refl)
cut_factor p x s (literal zero) ps ss e f g h = (((ps, ss, e), f), refl, (omega (arith, g), h), refl)
cut_factor p x s (literal (suc v)) ps ss e f g h = (((ps, ss, e), f), refl, (omega (arith, g), h), refl)
cut_factor zero x s (paren l) ps ss e f g h = absurd (omega (arith, g))
cut_factor (suc p) x s (paren l) ps ss e f g h = (((l, tt), ((ps, ss, e), f)), refl, (omega (arith, g), (omega (arith, g), h)), refl)

abbrev first_expression : tree.Sign → Factor → Kind
first_expression bare l = first_factor l
first_expression (signed a) l = kind.additive a

cut_expression : (p : ℕ) (x : End) (s : List Symbol) (o : tree.Sign) (l : Factor) (ps : Products) (ss : Sums) (e : EndTree x) (f : Forest s) → Good (factor p x) (l, ps, ss, e) → AllGood s f → CutAt (expression p x) s (tree.expression o (term l ps) ss, e) f (first_expression o l)
cut_expression p x s bare (variable i) ps ss e f g h = (((ps, ss, e), f), refl, (omega (arith, g), h), refl)
cut_expression p x s bare (literal zero) ps ss e f g h = (((ps, ss, e), f), refl, (omega (arith, g), h), refl)
cut_expression p x s bare (literal (suc v)) ps ss e f g h = (((ps, ss, e), f), refl, (omega (arith, g), h), refl)
cut_expression zero x s bare (paren l) ps ss e f g h = absurd (omega (arith, g))
cut_expression (suc p) x s bare (paren l) ps ss e f g h = (((l, tt), ((ps, ss, e), f)), refl, (omega (arith, g), (omega (arith, g), h)), refl)
cut_expression p x s (signed Plus) l ps ss e f g h = (((l, ps, ss, e), f), refl, (g, h), refl)
cut_expression p x s (signed Minus) l ps ss e f g h = (((l, ps, ss, e), f), refl, (g, h), refl)

abbrev first_end : (x : End) → EndTree x → Kind
first_end at_semicolon e = kind.semicolon
first_end at_paren e = kind.right_paren
first_end at_relation e = kind.relation e

abbrev first_sums : (x : End) → Sums → EndTree x → Kind
first_sums x alone e = first_end x e
first_sums x (and a t ss) e = kind.additive a

abbrev first_products : (x : End) → Products → Sums → EndTree x → Kind
first_products x single ss e = first_sums x ss e
first_products x (by m l ps) ss e = kind.multiplicative m

cut_end : (x : End) (s : List Symbol) (e : EndTree x) (f : Forest s) → AllGood s f → CutAt (end x) s e f (first_end x e)
cut_end at_semicolon s e f h = (f, refl, h, refl)
cut_end at_paren s e f h = (f, refl, h, refl)
cut_end at_relation s Equal f h = (f, refl, h, refl)
cut_end at_relation s Unequal f h = (f, refl, h, refl)
cut_end at_relation s Less f h = (f, refl, h, refl)
cut_end at_relation s Greater f h = (f, refl, h, refl)
cut_end at_relation s AtMost f h = (f, refl, h, refl)
cut_end at_relation s AtLeast f h = (f, refl, h, refl)

cut_alone : (p : ℕ) (x : End) (s : List Symbol) (e : EndTree x) (f : Forest s) → AllGood s f → CutAt (sums p x) s (alone, e) f (first_end x e)
cut_alone p at_semicolon s e f h = (f, refl, h, refl)
cut_alone p at_paren s e f h = (f, refl, h, refl)
cut_alone p at_relation s Equal f h = (f, refl, h, refl)
cut_alone p at_relation s Unequal f h = (f, refl, h, refl)
cut_alone p at_relation s Less f h = (f, refl, h, refl)
cut_alone p at_relation s Greater f h = (f, refl, h, refl)
cut_alone p at_relation s AtMost f h = (f, refl, h, refl)
cut_alone p at_relation s AtLeast f h = (f, refl, h, refl)

cut_sums : (p : ℕ) (x : End) (s : List Symbol) (ss : Sums) (e : EndTree x) (f : Forest s) → Good (sums p x) (ss, e) → AllGood s f → CutAt (sums p x) s (ss, e) f (first_sums x ss e)
cut_sums p x s alone e f g h = cut_alone p x s e f h
cut_sums p x s (and Plus (term l ps) ss) e f g h = (((l, ps, ss, e), f), refl, (omega (arith, g), h), refl)
cut_sums p x s (and Minus (term l ps) ss) e f g h = (((l, ps, ss, e), f), refl, (omega (arith, g), h), refl)

cut_single : (p : ℕ) (x : End) (s : List Symbol) (e : EndTree x) (f : Forest s) → AllGood s f → CutAt (products p x) s (single, alone, e) f (first_end x e)
cut_single p at_semicolon s e f h = (f, refl, h, refl)
cut_single p at_paren s e f h = (f, refl, h, refl)
cut_single p at_relation s Equal f h = (f, refl, h, refl)
cut_single p at_relation s Unequal f h = (f, refl, h, refl)
cut_single p at_relation s Less f h = (f, refl, h, refl)
cut_single p at_relation s Greater f h = (f, refl, h, refl)
cut_single p at_relation s AtMost f h = (f, refl, h, refl)
cut_single p at_relation s AtLeast f h = (f, refl, h, refl)

cut_products : (p : ℕ) (x : End) (s : List Symbol) (ps : Products) (ss : Sums) (e : EndTree x) (f : Forest s) → Good (products p x) (ps, ss, e) → AllGood s f → CutAt (products p x) s (ps, ss, e) f (first_products x ps ss e)
cut_products p x s single alone e f g h = cut_single p x s e f h
cut_products p x s single (and Plus (term l ps) ss) e f g h = (((l, ps, ss, e), f), refl, (omega (arith, g), h), refl)
cut_products p x s single (and Minus (term l ps) ss) e f g h = (((l, ps, ss, e), f), refl, (omega (arith, g), h), refl)
cut_products p x s (by Times l ps) ss e f g h = (((l, ps, ss, e), f), refl, (omega (arith, g), h), refl)
cut_products p x s (by Divide l ps) ss e f g h = (((l, ps, ss, e), f), refl, (omega (arith, g), h), refl)
cut_products p x s (by Modulo l ps) ss e f g h = (((l, ps, ss, e), f), refl, (omega (arith, g), h), refl)

-- ── statements ──

abbrev first : Statement → Kind
first (assign i e) = kind.name i
first (scan i) = kind.scanf
first (print i) = kind.printf
first (when c b) = kind.if
first (either c a b) = kind.if
first (loop c b) = kind.while
first (block b ss) = kind.left_brace

depth_some : (b : Statement) → 1 ≤ tree.statement_depth b
depth_some (assign i e) = omega arith
depth_some (scan i) = omega arith
depth_some (print i) = omega arith
depth_some (when c b) = omega arith
depth_some (either c a b) = omega arith
depth_some (loop c b) = omega arith
depth_some (block b ss) = omega arith

cut_statement : (p d : ℕ) (es : List ℕ) (x : Frame) (s : List Symbol) (b : Statement) (t : Tail) (f : Forest s) → Good (statement p d es x) (b, t) → AllGood s f → CutAt (statement p d es x) s (b, t) f (first b)
cut_statement p d es x s (assign i e) t f g h = ((tt, ((e, tt), (t, f))), refl, (tt, (g.0.0, (g.2, h))), refl)
cut_statement p d es x s (scan i) t f g h = ((tt, (tt, (tt, (tt, (i, (tt, (tt, (t, f)))))))), refl, (tt, (tt, (tt, (tt, (tt, (tt, (tt, (g.2, h)))))))), refl)
cut_statement p d es x s (print i) t f g h = ((tt, (tt, (tt, (i, (tt, (tt, (t, f))))))), refl, (tt, (tt, (tt, (tt, (tt, (tt, (g.2, h))))))), refl)
cut_statement p zero es x s (when c b) t f g h = absurd (omega (arith, g.0.1, depth_some b))
cut_statement p (suc d) es x s (when (test a o c) b) (other u t) f g h = absurd (true≢false g.1)
cut_statement p (suc d) es x s (when (test a o c) b) (last ss) f g h = (
  (tt, ((a, o), ((c, tt), ((b, last ss), f)))),
  refl,
  (tt, (omega (arith, g.0.0), (omega (arith, g.0.0), (((omega (arith, g.0.0), omega (arith, g.0.1), g.0.2), tt, g.2), h)))),
  refl,
)
cut_statement p zero es x s (either c a b) t f g h = absurd (omega (arith, g.0.1, depth_some b))
cut_statement p (suc d) es x s (either (test l o c) a b) t f g h = (
  (tt, ((l, o), ((c, tt), ((a, other b t), f)))),
  refl,
  (tt, (omega (arith, g.0.0), (omega (arith, g.0.0), (((omega (arith, g.0.0), omega (arith, g.0.1), g.0.2.1), g.0.2.0, ((omega (arith, g.0.0), omega (arith, g.0.1), g.0.2.2), g.1, g.2)), h)))),
  refl,
)
cut_statement p zero es x s (loop c b) t f g h = absurd (omega (arith, g.0.1, depth_some b))
cut_statement p (suc d) es x s (loop (test a o c) b) t f g h = (
  (tt, ((a, o), ((c, tt), ((b, t), f)))),
  refl,
  (tt, (omega (arith, g.0.0), (omega (arith, g.0.0), (((omega (arith, g.0.0), omega (arith, g.0.1), g.0.2), g.1, g.2), h)))),
  refl,
)
cut_statement p zero es x s (block b ss) t f g h = absurd (omega (arith, g.0.1, depth_some b))
cut_statement p (suc d) es x s (block b ss) t f g h = (
  ((b, last ss), (t, f)),
  refl,
  (((omega (arith, g.0.0), omega (arith, g.0.1), g.0.2.0), tt, (omega (arith, g.0.0), omega (arith, g.0.1), g.0.2.1)), (g.2, h)),
  refl,
)

-- ── what follows statements ──

no_else : (b : Statement) → same kind.else (first b) ≡ false
no_else (assign i e) = refl
no_else (scan i) = refl
no_else (print i) = refl
no_else (when c b) = refl
no_else (either c a b) = refl
no_else (loop c b) = refl
no_else (block b ss) = refl

no_int : (b : Statement) → same kind.int (first b) ≡ false
no_int (assign i e) = refl
no_int (scan i) = refl
no_int (print i) = refl
no_int (when c b) = refl
no_int (either c a b) = refl
no_int (loop c b) = refl
no_int (block b ss) = refl

no_brace : (b : Statement) → same kind.right_brace (first b) ≡ false
no_brace (assign i e) = refl
no_brace (scan i) = refl
no_brace (print i) = refl
no_brace (when c b) = refl
no_brace (either c a b) = refl
no_brace (loop c b) = refl
no_brace (block b ss) = refl

no_return : (b : Statement) → same kind.return (first b) ≡ false
no_return (assign i e) = refl
no_return (scan i) = refl
no_return (print i) = refl
no_return (when c b) = refl
no_return (either c a b) = refl
no_return (loop c b) = refl
no_return (block b ss) = refl

no_close : (x : Frame) (s : List Symbol) (b : Statement) → same (closes x s).0 (first b) ≡ false
no_close (braces d) s b = no_brace b
no_close (whole d) s b = no_return b

abbrev first_close : Frame → Kind
first_close (braces d) = kind.right_brace
first_close (whole d) = kind.return

abbrev first_tail : Frame → Tail → Kind
first_tail x (other b t) = kind.else
first_tail x (last none) = first_close x
first_tail x (last (then b ss)) = first b

cut_then : (p : ℕ) (es : List ℕ) (x : Frame) (s : List Symbol) (b : Statement) (ss : Statements) (f : Forest s) → Good (statement p (level x) [] x) (b, last ss) → AllGood s f → CutAt (tail p es x) s (last (then b ss)) f (first b)
cut_then p es x s b ss f g h =
    let c = cut_statement p (level x) [] x s b (last ss) f g h in
    let F = Forest (tail p es x ∷ s) in
    let u = skip (closes x s) (statement_entries p (level x) [] x s) (first b) (no_close x s b) F (λ vs G w. (grow_tail p es x s (inr w)).0) c.0 in
    let v = skip (kind.else, elses p es x s) (closes x s ∷ statement_entries p (level x) [] x s) (first b) (no_else b) F (λ vs G w. (grow_tail p es x s w).0) u.0 in (
      v.0,
      c.1 ∙ ap (λ l. first b ∷ l) (sym (v.1 ∙ u.1)),
      v.2 (u.2 c.2),
      v.3 ∙ u.3 ∙ ap {B = F} (λ (a : Forest (statement p (level x) [] x ∷ s)). (tail_tree a.0.0 a.0.1, a.1)) c.3,
    )

cut_tail : (p : ℕ) (es : List ℕ) (x : Frame) (s : List Symbol) (t : Tail) (f : Forest s) → GoodTail t p es x → AllGood s f → CutAt (tail p es x) s t f (first_tail x t)
cut_tail p [] x s (other b t) f g h = absurd g
cut_tail p (e ∷ es) x s (other b t) f g h = (((b, t), f), refl, (g, h), refl)
cut_tail p es (braces d) s (last none) f g h = (f, refl, h, refl)
cut_tail p es (whole d) s (last none) f g h = ((tt, (tt, (tt, f))), refl, (tt, (tt, (tt, h))), refl)
cut_tail p es x s (last (then b ss)) f g h =
    cut_then p es x s b ss f ((omega (arith, g.0), omega (arith, g.1), g.2.0), tt, (omega (arith, g.0), omega (arith, g.1), g.2.1)) h

-- ── declarations and the whole ──

abbrev first_names : Names → Kind
first_names nomore = kind.semicolon
first_names (also i ns) = kind.comma

cut_names : (s : List Symbol) (ns : Names) (f : Forest s) → AllGood s f → CutAt names s ns f (first_names ns)
cut_names s nomore f h = (f, refl, h, refl)
cut_names s (also i ns) f h = ((i, (ns, f)), refl, (tt, (tt, h)), refl)

no_int_first : (d : ℕ) (ss : Statements) → same kind.int (first_tail (whole d) (last ss)) ≡ false
no_int_first d none = refl
no_int_first d (then b ss) = no_int b

abbrev first_body : ℕ → Declaration → Statements → Kind
first_body d nothing ss = first_tail (whole d) (last ss)
first_body d (variables i ns) ss = kind.int

cut_body : (p d : ℕ) (s : List Symbol) (v : Declaration) (ss : Statements) (f : Forest s) → Good (body p d) (v, ss) → AllGood s f → CutAt (body p d) s (v, ss) f (first_body d v ss)
cut_body p d s (variables i ns) ss f g h = ((i, (ns, (last ss, f))), refl, (tt, (tt, (g, h))), refl)
cut_body p d s nothing ss f g h =
    let k = first_tail (whole d) (last ss) in
    let c = cut_tail p [] (whole d) s (last ss) f g h in
    let F = Forest (body p d ∷ s) in
    let u = skip (kind.int, next (identifier ∷ (names ∷ (tail p [] (whole d) ∷ s)))) (tail_entries p [] (whole d) s) k (no_int_first d ss) F (λ vs G w. (grow_any (body p d) s w).0) c.0 in (
      u.0,
      c.1 ∙ ap (λ l. k ∷ l) (sym u.1),
      u.2 c.2,
      u.3 ∙ ap {B = F} (λ (a : Forest (tail p [] (whole d) ∷ s)). (body_tree nothing a.0, a.1)) c.3,
    )

cut_whole_expression : (p : ℕ) (x : End) (s : List Symbol) (t : Expression) (e : EndTree x) (f : Forest s) → Good (expression p x) (t, e) → AllGood s f → (k : Kind) × CutAt (expression p x) s (t, e) f k
cut_whole_expression p x s (tree.expression o (term l ps) ss) e f g h = (first_expression o l, cut_expression p x s o l ps ss e f (omega (arith, g)) h)

pub cut : (y : Symbol) (s : List Symbol) (t : Tree y) (f : Forest s) → Good y t → AllGood s f → (k : Kind) × CutAt y s t f k
cut (token m) s t f g h = (kind.mark m, cut_token m s f h)
cut identifier s t f g h = (kind.name t, (f, refl, h, refl))
cut zero_number s t f g h = (kind.number 0, (f, refl, h, refl))
cut (expression p x) s t f g h = cut_whole_expression p x s t.0 t.1 f g h
cut (factor p x) s t f g h = (first_factor t.0, cut_factor p x s t.0 t.1 t.2 t.3 f g h)
cut (products p x) s t f g h = (first_products x t.0 t.1 t.2, cut_products p x s t.0 t.1 t.2 f g h)
cut (sums p x) s t f g h = (first_sums x t.0 t.1, cut_sums p x s t.0 t.1 f g h)
cut (end x) s t f g h = (first_end x t, cut_end x s t f h)
cut (statement p d es x) s t f g h = (first t.0, cut_statement p d es x s t.0 t.1 f g h)
cut (tail p es x) s t f g h = (first_tail x t, cut_tail p es x s t f g h)
cut names s t f g h = (first_names t, cut_names s t f h)
cut (body p d) s t f g h = (first_body d t.0 t.1, cut_body p d s t.0 t.1 f g h)
