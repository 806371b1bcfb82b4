-- A token that is taken leads from trees of what is then expected to trees of what was.
use mathlib.Core.Path.{◌≡◌, refl, sym, subst, ◌∙◌}
use mathlib.Core.Bool.{false}
use mathlib.Core.List.{List, [], ◌∷◌}
use mathlib.Core.Logic.{inl, inr}
use Prim.Native.Nat.{ℕ, zero, suc, ◌≤◌}
use native.Mathlib.Omega.{arith}
use Rattle.grammar.specs.Kinds.{Kind, Mark, Additive, Plus, Minus, Multiplicative, Times, Divide, Modulo, Relation, Equal, Unequal, Less, Greater, AtMost, AtLeast}
use Rattle.grammar.specs.Kinds as kind
use Rattle.grammar.specs.Grammar.{Condition, test, Expression, Factor, Products, Sums, Statement, Statements, Names, Declaration, bare, signed, term, variable, literal, paren, single, by, alone, and, assign, scan, print, when, either, loop, block, none, then, nomore, also, nothing, variables}
use Rattle.grammar.specs.Grammar as tree
use Rattle.grammar.specs.Automaton.{End, at_semicolon, at_paren, at_relation, Frame, braces, whole, Symbol, token, identifier, zero_number, expression, factor, products, sums, end, statement, tail, names, body, next, level, entries, step, end_entries, inside, factor_entries, expression_entries, product_entries, sum_entries, ifs, whiles, blocks, statement_entries, elses, closes, tail_entries}
use Rattle.grammar.proofs.Forest.{value, carry, Tail, other, last, EndTree, end_onto, Good, GoodTail, Forest, tail_onto, spell, AllGood, After, spell_after, GoodAfter, Hit, Found, found, Meets}

abbrev pub Grown : Symbol → List Symbol → Kind → List Kind → Type 0 → Type 0
Grown y s k vs G = (f : Forest (y ∷ s)) × (G → (spell (y ∷ s) f ≡ k ∷ vs) × AllGood (y ∷ s) f)

pub sewn : {j k : Kind} {us vs : List Kind} → j ≡ k → us ≡ vs → j ∷ us ≡ k ∷ vs
sewn p q = λ i. p i ∷ q i

-- ── expressions ──

abbrev pub grow_leaf : (p : ℕ) (x : End) (s : List Symbol) {k : Kind} {vs : List Kind} {G : Type 0} (k' : Kind) (l : Factor) → tree.factor_parens l ≡ 0 → ((r : List Kind) → tree.factor_onto l r ≡ carry k' (value k) ∷ r) → Hit (k', next (products p x ∷ s)) k vs G → Grown (factor p x) s k vs G
grow_leaf p x s k' l z o h =
    let a = h.1 in
    (((l, a.0.0, a.0.1, a.0.2), a.1), λ g. (o _ ∙ sewn h.0 h.2, (omega (arith, z, (h.3 g).0), (h.3 g).1)))

abbrev pub grow_paren : (p : ℕ) (x : End) (s : List Symbol) {k : Kind} {vs : List Kind} {G : Type 0} → Hit (kind.left_paren, inside p x s) k vs G → Grown (factor p x) s k vs G
grow_paren zero x s h = absurd h.1
grow_paren (suc p) x s h =
    let a = h.1 in
    (((paren a.0.0, a.1.0.0, a.1.0.1, a.1.0.2), a.1.1), λ g. (sewn h.0 h.2, (omega (arith, (h.3 g).0, (h.3 g).1.0), (h.3 g).1.1)))

abbrev pub grow_factor : (p : ℕ) (x : End) (s : List Symbol) {k : Kind} {vs : List Kind} {G : Type 0} → Found (factor_entries p x s) k vs G → Grown (factor p x) s k vs G
grow_factor p x s {k} (inl h) = grow_leaf p x s (kind.name []) (variable (value k).0) refl (λ r. refl) h
grow_factor p x s (inr (inl h)) = grow_leaf p x s (kind.number 0) (literal 0) refl (λ r. refl) h
grow_factor p x s {k} (inr (inr (inl h))) = grow_leaf p x s (kind.number 1) (literal (value k).1) refl (λ r. refl) h
grow_factor p x s (inr (inr (inr (inl h)))) = grow_paren p x s h
grow_factor p x s (inr (inr (inr (inr h)))) = absurd h

abbrev pub grow_signed : (p : ℕ) (x : End) (s : List Symbol) {k : Kind} {vs : List Kind} {G : Type 0} (m : Additive) → Hit (kind.additive m, next (factor p x ∷ s)) k vs G → Grown (expression p x) s k vs G
grow_signed p x s m h =
    let a = h.1 in
    (((tree.expression (signed m) (term a.0.0 a.0.1) a.0.2, a.0.3), a.1), λ g. (sewn h.0 h.2, (omega (arith, (h.3 g).0), (h.3 g).1)))

abbrev pub grow_bare : (p : ℕ) (x : End) (s : List Symbol) {k : Kind} {vs : List Kind} {G : Type 0} → Grown (factor p x) s k vs G → Grown (expression p x) s k vs G
grow_bare p x s h =
    let a = h.0 in
    (((tree.expression bare (term a.0.0 a.0.1) a.0.2, a.0.3), a.1), λ g. ((h.1 g).0, (omega (arith, (h.1 g).1.0), (h.1 g).1.1)))

abbrev pub grow_expression : (p : ℕ) (x : End) (s : List Symbol) {k : Kind} {vs : List Kind} {G : Type 0} → Found (expression_entries p x s) k vs G → Grown (expression p x) s k vs G
grow_expression p x s (inl h) = grow_signed p x s Plus h
grow_expression p x s (inr (inl h)) = grow_signed p x s Minus h
grow_expression p x s (inr (inr h)) = grow_bare p x s (grow_factor p x s h)

abbrev pub grow_by : (p : ℕ) (x : End) (s : List Symbol) {k : Kind} {vs : List Kind} {G : Type 0} (m : Multiplicative) → Hit (kind.multiplicative m, next (factor p x ∷ s)) k vs G → Grown (products p x) s k vs G
grow_by p x s m h =
    let a = h.1 in
    (((by m a.0.0 a.0.1, a.0.2, a.0.3), a.1), λ g. (sewn h.0 h.2, (omega (arith, (h.3 g).0), (h.3 g).1)))

abbrev pub grow_and : (p : ℕ) (x : End) (s : List Symbol) {k : Kind} {vs : List Kind} {G : Type 0} (m : Additive) → Hit (kind.additive m, next (factor p x ∷ s)) k vs G → Grown (sums p x) s k vs G
grow_and p x s m h =
    let a = h.1 in
    (((and m (term a.0.0 a.0.1) a.0.2, a.0.3), a.1), λ g. (sewn h.0 h.2, (omega (arith, (h.3 g).0), (h.3 g).1)))

abbrev pub grow_ending : (x : End) (s : List Symbol) {k : Kind} {vs : List Kind} {G : Type 0} (k' : Kind) (e : EndTree x) → ((r : List Kind) → end_onto x e r ≡ carry k' (value k) ∷ r) → Hit (k', next s) k vs G → Grown (end x) s k vs G
grow_ending x s k' e o h = ((e, h.1), λ g. (o _ ∙ sewn h.0 h.2, (tt, h.3 g)))

abbrev pub grow_end : (x : End) (s : List Symbol) {k : Kind} {vs : List Kind} {G : Type 0} → Found (end_entries x s) k vs G → Grown (end x) s k vs G
grow_end at_semicolon s (inl h) = grow_ending at_semicolon s kind.semicolon tt (λ r. refl) h
grow_end at_semicolon s (inr h) = absurd h
grow_end at_paren s (inl h) = grow_ending at_paren s kind.right_paren tt (λ r. refl) h
grow_end at_paren s (inr h) = absurd h
grow_end at_relation s (inl h) = grow_ending at_relation s (kind.relation Equal) Equal (λ r. refl) h
grow_end at_relation s (inr (inl h)) = grow_ending at_relation s (kind.relation Unequal) Unequal (λ r. refl) h
grow_end at_relation s (inr (inr (inl h))) = grow_ending at_relation s (kind.relation Less) Less (λ r. refl) h
grow_end at_relation s (inr (inr (inr (inl h)))) = grow_ending at_relation s (kind.relation Greater) Greater (λ r. refl) h
grow_end at_relation s (inr (inr (inr (inr (inl h))))) = grow_ending at_relation s (kind.relation AtMost) AtMost (λ r. refl) h
grow_end at_relation s (inr (inr (inr (inr (inr (inl h)))))) = grow_ending at_relation s (kind.relation AtLeast) AtLeast (λ r. refl) h
grow_end at_relation s (inr (inr (inr (inr (inr (inr h)))))) = absurd h

abbrev pub grow_alone : (p : ℕ) (x : End) (s : List Symbol) {k : Kind} {vs : List Kind} {G : Type 0} → Grown (end x) s k vs G → Grown (sums p x) s k vs G
grow_alone p x s h = let a = h.0 in (((alone, a.0), a.1), λ g. ((h.1 g).0, (omega arith, (h.1 g).1.1)))

abbrev pub grow_sums : (p : ℕ) (x : End) (s : List Symbol) {k : Kind} {vs : List Kind} {G : Type 0} → Found (sum_entries p x s) k vs G → Grown (sums p x) s k vs G
grow_sums p x s (inl h) = grow_and p x s Plus h
grow_sums p x s (inr (inl h)) = grow_and p x s Minus h
grow_sums p x s (inr (inr h)) = grow_alone p x s (grow_end x s h)

abbrev pub grow_single : (p : ℕ) (x : End) (s : List Symbol) {k : Kind} {vs : List Kind} {G : Type 0} → Grown (sums p x) s k vs G → Grown (products p x) s k vs G
grow_single p x s h = let a = h.0 in (((single, a.0.0, a.0.1), a.1), λ g. ((h.1 g).0, (omega (arith, (h.1 g).1.0), (h.1 g).1.1)))

abbrev pub grow_products : (p : ℕ) (x : End) (s : List Symbol) {k : Kind} {vs : List Kind} {G : Type 0} → Found (product_entries p x s) k vs G → Grown (products p x) s k vs G
grow_products p x s (inl h) = grow_by p x s Times h
grow_products p x s (inr (inl h)) = grow_by p x s Divide h
grow_products p x s (inr (inr (inl h))) = grow_by p x s Modulo h
grow_products p x s (inr (inr (inr h))) = grow_single p x s (grow_sums p x s h)

-- ── statements ──

-- an `if`, whose `else` is the first of what follows
abbrev pub if_tree : Condition → Statement → Tail → Statement × Tail
if_tree c b (other o t) = (either c b o, t)
if_tree c b (last ss) = (when c b, last ss)

pub if_fits : (p d : ℕ) (es : List ℕ) (x : Frame) (c : Condition) (b : Statement) (t : Tail) → tree.condition_parens c ≤ p → Good (statement p d (d ∷ es) x) (b, t) → Good (statement p (suc d) es x) (if_tree c b t)
if_fits p d es x c b (other o t) q g = ((omega (arith, g.0.0, g.2.0.0), omega (arith, g.0.1, g.2.0.1), (g.1, g.0.2, g.2.0.2)), g.2.1, g.2.2)
if_fits p d es x c b (last ss) q g = ((omega (arith, g.0.0), omega (arith, g.0.1), g.0.2), tt, g.2)

pub if_onto : (x : Frame) (c : Condition) (b : Statement) (t : Tail) (r : List Kind) → tree.statement_onto (if_tree c b t).0 (tail_onto x (if_tree c b t).1 r) ≡ kind.if ∷ tree.condition_onto c (tree.statement_onto b (tail_onto x t r))
if_onto x c b (other o t) r = refl
if_onto x c b (last ss) r = refl

pub meets_shut : (t : Tail) → Meets t false
meets_shut (other b t) = refl
meets_shut (last ss) = tt

abbrev pub grow_if : (p d : ℕ) (es : List ℕ) (x : Frame) (s : List Symbol) {k : Kind} {vs : List Kind} {G : Type 0} → Hit (kind.if, ifs p d es x s) k vs G → Grown (statement p d es x) s k vs G
grow_if p zero es x s h = absurd h.1
grow_if p (suc d) es x s h =
    let a = h.1 in
    let c = test a.1.0.0 a.1.0.1 a.1.1.0.0 in
    let b = a.1.1.1.0.0 in
    let t = a.1.1.1.0.1 in (
      (if_tree c b t, a.1.1.1.1),
      λ g. (if_onto x c b t _ ∙ sewn h.0 h.2, (if_fits p d es x c b t (omega (arith, (h.3 g).1.0, (h.3 g).1.1.0)) (h.3 g).1.1.1.0, (h.3 g).1.1.1.1)),
    )

abbrev pub grow_while : (p d : ℕ) (es : List ℕ) (x : Frame) (s : List Symbol) {k : Kind} {vs : List Kind} {G : Type 0} → Hit (kind.while, whiles p d es x s) k vs G → Grown (statement p d es x) s k vs G
grow_while p zero es x s h = absurd h.1
grow_while p (suc d) es x s h =
    let a = h.1 in
    let c = test a.1.0.0 a.1.0.1 a.1.1.0.0 in
    let b = a.1.1.1.0.0 in
    let t = a.1.1.1.0.1 in (
      ((loop c b, t), a.1.1.1.1),
      λ g. (sewn h.0 h.2, (((omega (arith, (h.3 g).1.0, (h.3 g).1.1.0, (h.3 g).1.1.1.0.0.0), omega (arith, (h.3 g).1.1.1.0.0.1), (h.3 g).1.1.1.0.0.2), (h.3 g).1.1.1.0.1, (h.3 g).1.1.1.0.2), (h.3 g).1.1.1.1)),
    )

-- a block of a statement and what follows it up to the brace
abbrev pub block_tree : Statement → Tail → Statement
block_tree b (other o t) = scan []
block_tree b (last ss) = block b ss

pub block_fits : (p d : ℕ) (b : Statement) (t : Tail) → Good (statement p d [] (braces d)) (b, t) → (tree.statement_parens (block_tree b t) ≤ p) × (tree.statement_depth (block_tree b t) ≤ suc (suc d)) × tree.ElseNearest (block_tree b t)
block_fits p d b (other o t) g = absurd g.2
block_fits p d b (last ss) g = (omega (arith, g.0.0, g.2.0), omega (arith, g.0.1, g.2.1), (g.0.2, g.2.2))

pub block_onto : (p d : ℕ) (b : Statement) (t : Tail) (r : List Kind) → Good (statement p d [] (braces d)) (b, t) → tree.statement_onto (block_tree b t) r ≡ kind.left_brace ∷ tree.statement_onto b (tail_onto (braces d) t r)
block_onto p d b (other o t) r g = absurd g.2
block_onto p d b (last ss) r g = refl

pub block_shut : (b : Statement) (t : Tail) → tree.ends_open (block_tree b t) ≡ false
block_shut b (other o t) = refl
block_shut b (last ss) = refl

abbrev pub grow_block : (p d : ℕ) (es : List ℕ) (x : Frame) (s : List Symbol) {k : Kind} {vs : List Kind} {G : Type 0} → Hit (kind.left_brace, blocks p d es x s) k vs G → Grown (statement p d es x) s k vs G
grow_block p zero es x s h = absurd h.1
grow_block p (suc d) es x s h =
    let a = h.1 in
    let b = a.0.0 in
    let t = a.0.1 in (
      ((block_tree b t, a.1.0), a.1.1),
      λ g. (block_onto p d b t _ (h.3 g).0 ∙ sewn h.0 h.2, ((block_fits p d b t (h.3 g).0, subst (Meets a.1.0) (sym (block_shut b t)) (meets_shut a.1.0), (h.3 g).1.0), (h.3 g).1.1)),
    )

abbrev pub grow_statement : (p d : ℕ) (es : List ℕ) (x : Frame) (s : List Symbol) {k : Kind} {vs : List Kind} {G : Type 0} → Found (statement_entries p d es x s) k vs G → Grown (statement p d es x) s k vs G
grow_statement p d es x s {k} (inl h) =
    let a = h.1 in
    (((assign (value k).0 a.1.0.0, a.1.1.0), a.1.1.1), λ g. (sewn h.0 h.2, ((((h.3 g).1.0, omega arith, tt), meets_shut a.1.1.0, (h.3 g).1.1.0), (h.3 g).1.1.1)))
grow_statement p d es x s (inr (inl h)) =
    let a = h.1.1.1.1.1.1.1.1 in
    (((scan h.1.1.1.1.1.0, a.0), a.1), λ g. (sewn h.0 h.2, (((omega arith, omega arith, tt), meets_shut a.0, (h.3 g).1.1.1.1.1.1.1.0), (h.3 g).1.1.1.1.1.1.1.1)))
grow_statement p d es x s (inr (inr (inl h))) =
    let a = h.1.1.1.1.1.1.1 in
    (((print h.1.1.1.1.0, a.0), a.1), λ g. (sewn h.0 h.2, (((omega arith, omega arith, tt), meets_shut a.0, (h.3 g).1.1.1.1.1.1.0), (h.3 g).1.1.1.1.1.1.1)))
grow_statement p d es x s (inr (inr (inr (inl h)))) = grow_if p d es x s h
grow_statement p d es x s (inr (inr (inr (inr (inl h))))) = grow_while p d es x s h
grow_statement p d es x s (inr (inr (inr (inr (inr (inl h)))))) = grow_block p d es x s h
grow_statement p d es x s (inr (inr (inr (inr (inr (inr h)))))) = absurd h

-- ── what follows statements ──

abbrev pub grow_else : (p : ℕ) (es : List ℕ) (x : Frame) (s : List Symbol) {k : Kind} {vs : List Kind} {G : Type 0} → Hit (kind.else, elses p es x s) k vs G → Grown (tail p es x) s k vs G
grow_else p [] x s h = absurd h.1
grow_else p (e ∷ es) x s h = let a = h.1 in ((other a.0.0 a.0.1, a.1), λ g. (sewn h.0 h.2, ((h.3 g).0, (h.3 g).1)))

abbrev pub grow_close : (p : ℕ) (es : List ℕ) (x : Frame) (s : List Symbol) {k : Kind} {vs : List Kind} {G : Type 0} → Hit (closes x s) k vs G → Grown (tail p es x) s k vs G
grow_close p es (braces d) s h = ((last none, h.1), λ g. (sewn h.0 h.2, ((omega arith, omega arith, tt), h.3 g)))
grow_close p es (whole d) s h = ((last none, h.1.1.1.1), λ g. (sewn h.0 h.2, ((omega arith, omega arith, tt), (h.3 g).1.1.1)))

abbrev pub tail_tree : Statement → Tail → Tail
tail_tree b (other o t) = last none
tail_tree b (last ss) = last (then b ss)

pub tail_fits : (p : ℕ) (es : List ℕ) (x : Frame) (b : Statement) (t : Tail) → Good (statement p (level x) [] x) (b, t) → GoodTail (tail_tree b t) p es x
tail_fits p es x b (other o t) g = absurd g.2
tail_fits p es x b (last ss) g = (omega (arith, g.0.0, g.2.0), omega (arith, g.0.1, g.2.1), (g.0.2, g.2.2))

pub tail_onto_lem : (p : ℕ) (x : Frame) (b : Statement) (t : Tail) (r : List Kind) → Good (statement p (level x) [] x) (b, t) → tail_onto x (tail_tree b t) r ≡ tree.statement_onto b (tail_onto x t r)
tail_onto_lem p x b (other o t) r g = absurd g.2
tail_onto_lem p x b (last ss) r g = refl

abbrev pub grow_then : (p : ℕ) (es : List ℕ) (x : Frame) (s : List Symbol) {k : Kind} {vs : List Kind} {G : Type 0} → Grown (statement p (level x) [] x) s k vs G → Grown (tail p es x) s k vs G
grow_then p es x s h =
    let a = h.0 in
    ((tail_tree a.0.0 a.0.1, a.1), λ g. (tail_onto_lem p x a.0.0 a.0.1 _ (h.1 g).1.0 ∙ (h.1 g).0, (tail_fits p es x a.0.0 a.0.1 (h.1 g).1.0, (h.1 g).1.1)))

abbrev pub grow_tail : (p : ℕ) (es : List ℕ) (x : Frame) (s : List Symbol) {k : Kind} {vs : List Kind} {G : Type 0} → Found (tail_entries p es x s) k vs G → Grown (tail p es x) s k vs G
grow_tail p es x s (inl h) = grow_else p es x s h
grow_tail p es x s (inr (inl h)) = grow_close p es x s h
grow_tail p es x s (inr (inr h)) = grow_then p es x s (grow_statement p (level x) [] x s h)

-- ── declarations and the whole ──

abbrev pub grow_names : (s : List Symbol) {k : Kind} {vs : List Kind} {G : Type 0} → Found (entries names s) k vs G → Grown names s k vs G
grow_names s (inl h) = ((also h.1.0 h.1.1.0, h.1.1.1), λ g. (sewn h.0 h.2, (tt, (h.3 g).1.1)))
grow_names s (inr (inl h)) = ((nomore, h.1), λ g. (sewn h.0 h.2, (tt, h.3 g)))
grow_names s (inr (inr h)) = absurd h

abbrev pub body_tree : Declaration → Tail → Declaration × Statements
body_tree v (other o t) = (v, none)
body_tree v (last ss) = (v, ss)

pub body_fits : (p d : ℕ) (v : Declaration) (t : Tail) → GoodTail t p [] (whole d) → Good (body p d) (body_tree v t)
body_fits p d v (other o t) g = absurd g
body_fits p d v (last ss) g = g

pub body_onto : (p d : ℕ) (v : Declaration) (t : Tail) (r : List Kind) → GoodTail t p [] (whole d) → tree.declaration_onto (body_tree v t).0 (tail_onto (whole d) (last (body_tree v t).1) r) ≡ tree.declaration_onto v (tail_onto (whole d) t r)
body_onto p d v (other o t) r g = absurd g
body_onto p d v (last ss) r g = refl

abbrev pub grow_body : (p d : ℕ) (s : List Symbol) {k : Kind} {vs : List Kind} {G : Type 0} → Found (entries (body p d) s) k vs G → Grown (body p d) s k vs G
grow_body p d s (inl h) =
    let a = h.1 in
    let t = a.1.1.0 in
    ((body_tree (variables a.0 a.1.0) t, a.1.1.1), λ g. (body_onto p d (variables a.0 a.1.0) t _ (h.3 g).1.1.0 ∙ sewn h.0 h.2, (body_fits p d (variables a.0 a.1.0) t (h.3 g).1.1.0, (h.3 g).1.1.1)))
grow_body p d s (inr f) =
    let h = grow_tail p [] (whole d) s f in
    let t = h.0.0 in
    ((body_tree nothing t, h.0.1), λ g. (body_onto p d nothing t _ (h.1 g).1.0 ∙ (h.1 g).0, (body_fits p d nothing t (h.1 g).1.0, (h.1 g).1.1)))

abbrev pub grow_any : (y : Symbol) (s : List Symbol) {k : Kind} {vs : List Kind} {G : Type 0} → Found (entries y s) k vs G → Grown y s k vs G
grow_any (token m) s (inl h) = ((tt, h.1), λ g. (sewn h.0 h.2, (tt, h.3 g)))
grow_any (token m) s (inr h) = absurd h
grow_any identifier s {k} (inl h) = (((value k).0, h.1), λ g. (sewn h.0 h.2, (tt, h.3 g)))
grow_any identifier s (inr h) = absurd h
grow_any zero_number s (inl h) = ((tt, h.1), λ g. (sewn h.0 h.2, (tt, h.3 g)))
grow_any zero_number s (inr h) = absurd h
grow_any (expression p x) s f = grow_expression p x s f
grow_any (factor p x) s f = grow_factor p x s f
grow_any (products p x) s f = grow_products p x s f
grow_any (sums p x) s f = grow_sums p x s f
grow_any (end x) s f = grow_end x s f
grow_any (statement p d es x) s f = grow_statement p d es x s f
grow_any (tail p es x) s f = grow_tail p es x s f
grow_any names s f = grow_names s f
grow_any (body p d) s f = grow_body p d s f

abbrev pub grow : (y : Symbol) (s : List Symbol) (k : Kind) (a : After (step (y ∷ s) k)) → Grown y s k (spell_after (step (y ∷ s) k) a) (GoodAfter (step (y ∷ s) k) a)
grow y s k a = grow_any y s (found (entries y s) k a)
