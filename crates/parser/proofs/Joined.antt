-- How the trees of what is read join to the tree of a statement.
use Rattle.std.proofs.Common.{◌≡◌, ℕ, suc, ◌≤◌, Bool, true, false, List, [], ◌∷◌, ◌++◌, sym, refl, ap, ◌∙◌, subst, true≢false, arith}
use Rattle.syntax.specs.Trees.{Expression, Condition, test, Statement, assign, scan, print, when, either, while, block, Statements, none, then}
use Rattle.syntax.specs.TreeOf.{condition_of, statement_of, body_of, statements_of}
use Rattle.syntax.specs.declared.tree.Guarded.{Guarded}
use Rattle.syntax.specs.declared.tree.Statement as coded
use Rattle.grammar.specs.Kinds.{Name, Token, kinds, Mark, mark, Relation, LeftParen, RightParen, Format, Comma, Ampersand, Semicolon, same}
use Rattle.grammar.specs.Kinds as kind
use Rattle.grammar.specs.Grammar as parse
use Rattle.grammar.specs.Grammar.{expression_onto, expression_parens, condition_onto, statement_onto, statements_onto}
use Rattle.grammar.specs.Placed.{at, past, expression_at, condition_at, statement_at, statements_at}
use Rattle.parser.specs.Reads.{token_at, starts, Spells}
use Rattle.parser.specs.Readers.{Marks}
use Rattle.parser.specs.Statements.{IsCondition, IsStatement, AreStatements, IsGuarded}
use Rattle.parser.proofs.Spelled.{respelled}

abbrev IsExpression : List Token → Expression Name → List Token → Type 0
IsExpression = Spells expression_onto expression_at (λ u. expression_parens u ≤ 32)

-- ── tokens in a row ──

abbrev pub tokens_at : (ms : List Mark) (us vs : List Token) → Marks ms us vs → List Token → List Token
tokens_at [] us vs h r = r
tokens_at (m ∷ ms) us vs h r = token_at (mark m) h.0 ∷ tokens_at ms h.1 vs h.3 r

pub all_marks : (ms : List Mark) (us vs : List Token) (h : Marks ms us vs) → us ≡ tokens_at ms us vs h vs
all_marks [] us vs h = h
all_marks (m ∷ ms) us vs h = h.2 ∙ ap (λ l. token_at (mark m) h.0 ∷ l) (all_marks ms h.1 vs h.3)

-- ── pieces ──

pub condition_spelled : {us vs ws ys zs xs : List Token} {l r : Expression Name} {o : Relation} {m n p : ℕ} → us ≡ token_at kind.left_paren m ∷ vs → IsExpression vs l ws → ws ≡ token_at (kind.relation o) n ∷ ys → IsExpression ys r zs → zs ≡ token_at kind.right_paren p ∷ xs → IsCondition us (test l o n r) xs
condition_spelled {l = l} {r = r} {o = o} {n = n} a h b g c = record {
  tree = parse.test h.tree o g.tree;
  tokens =
      ap kinds a
      ∙ ap (λ k. kind.left_paren ∷ k) (h.tokens ∙ ap (λ k. expression_onto h.tree (kinds k)) b ∙ ap (λ k. expression_onto h.tree (kind.relation o ∷ k)) (g.tokens ∙ ap (λ k. expression_onto g.tree (kinds k)) c));
  placed =
      ap (condition_at (parse.test h.tree o g.tree)) a
      ∙ ap (λ q. (test q.0 o (at q.1) (expression_at g.tree (past q.1)).0, past (expression_at g.tree (past q.1)).1)) h.placed
      ∙ ap (λ k. (test l o (at k) (expression_at g.tree (past k)).0, past (expression_at g.tree (past k)).1)) b
      ∙ ap (λ q. (test l o n q.0, past q.1)) g.placed
      ∙ ap (λ k. (test l o n r, past k)) c;
  fits = omega (arith, h.fits, g.fits);
}

-- a statement that ends in no open `if` takes no `else`
ends_shut : {X : Type 0} → false ≡ true → X
ends_shut e = absurd (true≢false (sym e))

pub assign_spelled : {us vs ws zs : List Token} {i : Name} {e : Expression Name} {m n p : ℕ} (d : ℕ) → us ≡ token_at kind.assign m ∷ vs → IsExpression vs e ws → ws ≡ token_at kind.semicolon n ∷ zs → IsStatement d (token_at (kind.name i) p ∷ us) (assign i p e) zs
assign_spelled {i = i} {e = e} {p = p} d a h b = record {
  tree = parse.assign i h.tree;
  tokens = ap (λ k. kind.name i ∷ kinds k) a ∙ ap (λ k. kind.name i ∷ (kind.assign ∷ k)) (h.tokens ∙ ap (λ k. expression_onto h.tree (kinds k)) b);
  placed =
      ap (λ k. (assign i p (expression_at h.tree (past k)).0, past (expression_at h.tree (past k)).1)) a
      ∙ ap (λ q. (assign i p q.0, past q.1)) h.placed
      ∙ ap (λ k. (assign i p e, past k)) b;
  fits = ((h.fits, omega arith, tt), ends_shut);
}

abbrev ending : List Mark
ending = RightParen ∷ (Semicolon ∷ [])

pub scan_spelled : {us vs ws zs : List Token} {i : Name} {n : ℕ} (d p : ℕ) → Marks (LeftParen ∷ (Format ∷ (Comma ∷ (Ampersand ∷ [])))) us vs → vs ≡ token_at (kind.name i) n ∷ ws → Marks ending ws zs → IsStatement d (token_at kind.scanf p ∷ us) (scan i n) zs
scan_spelled {us} {vs} {ws} {zs} {i} {n} d p h e g =
    let front = LeftParen ∷ (Format ∷ (Comma ∷ (Ampersand ∷ []))) in
    respelled statement_onto statement_at _ (ap (λ k. token_at kind.scanf p ∷ k) (all_marks front us vs h ∙ ap (tokens_at front us vs h) (e ∙ ap (λ k. token_at (kind.name i) n ∷ k) (all_marks ending ws zs g))))
    (record { tree = parse.scan i; tokens = refl; placed = refl; fits = ((omega arith, omega arith, tt), ends_shut) })

pub print_spelled : {us vs ws zs : List Token} {i : Name} {n : ℕ} (d p : ℕ) → Marks (LeftParen ∷ (Format ∷ (Comma ∷ []))) us vs → vs ≡ token_at (kind.name i) n ∷ ws → Marks ending ws zs → IsStatement d (token_at kind.printf p ∷ us) (print i n) zs
print_spelled {us} {vs} {ws} {zs} {i} {n} d p h e g =
    let front = LeftParen ∷ (Format ∷ (Comma ∷ [])) in
    respelled statement_onto statement_at _ (ap (λ k. token_at kind.printf p ∷ k) (all_marks front us vs h ∙ ap (tokens_at front us vs h) (e ∙ ap (λ k. token_at (kind.name i) n ∷ k) (all_marks ending ws zs g))))
    (record { tree = parse.print i; tokens = refl; placed = refl; fits = ((omega arith, omega arith, tt), ends_shut) })

-- ── statements in others ──

pub when_spelled : {us vs ws zs : List Token} {c : Condition Name} {b : Statement Name} (d p : ℕ) → IsCondition us c vs → IsStatement d vs b ws → (zs ≡ ws) × (starts (same kind.else) ws ≡ false) → IsStatement (suc d) (token_at kind.if p ∷ us) (when p c b) zs
when_spelled {us} {ws = ws} {c = c} {b = b} d p h g e =
    subst (IsStatement (suc d) (token_at kind.if p ∷ us) (when p c b)) (sym e.0)
    (record {
      tree = parse.when h.tree g.tree;
      tokens = ap (λ k. kind.if ∷ k) (h.tokens ∙ ap (condition_onto h.tree) g.tokens);
      placed =
          ap (λ q. (when p q.0 (statement_at g.tree q.1).0, (statement_at g.tree q.1).1)) h.placed
          ∙ ap (λ q. (when p c q.0, q.1)) g.placed;
      fits = ((omega (arith, h.fits, g.fits.0.0), omega (arith, g.fits.0.1), g.fits.0.2), λ o. e.1);
    })

-- what an `else` follows does not end in an open `if`
followed : (o s : Bool) → (o ≡ true → s ≡ false) → s ≡ true → o ≡ false
followed true s h e = absurd (true≢false (sym e ∙ h refl))
followed false s h e = refl

pub either_spelled : {us vs ws ys zs : List Token} {c : Condition Name} {a b : Statement Name} (d p : ℕ) {n : ℕ} → IsCondition us c vs → IsStatement d vs a ws → ws ≡ token_at kind.else n ∷ ys → IsStatement d ys b zs → IsStatement (suc d) (token_at kind.if p ∷ us) (either p c a n b) zs
either_spelled {ws = ws} {c = c} {a = a} d p {n} h g e f = record {
  tree = parse.either h.tree g.tree f.tree;
  tokens = ap (λ k. kind.if ∷ k) (h.tokens ∙ ap (condition_onto h.tree) (g.tokens ∙ ap (λ k. statement_onto g.tree (kinds k)) e ∙ ap (λ k. statement_onto g.tree (kind.else ∷ k)) f.tokens));
  placed =
      ap (λ q. rest q.0 (statement_at g.tree q.1)) h.placed
      ∙ ap (rest c) g.placed
      ∙ ap (λ k. (either p c a (at k) (statement_at f.tree (past k)).0, (statement_at f.tree (past k)).1)) e
      ∙ ap (λ q. (either p c a n q.0, q.1)) f.placed;
  fits = (
    (
      omega (arith, h.fits, g.fits.0.0, f.fits.0.0),
      omega (arith, g.fits.0.1, f.fits.0.1),
      (followed (parse.ends_open g.tree) (starts (same kind.else) ws) g.fits.1 (ap (starts (same kind.else)) e), g.fits.0.2, f.fits.0.2),
    ),
    f.fits.1,
  );
}
  where
    rest : Condition Name → Statement Name × List Token → Statement Name × List Token
    rest k q = (either p k q.0 (at q.1) (statement_at f.tree (past q.1)).0, (statement_at f.tree (past q.1)).1)

pub while_spelled : {us vs zs : List Token} {c : Condition Name} {b : Statement Name} (d p : ℕ) → IsCondition us c vs → IsStatement d vs b zs → IsStatement (suc d) (token_at kind.while p ∷ us) (while p c b) zs
while_spelled {c = c} d p h g = record {
  tree = parse.loop h.tree g.tree;
  tokens = ap (λ k. kind.while ∷ k) (h.tokens ∙ ap (condition_onto h.tree) g.tokens);
  placed =
      ap (λ q. (while p q.0 (statement_at g.tree q.1).0, (statement_at g.tree q.1).1)) h.placed
      ∙ ap (λ q. (while p c q.0, q.1)) g.placed;
  fits = ((omega (arith, h.fits, g.fits.0.0), omega (arith, g.fits.0.1), g.fits.0.2), g.fits.1);
}

pub block_spelled : {us vs zs : List Token} {b : Statement Name} {ss xs : Statements Name} {n : ℕ} (d p : ℕ) → xs ≡ then b ss → IsStatement d us b vs → AreStatements d vs ss (token_at kind.right_brace n ∷ zs) → IsStatement (suc d) (token_at kind.left_brace p ∷ us) (block xs) zs
block_spelled {zs = zs} {b = b} d p boxed h g = record {
  tree = parse.block h.tree g.tree;
  tokens = ap (λ k. kind.left_brace ∷ k) (h.tokens ∙ ap (statement_onto h.tree) g.tokens);
  placed =
      ap (λ q. (block (then q.0 (statements_at g.tree q.1).0), past (statements_at g.tree q.1).1)) h.placed
      ∙ ap (λ q. (block (then b q.0), past q.1)) g.placed
      ∙ ap (λ k. (block k, zs)) (sym boxed);
  fits = ((omega (arith, h.fits.0.0, g.fits.0), omega (arith, h.fits.0.1, g.fits.1), (h.fits.0.2, g.fits.2)), ends_shut);
}

pub none_spelled : {us vs : List Token} (d : ℕ) → us ≡ vs → AreStatements d us none vs
none_spelled d e = record { tree = parse.none; tokens = ap kinds e; placed = ap (λ k. (none, k)) e; fits = (omega arith, omega arith, tt) }

pub then_spelled : {us vs zs : List Token} {b : Statement Name} {ss : Statements Name} (d : ℕ) → IsStatement d us b vs → AreStatements d vs ss zs → AreStatements d us (then b ss) zs
then_spelled {b = b} d h g = record {
  tree = parse.then h.tree g.tree;
  tokens = h.tokens ∙ ap (statement_onto h.tree) g.tokens;
  placed =
      ap (λ q. (then q.0 (statements_at g.tree q.1).0, (statements_at g.tree q.1).1)) h.placed
      ∙ ap (λ q. (then b q.0, q.1)) g.placed;
  fits = (omega (arith, h.fits.0.0, g.fits.0), omega (arith, h.fits.0.1, g.fits.1), (h.fits.0.2, g.fits.2));
}

-- ── statements in a row ──

abbrev pub before : List ℕ → List coded.Statement → Statements Name → Statements Name
before source [] r = r
before source (b ∷ bs) r = then (statement_of source b) (before source bs r)

pub before_none : (source : List ℕ) (bs : List coded.Statement) → before source bs none ≡ statements_of source bs
before_none source [] = refl
before_none source (b ∷ bs) = ap (then (statement_of source b)) (before_none source bs)

pub before_more : (source : List ℕ) (bs : List coded.Statement) (b : coded.Statement) (r : Statements Name) → before source (bs ++ (b ∷ [])) r ≡ before source bs (then (statement_of source b) r)
before_more source [] b r = refl
before_more source (a ∷ bs) b r = ap (then (statement_of source a)) (before_more source bs b r)

-- behind its first token, with one level fewer to spare
pub relevelled : {us vs ws : List Token} {b : Statement Name} (d e : ℕ) → us ≡ vs → d ≡ suc e → IsStatement (suc e) vs b ws → IsStatement d us b ws
relevelled {us} {vs} {ws} {b} d e q n h = subst (λ m. IsStatement m us b ws) (sym n) (subst (λ l. IsStatement (suc e) l b ws) (sym q) h)

-- ── a condition and the statement behind it ──

pub when_guarded : (source : List ℕ) (d p : ℕ) {us ws zs : List Token} {g : Guarded} → IsGuarded source p d us g ws → (zs ≡ ws) × (starts (same kind.else) ws ≡ false) → IsStatement (suc d) (token_at kind.if p ∷ us) (when g.place (condition_of source g.condition) (body_of source g)) zs
when_guarded source d p {us} {zs = zs} {g = g} h e = subst (λ q. IsStatement (suc d) (token_at kind.if p ∷ us) (when q (condition_of source g.condition) (body_of source g)) zs) (sym h.placed) (when_spelled d p h.condition h.body e)

pub either_guarded : (source : List ℕ) (d p : ℕ) {us ws ys zs : List Token} {g : Guarded} {b : Statement Name} {n : ℕ} → IsGuarded source p d us g ws → ws ≡ token_at kind.else n ∷ ys → IsStatement d ys b zs → IsStatement (suc d) (token_at kind.if p ∷ us) (either g.place (condition_of source g.condition) (body_of source g) n b) zs
either_guarded source d p {us} {zs = zs} {g = g} {b = b} {n = n} h e f = subst (λ q. IsStatement (suc d) (token_at kind.if p ∷ us) (either q (condition_of source g.condition) (body_of source g) n b) zs) (sym h.placed) (either_spelled d p h.condition h.body e f)

pub while_guarded : (source : List ℕ) (d p : ℕ) {us zs : List Token} {g : Guarded} → IsGuarded source p d us g zs → IsStatement (suc d) (token_at kind.while p ∷ us) (while g.place (condition_of source g.condition) (body_of source g)) zs
while_guarded source d p {us} {zs} {g} h = subst (λ q. IsStatement (suc d) (token_at kind.while p ∷ us) (while q (condition_of source g.condition) (body_of source g)) zs) (sym h.placed) (while_spelled d p h.condition h.body)
