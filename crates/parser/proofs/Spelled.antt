-- How the trees of what is read join to the tree of an expression.
use Rattle.std.proofs.Common.{◌≡◌, ℕ, suc, ◌≤◌, List, [], ◌∷◌, ◌++◌, Some, None, Option, sym, ap, ◌∙◌, subst, append_assoc, arith, take, drop}
use Rattle.syntax.specs.Trees.{Expression, first, minus, more, Term, one, times, Factor, name, number, paren}
use Rattle.syntax.specs.TreeOf.{name_of}
use Rattle.syntax.specs.declared.tree.Name as coded
use Rattle.grammar.specs.Kinds.{Name, Kind, Token, kinds, Additive, Plus, Minus, Multiplicative}
use Rattle.grammar.specs.Kinds as kind
use Rattle.grammar.specs.Grammar as parse
use Rattle.grammar.specs.Grammar.{factor_onto, products_onto, term_onto, sums_onto, expression_onto, factor_parens, products_parens, term_parens, sums_parens, expression_parens}
use Rattle.grammar.specs.Placed.{past, factor_at, products_at, term_at, sums_at, expression_at}
use Rattle.parser.specs.Reads.{token_at, is_additive, Peeks, Spells, signed_by}

pub respelled : {P A : Type 0} (onto : P → List Kind → List Kind) (at : P → List Token → A × List Token) (F : P → Type 0) {us vs ws : List Token} {a : A} → us ≡ vs → Spells onto at F vs a ws → Spells onto at F us a ws
respelled onto at F {ws = ws} {a = a} e h = subst (λ l. Spells onto at F l a ws) (sym e) h

pub retreed : {P A : Type 0} (onto : P → List Kind → List Kind) (at : P → List Token → A × List Token) (F : P → Type 0) {us vs : List Token} {a b : A} → a ≡ b → Spells onto at F us b vs → Spells onto at F us a vs
retreed onto at F {us} {vs} e h = subst (λ t. Spells onto at F us t vs) (sym e) h

-- as a name of the code with the place and the length of the one read
pub named_read : (source : List ℕ) {us vs : List Token} {n m : coded.Name} → (n.place ≡ m.place) × (n.length ≡ m.length) → us ≡ token_at (kind.name (name_of source m)) m.place ∷ vs → us ≡ token_at (kind.name (name_of source n)) n.place ∷ vs
named_read source {us} {vs} {n} {m} (place, length) e =
    subst (λ q. us ≡ token_at (kind.name (take n.length (drop q source))) q ∷ vs) (sym place) (subst (λ k. us ≡ token_at (kind.name (take k (drop m.place source))) m.place ∷ vs) (sym length) e)

-- what was put behind nothing, and what behind others
pub behind_one : {X : Type 0} {all read start rest : List X} (x : X) → all ≡ read ++ rest → read ≡ start ++ (x ∷ []) → start ≡ [] → all ≡ x ∷ rest
behind_one {rest = rest} x a b c = a ∙ ap (λ l. l ++ rest) (b ∙ ap (λ l. l ++ (x ∷ [])) c)

pub one_behind : {X : Type 0} {all read : List X} (start rest : List X) (x : X) → all ≡ read ++ (x ∷ []) → read ≡ start ++ rest → all ≡ start ++ (rest ++ (x ∷ []))
one_behind start rest x a b = a ∙ ap (λ l. l ++ (x ∷ [])) b ∙ append_assoc start rest (x ∷ [])

module _ (p : ℕ) where
  abbrev IsFactor : List Token → Factor Name → List Token → Type 0
  IsFactor = Spells factor_onto factor_at (λ u. factor_parens u ≤ p)

  abbrev pub IsTerm : List Token → Term Name → List Token → Type 0
  IsTerm = Spells term_onto term_at (λ u. term_parens u ≤ p)

  abbrev pub IsExpression : List Token → Expression Name → List Token → Type 0
  IsExpression = Spells expression_onto expression_at (λ u. expression_parens u ≤ p)

  -- from the first factor f, the factors read make t
  abbrev pub AreProducts : Term Name → List Token → Term Name → List Token → Type 0
  AreProducts f = Spells products_onto (λ u. products_at u f) (λ u. products_parens u ≤ p)

  abbrev pub AreSums : Expression Name → List Token → Expression Name → List Token → Type 0
  AreSums f = Spells sums_onto (λ u. sums_at u f) (λ u. sums_parens u ≤ p)

  pub products_end : {us vs : List Token} (t : Term Name) → vs ≡ us → AreProducts t us t vs
  products_end t e = record { tree = parse.single; tokens = ap kinds (sym e); placed = ap (λ l. (t, l)) (sym e); fits = omega arith }

  pub sums_end : {us vs : List Token} (t : Expression Name) → vs ≡ us → AreSums t us t vs
  sums_end t e = record { tree = parse.alone; tokens = ap kinds (sym e); placed = ap (λ l. (t, l)) (sym e); fits = omega arith }

  pub variable_spelled : {us vs : List Token} {i : Name} {n : ℕ} → us ≡ token_at (kind.name i) n ∷ vs → IsFactor us (name i n) vs
  variable_spelled {i = i} e = record { tree = parse.variable i; tokens = ap kinds e; placed = ap (factor_at (parse.variable i)) e; fits = omega arith }

  pub name_spelled : (source : List ℕ) {us vs : List Token} {n m : coded.Name} → (n.place ≡ m.place) × (n.length ≡ m.length) → us ≡ token_at (kind.name (name_of source m)) m.place ∷ vs → IsFactor us (name (name_of source n) n.place) vs
  name_spelled source same e = variable_spelled (named_read source same e)

  pub literal_spelled : {us vs : List Token} {v n : ℕ} → us ≡ token_at (kind.number v) n ∷ vs → IsFactor us (number v n) vs
  literal_spelled {v = v} e = record { tree = parse.literal v; tokens = ap kinds e; placed = ap (factor_at (parse.literal v)) e; fits = omega arith }

  -- b is e, out of its box
  pub paren_spelled : {us vs ws : List Token} {e b : Expression Name} (o : ℕ) {c : ℕ} → b ≡ e → IsExpression us e vs → vs ≡ token_at kind.right_paren c ∷ ws → Spells factor_onto factor_at (λ u. factor_parens u ≤ suc p) (token_at kind.left_paren o ∷ us) (paren b) ws
  paren_spelled {ws = ws} {e = e} o boxed h q = record {
    tree = parse.paren h.tree;
    tokens = ap (λ l. kind.left_paren ∷ l) (h.tokens ∙ ap (λ l. expression_onto h.tree (kinds l)) q);
    placed = ap (λ a. (paren a.0, past a.1)) h.placed ∙ ap (λ l. (paren e, past l)) q ∙ ap (λ l. (paren l, ws)) (sym boxed);
    fits = omega (arith, h.fits);
  }

  pub term_spelled : {us vs ws : List Token} {f : Factor Name} {t : Term Name} → IsFactor us f vs → AreProducts (one f) vs t ws → IsTerm us t ws
  term_spelled h g = record {
    tree = parse.term h.tree g.tree;
    tokens = h.tokens ∙ ap (factor_onto h.tree) g.tokens;
    placed = ap (λ a. products_at g.tree (one a.0) a.1) h.placed ∙ g.placed;
    fits = omega (arith, h.fits, g.fits);
  }

  pub product_spelled : {us vs ws zs : List Token} {l b t : Term Name} {m : Multiplicative} {n : ℕ} {f : Factor Name} → b ≡ l → us ≡ token_at (kind.multiplicative m) n ∷ vs → IsFactor vs f ws → AreProducts (times b m n f) ws t zs → AreProducts l us t zs
  product_spelled {ws = ws} {l = l} {m = m} {n = n} {f = f} boxed e h g = record {
    tree = parse.by m h.tree g.tree;
    tokens = ap kinds e ∙ ap (λ r. kind.multiplicative m ∷ r) (h.tokens ∙ ap (factor_onto h.tree) g.tokens);
    placed =
        ap (products_at (parse.by m h.tree g.tree) l) e ∙ ap (λ a. products_at g.tree (times l m n a.0) a.1) h.placed
        ∙ ap (λ k. products_at g.tree (times k m n f) ws) (sym boxed) ∙ g.placed;
    fits = omega (arith, h.fits, g.fits);
  }

  pub sum_spelled : {us vs ws zs : List Token} {l b e : Expression Name} {o : Additive} {n : ℕ} {t : Term Name} → b ≡ l → us ≡ token_at (kind.additive o) n ∷ vs → IsTerm vs t ws → AreSums (more b o n t) ws e zs → AreSums l us e zs
  sum_spelled {ws = ws} {l = l} {o = o} {n = n} {t = t} boxed q h g = record {
    tree = parse.and o h.tree g.tree;
    tokens = ap kinds q ∙ ap (λ r. kind.additive o ∷ r) (h.tokens ∙ ap (term_onto h.tree) g.tokens);
    placed =
        ap (sums_at (parse.and o h.tree g.tree) l) q ∙ ap (λ a. sums_at g.tree (more l o n a.0) a.1) h.placed
        ∙ ap (λ k. sums_at g.tree (more k o n t) ws) (sym boxed) ∙ g.placed;
    fits = omega (arith, h.fits, g.fits);
  }

  signed_spelled : (o : Additive) (n : ℕ) {vs ws zs : List Token} {t : Term Name} {e : Expression Name} → IsTerm vs t ws → AreSums (signed_by (Some (o, n)) t) ws e zs → IsExpression (token_at (kind.additive o) n ∷ vs) e zs
  signed_spelled Plus n h g = record {
    tree = parse.expression (parse.signed Plus) h.tree g.tree;
    tokens = ap (λ r. kind.additive Plus ∷ r) (h.tokens ∙ ap (term_onto h.tree) g.tokens);
    placed = ap (λ a. sums_at g.tree (first a.0) a.1) h.placed ∙ g.placed;
    fits = omega (arith, h.fits, g.fits);
  }
  signed_spelled Minus n h g = record {
    tree = parse.expression (parse.signed Minus) h.tree g.tree;
    tokens = ap (λ r. kind.additive Minus ∷ r) (h.tokens ∙ ap (term_onto h.tree) g.tokens);
    placed = ap (λ a. sums_at g.tree (minus n a.0) a.1) h.placed ∙ g.placed;
    fits = omega (arith, h.fits, g.fits);
  }

  bare_spelled : {us ws zs : List Token} {t : Term Name} {e : Expression Name} → IsTerm us t ws → AreSums (first t) ws e zs → IsExpression us e zs
  bare_spelled h g = record {
    tree = parse.expression parse.bare h.tree g.tree;
    tokens = h.tokens ∙ ap (term_onto h.tree) g.tokens;
    placed = ap (λ a. sums_at g.tree (first a.0) a.1) h.placed ∙ g.placed;
    fits = omega (arith, h.fits, g.fits);
  }

  pub expression_spelled : (us vs ws zs : List Token) (r : Option (Additive × ℕ)) (t : Term Name) (f e : Expression Name) → f ≡ signed_by r t → Peeks is_additive (λ x. token_at (kind.additive x.0) x.1) us r vs → IsTerm vs t ws → AreSums f ws e zs → IsExpression us e zs
  expression_spelled us vs ws zs None t f e n q h g = subst (λ l. IsExpression l e zs) q.0 (bare_spelled h (subst (λ k. AreSums k ws e zs) n g))
  expression_spelled us vs ws zs (Some a) t f e n q h g = subst (λ l. IsExpression l e zs) (sym q) (signed_spelled a.0 a.1 h (subst (λ k. AreSums k ws e zs) n g))

-- a factor behind its parenthesis, with as many to spare as there were before it
pub refitted : {us vs ws : List Token} {f : Factor Name} (p q : ℕ) → us ≡ vs → p ≡ suc q → Spells factor_onto factor_at (λ u. factor_parens u ≤ suc q) vs f ws → Spells factor_onto factor_at (λ u. factor_parens u ≤ p) us f ws
refitted {us} {ws = ws} {f = f} p q e n h = subst (λ m. Spells factor_onto factor_at (λ u. factor_parens u ≤ m) us f ws) (sym n) (respelled factor_onto factor_at (λ u. factor_parens u ≤ suc q) e h)
