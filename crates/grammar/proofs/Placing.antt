-- Placing a tree goes past just its tokens.
use mathlib.Core.Path.{◌≡◌}
use mathlib.Core.List.{List, [], ◌∷◌, nil≢cons, tail-eq_of_cons-eq}
use Rattle.syntax.specs.Trees.{Expression, Term}
use Rattle.grammar.specs.Kinds.{Name, Kind, Token, kinds}
use Rattle.grammar.specs.Grammar as tree
use Rattle.grammar.specs.Grammar.{bare, signed, term, variable, literal, paren, single, by, alone, and, test, assign, scan, print, when, either, loop, block, none, then}
use Rattle.grammar.specs.Placed.{past, behind_sign, expression_at, term_at, factor_at, products_at, sums_at, condition_at, statement_at, statements_at}
use Rattle.grammar.specs.Theorems.{Places}

step : (ts : List Token) (k : Kind) (r : List Kind) → kinds ts ≡ k ∷ r → kinds (past ts) ≡ r
step [] k r h = absurd (nil≢cons h)
step (t ∷ ts) k r h = tail-eq_of_cons-eq h

sign_left : (g : tree.Sign) (ts : List Token) (r : List Kind) → kinds ts ≡ tree.sign_onto g r → kinds (behind_sign g ts) ≡ r
sign_left bare ts r h = h
sign_left (signed a) ts r h = step ts _ r h

mutual
  expression_left : (e : tree.Expression) (ts : List Token) (r : List Kind) → kinds ts ≡ tree.expression_onto e r → kinds (expression_at e ts).1 ≡ r
  expression_left (tree.expression g t ss) ts r h = sums_left ss _ _ r (term_left t _ _ (sign_left g ts _ h))

  term_left : (t : tree.Term) (ts : List Token) (r : List Kind) → kinds ts ≡ tree.term_onto t r → kinds (term_at t ts).1 ≡ r
  term_left (term f ps) ts r h = products_left ps _ _ r (factor_left f ts _ h)

  factor_left : (f : tree.Factor) (ts : List Token) (r : List Kind) → kinds ts ≡ tree.factor_onto f r → kinds (factor_at f ts).1 ≡ r
  factor_left (variable i) ts r h = step ts _ r h
  factor_left (literal v) ts r h = step ts _ r h
  factor_left (paren e) ts r h = step _ _ r (expression_left e (past ts) _ (step ts _ _ h))

  products_left : (ps : tree.Products) (u : Term Name) (ts : List Token) (r : List Kind) → kinds ts ≡ tree.products_onto ps r → kinds (products_at ps u ts).1 ≡ r
  products_left single u ts r h = h
  products_left (by m f ps) u ts r h = products_left ps _ _ r (factor_left f (past ts) _ (step ts _ _ h))

  sums_left : (ss : tree.Sums) (u : Expression Name) (ts : List Token) (r : List Kind) → kinds ts ≡ tree.sums_onto ss r → kinds (sums_at ss u ts).1 ≡ r
  sums_left alone u ts r h = h
  sums_left (and m t ss) u ts r h = sums_left ss _ _ r (term_left t (past ts) _ (step ts _ _ h))

condition_left : (c : tree.Condition) (ts : List Token) (r : List Kind) → kinds ts ≡ tree.condition_onto c r → kinds (condition_at c ts).1 ≡ r
condition_left (test a o b) ts r h = step _ _ r (expression_left b _ _ (step _ _ _ (expression_left a (past ts) _ (step ts _ _ h))))

mutual
  statement_left : (b : tree.Statement) (ts : List Token) (r : List Kind) → kinds ts ≡ tree.statement_onto b r → kinds (statement_at b ts).1 ≡ r
  statement_left (assign i e) ts r h = step _ _ r (expression_left e _ _ (step _ _ _ (step ts _ _ h)))
  statement_left (scan i) ts r h = step _ _ r (step _ _ _ (step _ _ _ (step _ _ _ (step _ _ _ (step _ _ _ (step _ _ _ (step ts _ _ h)))))))
  statement_left (print i) ts r h = step _ _ r (step _ _ _ (step _ _ _ (step _ _ _ (step _ _ _ (step _ _ _ (step ts _ _ h))))))
  statement_left (when c b) ts r h = statement_left b _ r (condition_left c _ _ (step ts _ _ h))
  statement_left (either c a b) ts r h = statement_left b _ r (step _ _ _ (statement_left a _ _ (condition_left c _ _ (step ts _ _ h))))
  statement_left (loop c b) ts r h = statement_left b _ r (condition_left c _ _ (step ts _ _ h))
  statement_left (block b ss) ts r h = step _ _ r (statements_left ss _ _ (statement_left b _ _ (step ts _ _ h)))

  statements_left : (ss : tree.Statements) (ts : List Token) (r : List Kind) → kinds ts ≡ tree.statements_onto ss r → kinds (statements_at ss ts).1 ≡ r
  statements_left none ts r h = h
  statements_left (then b ss) ts r h = statements_left ss _ r (statement_left b ts _ h)

pub places : Places
places = statements_left
