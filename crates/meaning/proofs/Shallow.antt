-- Placing a parse tree's tokens keeps the depth of its parentheses, and a source spells one program.
use Rattle.std.proofs.Common.{◌≡◌, ℕ, suc, ◌≤◌, max, List, sym, refl, ap, ◌∙◌, subst, arith}
use Rattle.syntax.specs.declared.token.Additive.TheVariants.{Plus, Minus}
use Rattle.syntax.specs.Tokens.{Name, Token}
use Rattle.syntax.specs.Trees.{Expression, Term, more, times, one, Program}
use Rattle.grammar.specs.Grammar.{Sign, bare, signed, expression, term, Products, single, by, Sums, alone, and, variable, literal, paren, test, assign, scan, print, when, either, loop, block, none, then, Declaration, ProgramTree, program, Within, Nearest, expression_parens, term_parens, factor_parens, products_parens, sums_parens, condition_parens, statement_parens, statements_parens}
use Rattle.grammar.specs.Grammar as parse
use Rattle.grammar.specs.Placed.{past, behind_sign, expression_at, sums_at, term_at, products_at, factor_at, condition_at, statement_at, statements_at, declaration_at, program_at}
use Rattle.grammar.specs.Placed as placed
use Rattle.meaning.specs.Depth.{depth_of_expression, depth_of_term, depth_of_factor, depth_of_condition, depth_of_statement, depth_of_statements}
use Rattle.meaning.specs.Sources.{program_of, OneProgram, Shallow}
use Rattle.grammar.proofs.Runs.{unique}

signed_depth : (g : Sign) (p : ℕ) (t : Term Name) → depth_of_expression (placed.signed g p t) ≡ depth_of_term t
signed_depth bare p t = refl
signed_depth (signed Plus) p t = refl
signed_depth (signed Minus) p t = refl

mutual
  expression_depth : (e : parse.Expression) (ts : List Token) → depth_of_expression (expression_at e ts).0 ≡ expression_parens e
  expression_depth (expression g t ss) ts =
      let a : Term Name × List Token = term_at t (behind_sign g ts) in
      let first : Expression Name = placed.signed g (placed.at ts) a.0 in
      let e₁ : depth_of_expression (sums_at ss first a.1).0 ≡ max (depth_of_expression first) (sums_parens ss) = sums_depth ss first a.1 in
      let e₂ : depth_of_expression first ≡ depth_of_term a.0 = signed_depth g (placed.at ts) a.0 in
      let e₃ : depth_of_term a.0 ≡ term_parens t = term_depth t (behind_sign g ts) in
      omega arith

  sums_depth : (ss : Sums) (e : Expression Name) (ts : List Token) → depth_of_expression (sums_at ss e ts).0 ≡ max (depth_of_expression e) (sums_parens ss)
  sums_depth alone e ts = omega arith
  sums_depth (and o t ss) e ts =
      let a : Term Name × List Token = term_at t (past ts) in
      let e₁ : depth_of_expression (sums_at ss (more e o (placed.at ts) a.0) a.1).0 ≡ max (max (depth_of_expression e) (depth_of_term a.0)) (sums_parens ss) =
      sums_depth ss (more e o (placed.at ts) a.0) a.1 in
      let e₂ : depth_of_term a.0 ≡ term_parens t = term_depth t (past ts) in
      omega arith

  term_depth : (t : parse.Term) (ts : List Token) → depth_of_term (term_at t ts).0 ≡ term_parens t
  term_depth (term f ps) ts =
      let e₁ : depth_of_term (products_at ps (one (factor_at f ts).0) (factor_at f ts).1).0 ≡ max (depth_of_factor (factor_at f ts).0) (products_parens ps) =
      products_depth ps (one (factor_at f ts).0) (factor_at f ts).1 in
      let e₂ : depth_of_factor (factor_at f ts).0 ≡ factor_parens f = factor_depth f ts in
      omega arith

  products_depth : (ps : Products) (t : Term Name) (ts : List Token) → depth_of_term (products_at ps t ts).0 ≡ max (depth_of_term t) (products_parens ps)
  products_depth single t ts = omega arith
  products_depth (by o f ps) t ts =
      let e₁ : depth_of_term (products_at ps (times t o (placed.at ts) (factor_at f (past ts)).0) (factor_at f (past ts)).1).0
      ≡ max (max (depth_of_term t) (depth_of_factor (factor_at f (past ts)).0)) (products_parens ps) =
      products_depth ps (times t o (placed.at ts) (factor_at f (past ts)).0) (factor_at f (past ts)).1 in
      let e₂ : depth_of_factor (factor_at f (past ts)).0 ≡ factor_parens f = factor_depth f (past ts) in
      omega arith

  factor_depth : (f : parse.Factor) (ts : List Token) → depth_of_factor (factor_at f ts).0 ≡ factor_parens f
  factor_depth (variable i) ts = refl
  factor_depth (literal v) ts = refl
  factor_depth (paren e) ts = ap suc (expression_depth e (past ts))

condition_depth : (c : parse.Condition) (ts : List Token) → depth_of_condition (condition_at c ts).0 ≡ condition_parens c
condition_depth (test l o r) ts =
    let left : Expression Name × List Token = expression_at l (past ts) in
    omega (arith, expression_depth l (past ts), expression_depth r (past left.1))

mutual
  statement_depth_lem : (s : parse.Statement) (ts : List Token) → depth_of_statement (statement_at s ts).0 ≡ statement_parens s
  statement_depth_lem (assign i e) ts = expression_depth e (past (past ts))
  statement_depth_lem (scan i) ts = refl
  statement_depth_lem (print i) ts = refl
  statement_depth_lem (when c b) ts = omega (arith, condition_depth c (past ts), statement_depth_lem b (condition_at c (past ts)).1)
  statement_depth_lem (either c b e) ts =
      let after : List Token = (condition_at c (past ts)).1 in
      omega (arith, condition_depth c (past ts), statement_depth_lem b after, statement_depth_lem e (past (statement_at b after).1))
  statement_depth_lem (loop c b) ts = omega (arith, condition_depth c (past ts), statement_depth_lem b (condition_at c (past ts)).1)
  statement_depth_lem (block b ss) ts = omega (arith, statement_depth_lem b (past ts), statements_depth_lem ss (statement_at b (past ts)).1)

  statements_depth_lem : (ss : parse.Statements) (ts : List Token) → depth_of_statements (statements_at ss ts).0 ≡ statements_parens ss
  statements_depth_lem none ts = refl
  statements_depth_lem (then b ss) ts = omega (arith, statement_depth_lem b ts, statements_depth_lem ss (statement_at b ts).1)

tree_shallow : (t : ProgramTree) (ts : List Token) → Within 32 32 t → depth_of_statements (program_at t ts).statements ≤ 32
tree_shallow (program d ss) ts h =
    let begin : List Token = (declaration_at d (past (past (past (past (past (past ts))))))).1 in
    let e : depth_of_statements (statements_at ss begin).0 ≡ statements_parens ss = statements_depth_lem ss begin in
    omega (arith, h.0)

pub shallow : Shallow
shallow source t p h =
    subst (λ (q : Program Name). depth_of_statements q.statements ≤ 32) (sym h.placed) (tree_shallow t _ h.within)

nearest : (t : ProgramTree) → Within 32 32 t → Nearest t
nearest (program d ss) h = h.2

pub one_program : OneProgram
one_program source t u p q h k =
    h.placed
    ∙ ap (λ (w : ProgramTree). program_of w source) (unique t u (nearest t h.within) (nearest u k.within) (h.spelled ∙ sym k.spelled))
    ∙ sym k.placed
