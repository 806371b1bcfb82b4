-- The code of a program keeps to its cells and addresses.
use Rattle.std.proofs.Common.{◌≡◌, ℕ, suc, ◌≤◌, List, [], ◌∷◌, ◌++◌, length, get_or, sym, ◌∙◌, subst, arith}
use Rattle.std.specs.List.{AllByRecursion}
use Rattle.std.proofs.ByRecursion.{All-append, All-from_get_or}
use Rattle.syntax.specs.declared.token.Relation.{Relation}
use Rattle.syntax.specs.declared.token.Relation.TheVariants.{Equal, Unequal, Less, Greater, AtMost, AtLeast}
use Rattle.syntax.specs.declared.token.Additive.{Additive}
use Rattle.syntax.specs.declared.token.Additive.TheVariants.{Plus, Minus}
use Rattle.syntax.specs.declared.token.Multiplicative.{Multiplicative}
use Rattle.syntax.specs.declared.token.Multiplicative.TheVariants.{Times, Divide, Modulo}
use Rattle.syntax.specs.Tokens.{Name}
use Rattle.syntax.specs.Trees.{Expression, first, minus, more, Term, one, times, Factor, name, number, paren, Condition, test, Statement, assign, scan, print, when, either, while, block, Statements, none, then}
use Rattle.code.specs.declared.Instruction.{Instruction}
use Rattle.translator.specs.Cells.{cells_of_expression, cells_of_term, cells_of_factor, cells_of_condition, cells_of_statement, cells_of_statements}
use Rattle.translator.specs.Linear.{Code, past, code_of_sum, code_of_product, code_of_relation, code_of_expression, code_of_term, code_of_factor, code_of_condition, code_of_statement, code_of_statements, linear_code}
use Rattle.translator.specs.Published.{mksymtab, trans, linearise}
use Rattle.names.specs.Uses.{uses_in_expression, uses_in_term, uses_in_factor, uses_in_condition, uses_in_statement, uses_in_statements}
use Rattle.translator.proofs.Looked.{declared_cell, symbols_below}
use Rattle.translator.specs.Bounds.{Cell, Within, StaysInside}
use Rattle.translator.proofs.Patched.{past_is, past-++}
use Rattle.translator.proofs.Labels.{linearised}

all_left : {X : Type 0} (P : X → Type 0) (xs ys : List X) → AllByRecursion P (xs ++ ys) → AllByRecursion P xs
all_left P [] ys h = tt
all_left P (x ∷ xs) ys h = (h.0, all_left P xs ys h.1)

all_right : {X : Type 0} (P : X → Type 0) (xs ys : List X) → AllByRecursion P (xs ++ ys) → AllByRecursion P ys
all_right P [] ys h = h
all_right P (x ∷ xs) ys h = all_right P xs ys h.1

abbrev Cells : List (ℕ × ℕ) → Type 0
Cells xs = AllByRecursion (λ x. Cell x.0) xs

module _ (low high : ℕ) where
  abbrev Inside : Code → Type 0
  Inside c = AllByRecursion (λ x. Within low high x.0) c

  sum_inside : (o : Additive) → Within low high (code_of_sum o)
  sum_inside Plus = tt
  sum_inside Minus = tt

  product_inside : (o : Multiplicative) → Within low high (code_of_product o)
  product_inside Times = tt
  product_inside Divide = tt
  product_inside Modulo = tt

  relation_inside : (r : Relation) → Within low high (code_of_relation r)
  relation_inside Equal = tt
  relation_inside Unequal = tt
  relation_inside Less = tt
  relation_inside Greater = tt
  relation_inside AtMost = tt
  relation_inside AtLeast = tt

  join : (xs ys : Code) → Inside xs → Inside ys → Inside (xs ++ ys)
  join xs ys h k = All-append (λ x. Within low high x.0) xs ys h k

  -- two operands and their operator
  both : (xs ys : Code) (i : Instruction) (p : ℕ) → Inside xs → Inside ys → Within low high i → Inside (xs ++ (ys ++ ((i, p) ∷ [])))
  both xs ys i p h k w = join xs (ys ++ ((i, p) ∷ [])) h (join ys ((i, p) ∷ []) k (w, tt))

  mutual
    expression_inside : (e : Expression ℕ) → Cells (uses_in_expression e) → Inside (code_of_expression e)
    expression_inside (first t) h = term_inside t h
    expression_inside (minus p t) h = join (code_of_term t) _ (term_inside t h) (tt, (tt, tt))
    expression_inside (more e o p t) h =
        both (code_of_expression e) (code_of_term t) (code_of_sum o) p
        (expression_inside e (all_left _ (uses_in_expression e) (uses_in_term t) h)) (term_inside t (all_right _ (uses_in_expression e) (uses_in_term t) h)) (sum_inside o)

    term_inside : (t : Term ℕ) → Cells (uses_in_term t) → Inside (code_of_term t)
    term_inside (one f) h = factor_inside f h
    term_inside (times t o p f) h =
        both (code_of_term t) (code_of_factor f) (code_of_product o) p
        (term_inside t (all_left _ (uses_in_term t) (uses_in_factor f) h)) (factor_inside f (all_right _ (uses_in_term t) (uses_in_factor f) h)) (product_inside o)

    factor_inside : (f : Factor ℕ) → Cells (uses_in_factor f) → Inside (code_of_factor f)
    factor_inside (name n p) h = h
    factor_inside (number z p) h = (tt, tt)
    factor_inside (paren e) h = expression_inside e h

  condition_inside : (c : Condition ℕ) → Cells (uses_in_condition c) → Inside (code_of_condition c)
  condition_inside (test l r p e) h =
      both (code_of_expression l) (code_of_expression e) (code_of_relation r) p
      (expression_inside l (all_left _ (uses_in_expression l) (uses_in_expression e) h)) (expression_inside e (all_right _ (uses_in_expression l) (uses_in_expression e) h)) (relation_inside r)

  mutual
    statement_inside : (s : Statement ℕ) (a : ℕ) → low ≤ a → past a (code_of_statement s a) ≤ high → Cells (uses_in_statement s) → Inside (code_of_statement s a)
    statement_inside (assign n p e) a l g h = join (code_of_expression e) _ (expression_inside e h.1) (h.0, tt)
    statement_inside (scan n p) a l g h = h
    statement_inside (print n p) a l g h = h
    statement_inside (when p c s) a l g h =
        let cc : Code = code_of_condition c in
        let a₁ : ℕ = suc (past a cc) in
        let body : Code = code_of_statement s a₁ in
        let e : past a (code_of_statement (when p c s) a) ≡ past a₁ body = past-++ a cc _ in
        let u : low ≤ a₁ = omega (arith, past_is a cc) in
        let v : low ≤ past a₁ body = omega (arith, past_is a₁ body) in
        let w : past a₁ body ≤ high = omega (arith, e) in
        join cc _ (condition_inside c (all_left _ (uses_in_condition c) (uses_in_statement s) h))
        ((v, w), statement_inside s a₁ u w (all_right _ (uses_in_condition c) (uses_in_statement s) h))
    statement_inside (either p c s q s') a l g h =
        let cc : Code = code_of_condition c in
        let a₁ : ℕ = suc (past a cc) in
        let taken : Code = code_of_statement s a₁ in
        let a₂ : ℕ = suc (past a₁ taken) in
        let other : Code = code_of_statement s' a₂ in
        let e : past a (code_of_statement (either p c s q s') a) ≡ past a₂ other = past-++ a cc _ ∙ past-++ a₁ taken _ in
        let u : low ≤ a₁ = omega (arith, past_is a cc) in
        let u₂ : low ≤ a₂ = omega (arith, past_is a₁ taken) in
        let w : past a₂ other ≤ high = omega (arith, e) in
        let v : low ≤ past a₂ other = omega (arith, past_is a₂ other) in
        let w₂ : a₂ ≤ high = omega (arith, past_is a₂ other) in
        let w₁ : past a₁ taken ≤ high = omega arith in
        let k : Cells (uses_in_statement s ++ uses_in_statement s') = all_right _ (uses_in_condition c) _ h in
        join cc _ (condition_inside c (all_left _ (uses_in_condition c) _ h)) (
          (u₂, w₂),
          join taken _ (statement_inside s a₁ u w₁ (all_left _ (uses_in_statement s) _ k))
              ((v, w), statement_inside s' a₂ u₂ w (all_right _ (uses_in_statement s) _ k)),
        )
    statement_inside (while p c s) a l g h =
        let cc : Code = code_of_condition c in
        let a₁ : ℕ = suc (past a cc) in
        let body : Code = code_of_statement s a₁ in
        let e : past a (code_of_statement (while p c s) a) ≡ suc (past a₁ body) = past-++ a cc _ ∙ past-++ a₁ body _ in
        let u : low ≤ a₁ = omega (arith, past_is a cc) in
        let w : suc (past a₁ body) ≤ high = omega (arith, e) in
        let w₁ : past a₁ body ≤ high = omega arith in
        let v : low ≤ suc (past a₁ body) = omega (arith, past_is a₁ body) in
        let x : a ≤ high = omega (arith, past_is a₁ body, past_is a cc) in
        join cc _ (condition_inside c (all_left _ (uses_in_condition c) (uses_in_statement s) h))
        ((v, w), join body _ (statement_inside s a₁ u w₁ (all_right _ (uses_in_condition c) (uses_in_statement s) h)) ((l, x), tt))
    statement_inside (block ss) a l g h = statements_inside ss a l g h

    statements_inside : (ss : Statements ℕ) (a : ℕ) → low ≤ a → past a (code_of_statements ss a) ≤ high → Cells (uses_in_statements ss) → Inside (code_of_statements ss a)
    statements_inside none a l g h = tt
    statements_inside (then s ss) a l g h =
        let xs : Code = code_of_statement s a in
        let b : ℕ = past a xs in
        let e : past a (code_of_statements (then s ss) a) ≡ past b (code_of_statements ss b) = past-++ a xs _ in
        let w : past b (code_of_statements ss b) ≤ high = omega (arith, e) in
        let u : low ≤ b = omega (arith, past_is a xs) in
        let v : b ≤ high = omega (arith, past_is b (code_of_statements ss b)) in
        join xs _ (statement_inside s a l v (all_left _ (uses_in_statement s) (uses_in_statements ss) h)) (statements_inside ss b u w (all_right _ (uses_in_statement s) (uses_in_statements ss) h))

-- the uses of a tree with cells for names
module _ (tab : Name → ℕ) (P : ℕ → Type 0) where
  abbrev Used : List (Name × ℕ) → Type 0
  Used xs = AllByRecursion (λ x. P (tab x.0)) xs

  abbrev Celled : List (ℕ × ℕ) → Type 0
  Celled xs = AllByRecursion (λ x. P x.0) xs

  split : (xs ys : List (Name × ℕ)) (xs' ys' : List (ℕ × ℕ)) → (Used xs → Celled xs') → (Used ys → Celled ys') → Used (xs ++ ys) → Celled (xs' ++ ys')
  split xs ys xs' ys' f g h = All-append (λ x. P x.0) xs' ys' (f (all_left _ xs ys h)) (g (all_right _ xs ys h))

  mutual
    expression_cells : (e : Expression Name) → Used (uses_in_expression e) → Celled (uses_in_expression (cells_of_expression tab e))
    expression_cells (first t) h = term_cells t h
    expression_cells (minus p t) h = term_cells t h
    expression_cells (more e o p t) h = split (uses_in_expression e) (uses_in_term t) _ _ (expression_cells e) (term_cells t) h

    term_cells : (t : Term Name) → Used (uses_in_term t) → Celled (uses_in_term (cells_of_term tab t))
    term_cells (one f) h = factor_cells f h
    term_cells (times t o p f) h = split (uses_in_term t) (uses_in_factor f) _ _ (term_cells t) (factor_cells f) h

    factor_cells : (f : Factor Name) → Used (uses_in_factor f) → Celled (uses_in_factor (cells_of_factor tab f))
    factor_cells (name x p) h = h
    factor_cells (number z p) h = tt
    factor_cells (paren e) h = expression_cells e h

  condition_cells : (c : Condition Name) → Used (uses_in_condition c) → Celled (uses_in_condition (cells_of_condition tab c))
  condition_cells (test l r p e) h = split (uses_in_expression l) (uses_in_expression e) _ _ (expression_cells l) (expression_cells e) h

  mutual
    statement_cells : (s : Statement Name) → Used (uses_in_statement s) → Celled (uses_in_statement (cells_of_statement tab s))
    statement_cells (assign x p e) h = (h.0, expression_cells e h.1)
    statement_cells (scan x p) h = h
    statement_cells (print x p) h = h
    statement_cells (when p c s) h = split (uses_in_condition c) (uses_in_statement s) _ _ (condition_cells c) (statement_cells s) h
    statement_cells (either p c s q s') h =
        split (uses_in_condition c) (uses_in_statement s ++ uses_in_statement s') _ _ (condition_cells c)
        (λ k. split (uses_in_statement s) (uses_in_statement s') _ _ (statement_cells s) (statement_cells s') k) h
    statement_cells (while p c s) h = split (uses_in_condition c) (uses_in_statement s) _ _ (condition_cells c) (statement_cells s) h
    statement_cells (block ss) h = statements_cells ss h

    statements_cells : (ss : Statements Name) → Used (uses_in_statements ss) → Celled (uses_in_statements (cells_of_statements tab ss))
    statements_cells none h = tt
    statements_cells (then s ss) h = split (uses_in_statement s) (uses_in_statements ss) _ _ (statement_cells s) (statements_cells ss) h

pub stays_inside : StaysInside
stays_inside p named =
    let tab : Name → ℕ = mksymtab p.declared in
    let code : Code = linear_code (cells_of_statements tab p.statements) in
    let e : linearise (trans p) ≡ code = linearised tab p.statements in
    let few : length p.declared ≤ 64 = named.declaration.few in
    let cells : AllByRecursion (λ x. Cell (tab x.0)) (uses_in_statements p.statements) =
    All-from_get_or (λ x. Cell (tab x.0)) (uses_in_statements p.statements) ([], 0)
    (λ j h. let x : Name = (get_or (uses_in_statements p.statements) j ([], 0)).0 in (declared_cell 0 p.declared x (named.used j h), omega (arith, symbols_below 0 p.declared x))) in
    subst (λ (c : Code). AllByRecursion (λ x. Within 1 (suc (length c)) x.0) c) (sym e)
    (statements_inside 1 (suc (length code)) (cells_of_statements tab p.statements) 1 (omega arith) (omega (arith, past_is 1 code)) (statements_cells tab Cell p.statements cells))
