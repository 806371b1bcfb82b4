-- The published lines, for a tree with cells for names, by its linear code.
use Rattle.std.proofs.Common.{◌≡◌, ℕ, suc, List, [], ◌∷◌, ◌++◌, negsuc, sym, refl, ap, ◌∙◌, ap₂}
use Rattle.syntax.specs.declared.token.Relation.{Relation}
use Rattle.syntax.specs.declared.token.Relation.TheVariants.{Equal, Unequal, Less, Greater, AtMost, AtLeast}
use Rattle.syntax.specs.declared.token.Additive.{Additive}
use Rattle.syntax.specs.declared.token.Additive.TheVariants.{Plus, Minus}
use Rattle.syntax.specs.declared.token.Multiplicative.{Multiplicative}
use Rattle.syntax.specs.declared.token.Multiplicative.TheVariants.{Times, Divide, Modulo}
use Rattle.syntax.specs.Trees.{Expression, first, minus, more, Term, one, times, Factor, name, number, paren, Condition, test, Statement, assign, scan, print, when, either, while, block, Statements, none, then}
use Rattle.translator.specs.Cells.{cells_of_expression, cells_of_term, cells_of_factor, cells_of_condition, cells_of_statement, cells_of_statements}
use Rattle.code.specs.declared.Instruction.{Instruction}
use Rattle.code.specs.declared.Instruction.TheVariants.{Read, Write, Store, Literal, Multiply}
use Rattle.translator.specs.Linear.{Code, code_of_sum, code_of_product, code_of_relation, code_of_expression, code_of_term, code_of_factor, code_of_condition}
use Rattle.translator.specs.Published.{Label, Line, label, plain, jump, jump_if_zero, below, sumtrans, producttrans, reltrans, simpleexptrans, termtrans, factortrans, boolexptrans, sttrans, stseqtrans}

abbrev pub plain_lines : Code → List Line
plain_lines [] = []
plain_lines (x ∷ xs) = plain x.0 x.1 ∷ plain_lines xs

abbrev mutual
  pub lines_of_statement : Statement ℕ → Label → List Line
  lines_of_statement (assign n p e) a = plain_lines (code_of_expression e ++ ((Store n, p) ∷ []))
  lines_of_statement (scan n p) a = plain (Read n) p ∷ []
  lines_of_statement (print n p) a = plain (Write n) p ∷ []
  lines_of_statement (when p c s) a = plain_lines (code_of_condition c) ++ (jump_if_zero a p ∷ (lines_of_statement s (below a 1) ++ (label a ∷ [])))
  lines_of_statement (either p c s q s') a =
      plain_lines (code_of_condition c) ++ (jump_if_zero a p ∷ (lines_of_statement s (below a 1) ++ (jump (below a 3) q ∷ label a ∷ (lines_of_statement s' (below a 2) ++ (label (below a 3) ∷ [])))))
  lines_of_statement (while p c s) a =
      label (below a 2) ∷ (plain_lines (code_of_condition c) ++ (jump_if_zero a p ∷ (lines_of_statement s (below a 1) ++ (jump (below a 2) p ∷ label a ∷ []))))
  lines_of_statement (block ss) a = lines_of_statements ss a 1

  pub lines_of_statements : Statements ℕ → Label → ℕ → List Line
  lines_of_statements none a k = []
  lines_of_statements (then s ss) a k = lines_of_statement s (below a k) ++ lines_of_statements ss a (suc k)

plain_lines-++ : (xs ys : Code) → plain_lines (xs ++ ys) ≡ plain_lines xs ++ plain_lines ys
plain_lines-++ [] ys = refl
plain_lines-++ (x ∷ xs) ys = ap (λ (r : List Line). plain x.0 x.1 ∷ r) (plain_lines-++ xs ys)

sum_same : (o : Additive) → sumtrans o ≡ code_of_sum o
sum_same Plus = refl
sum_same Minus = refl

product_same : (o : Multiplicative) → producttrans o ≡ code_of_product o
product_same Times = refl
product_same Divide = refl
product_same Modulo = refl

relation_same : (r : Relation) → reltrans r ≡ code_of_relation r
relation_same Equal = refl
relation_same Unequal = refl
relation_same Less = refl
relation_same Greater = refl
relation_same AtMost = refl
relation_same AtLeast = refl

-- two operands and an instruction
join : (xs ys : List Line) (c d : Code) (i j : Instruction) (p : ℕ) → xs ≡ plain_lines c → ys ≡ plain_lines d → i ≡ j →
    xs ++ (ys ++ (plain i p ∷ [])) ≡ plain_lines (c ++ (d ++ ((j, p) ∷ [])))
join xs ys c d i j p e f g =
    ap₂ (λ (x y : List Line). x ++ (y ++ (plain i p ∷ []))) e f
    ∙ ap (λ (k : Instruction). plain_lines c ++ (plain_lines d ++ (plain k p ∷ []))) g
    ∙ ap (λ (r : List Line). plain_lines c ++ r) (sym (plain_lines-++ d ((j, p) ∷ [])))
    ∙ sym (plain_lines-++ c (d ++ ((j, p) ∷ [])))

-- one operand and some instructions
after : (xs : List Line) (c d : Code) → xs ≡ plain_lines c → xs ++ plain_lines d ≡ plain_lines (c ++ d)
after xs c d e = ap (λ (x : List Line). x ++ plain_lines d) e ∙ sym (plain_lines-++ c d)

module _ {N : Type 0} (tab : N → ℕ) where
  mutual
    lines_expression : (e : Expression N) → simpleexptrans tab e ≡ plain_lines (code_of_expression (cells_of_expression tab e))
    lines_expression (first t) = lines_term t
    lines_expression (minus p t) = after (termtrans tab t) (code_of_term (cells_of_term tab t)) ((Literal (negsuc 0), p) ∷ (Multiply, p) ∷ []) (lines_term t)
    lines_expression (more e o p t) = join (simpleexptrans tab e) (termtrans tab t) (code_of_expression (cells_of_expression tab e)) (code_of_term (cells_of_term tab t)) (sumtrans o) (code_of_sum o) p (lines_expression e) (lines_term t) (sum_same o)

    lines_term : (t : Term N) → termtrans tab t ≡ plain_lines (code_of_term (cells_of_term tab t))
    lines_term (one f) = lines_factor f
    lines_term (times t o p f) = join (termtrans tab t) (factortrans tab f) (code_of_term (cells_of_term tab t)) (code_of_factor (cells_of_factor tab f)) (producttrans o) (code_of_product o) p (lines_term t) (lines_factor f) (product_same o)

    lines_factor : (f : Factor N) → factortrans tab f ≡ plain_lines (code_of_factor (cells_of_factor tab f))
    lines_factor (name x p) = refl
    lines_factor (number z p) = refl
    lines_factor (paren e) = lines_expression e

  lines_condition : (c : Condition N) → boolexptrans tab c ≡ plain_lines (code_of_condition (cells_of_condition tab c))
  lines_condition (test l r p e) = join (simpleexptrans tab l) (simpleexptrans tab e) (code_of_expression (cells_of_expression tab l)) (code_of_expression (cells_of_expression tab e)) (reltrans r) (code_of_relation r) p (lines_expression l) (lines_expression e) (relation_same r)

  mutual
    pub lines_statement : (s : Statement N) (a : Label) → sttrans tab s a ≡ lines_of_statement (cells_of_statement tab s) a
    lines_statement (assign x p e) a = after (simpleexptrans tab e) (code_of_expression (cells_of_expression tab e)) ((Store (tab x), p) ∷ []) (lines_expression e)
    lines_statement (scan x p) a = refl
    lines_statement (print x p) a = refl
    lines_statement (when p c s) a =
        ap₂ (λ (x y : List Line). x ++ (jump_if_zero a p ∷ (y ++ (label a ∷ [])))) (lines_condition c) (lines_statement s (below a 1))
    lines_statement (either p c s q s') a =
        ap₂ (λ (x y : List Line). x ++ (jump_if_zero a p ∷ (y ++ (jump (below a 3) q ∷ label a ∷ (sttrans tab s' (below a 2) ++ (label (below a 3) ∷ [])))))) (lines_condition c) (lines_statement s (below a 1))
        ∙ ap (λ (z : List Line). plain_lines (code_of_condition (cells_of_condition tab c)) ++ (jump_if_zero a p ∷ (lines_of_statement (cells_of_statement tab s) (below a 1) ++ (jump (below a 3) q ∷ label a ∷ (z ++ (label (below a 3) ∷ [])))))) (lines_statement s' (below a 2))
    lines_statement (while p c s) a =
        ap₂ (λ (x y : List Line). label (below a 2) ∷ (x ++ (jump_if_zero a p ∷ (y ++ (jump (below a 2) p ∷ label a ∷ []))))) (lines_condition c) (lines_statement s (below a 1))
    lines_statement (block ss) a = lines_statements ss a 1

    pub lines_statements : (ss : Statements N) (a : Label) (k : ℕ) → stseqtrans tab ss a k ≡ lines_of_statements (cells_of_statements tab ss) a k
    lines_statements none a k = refl
    lines_statements (then s ss) a k = ap₂ (λ (x y : List Line). x ++ y) (lines_statement s (below a k)) (lines_statements ss a (suc k))
