-- Expressions and conditions: their code leaves their value on the stack.
use Rattle.std.proofs.Common.{◌≡◌, ℕ, suc, ◌+◌, ◌-◌, ◌≤◌, max, Bool, true, cond, ltb, List, [], ◌∷◌, ◌++◌, length, get_or, ℤ, pos, negsuc, None, sym, ap, ◌∙◌, arith, lt→ltb}
use Rattle.syntax.specs.declared.token.Multiplicative.TheVariants.{Times}
use Rattle.syntax.specs.Trees.{Expression, first, minus, more, Term, one, times, Factor, name, number, paren, Condition, test}
use Rattle.code.specs.declared.Instruction.{Instruction}
use Rattle.code.specs.declared.Instruction.TheVariants.{Load, Literal, Multiply}
use Rattle.code.specs.World.{World, plain, ArithmeticUnit}
use Rattle.code.specs.Machine.{Step, faulted, with_space, execute}
use Rattle.translator.specs.Cells.{cells_of_expression, cells_of_term, cells_of_factor, cells_of_condition}
use Rattle.translator.specs.Linear.{Code, past, code_of_sum, code_of_product, code_of_relation, code_of_expression, code_of_term, code_of_factor, code_of_condition}
use Rattle.meaning.specs.Meaning.{State, Meaning, Act, act, exact, value_of_name, sum, product, compared, bind, meaning_of_expression, meaning_of_term, meaning_of_factor, meaning_of_condition}
use Rattle.meaning.proofs.Booleans.{is_true}
use Rattle.meaning.proofs.Results.{settle}
use Rattle.meaning.proofs.StackNeeds.{need_of_expression, need_of_term, need_of_factor, need_of_condition}
use Rattle.meaning.proofs.Finals.{step_of}
use Rattle.meaning.proofs.Acts.{truth, push_is, load_is, sum_is, product_is, relation_is}
use Rattle.meaning.proofs.Follow.{follow, follow_bind, follow_same, At, at_left, at_right, past-++, R, act_run}

has_space : (st : List ℤ) → length st + 1 ≤ 68 → ltb (length st) 68 ≡ true
has_space st h = is_true (ltb (length st) 68) (lt→ltb (length st) 68 (omega arith))

module _ (U : ArithmeticUnit) (code : Code) where
  -- the code xs does what m means, with `need` more stack words, and leaves its value on the stack
  abbrev pub Runs : {A : Type 0} → (A → ℤ) → Code → Meaning A → ℕ → Type 0
  Runs {A} show xs m need = (a : ℕ) → At code a xs → (st : List ℤ) → length st + need ≤ 68 → (s : State) →
      R U code s.left a st s.world ≡ follow (m s) (λ v s'. R U code s'.left (past a xs) (show v ∷ st) s'.world)

  -- an instruction that pushes one word
  push_runs : (i : Instruction) (p : ℕ) (f : World → Act ℤ) →
      ((a : ℕ) (st : List ℤ) (w : World) → execute U i a st w ≡ with_space st w (step_of (λ v. suc a) (λ v. v ∷ st) (settle U (f w)))) →
      Runs (λ v. v) ((i, p) ∷ []) (act U p f) 1
  push_runs i p f e a h st fits s =
      act_run U code i p a st f (λ v. suc a) (λ v. v ∷ st) h.0
      (λ w. e a st w
      ∙ ap (λ (b : Bool). cond b (step_of (λ v. suc a) (λ v. v ∷ st) (settle U (f w))) (faulted (plain 26) w)) (has_space st fits)) s

  literal_runs : (z : ℤ) (p : ℕ) → Runs (λ v. v) ((Literal z, p) ∷ []) (act U p (exact z)) 1
  literal_runs z p = push_runs (Literal z) p (exact z) (λ a st w. ap (λ (x : Step). with_space st w x) (push_is a st w (U.narrow z)))

  -- two operands and an instruction that joins them
  operands_run : {A : Type 0} (show : A → ℤ) (xs ys : Code) (m₁ m₂ : Meaning ℤ) (n₁ n₂ : ℕ) (i : Instruction) (p : ℕ) (g : ℤ → ℤ → World → Act A) →
      ((a : ℕ) (x y : ℤ) (st : List ℤ) (w : World) → execute U i a (y ∷ x ∷ st) w ≡ step_of (λ v. suc a) (λ v. show v ∷ st) (settle U (g x y w))) →
      Runs (λ v. v) xs m₁ n₁ → Runs (λ v. v) ys m₂ n₂ →
      Runs show (xs ++ (ys ++ ((i, p) ∷ []))) (λ s. bind (m₁ s) (λ x s₁. bind (m₂ s₁) (λ y s₂. act U p (g x y) s₂))) (max n₁ (suc n₂))
  operands_run show xs ys m₁ m₂ n₁ n₂ i p g e S₁ S₂ a h st fits s =
      let joins : Code = (i, p) ∷ [] in
      let a₁ : ℕ = past a xs in
      let a₂ : ℕ = past a₁ ys in
      let h₁ : At code a xs = at_left code xs (ys ++ joins) a h in
      let h₂ : At code a₁ (ys ++ joins) = at_right code xs (ys ++ joins) a h in
      let h₃ : At code a₂ joins = at_right code ys joins a₁ h₂ in
      let end : suc a₂ ≡ past a (xs ++ (ys ++ joins)) = sym (past-++ a xs (ys ++ joins) ∙ past-++ a₁ ys joins) in
      S₁ a h₁ st (omega arith) s
      ∙ follow_same (m₁ s) _ _ (λ x s₁.
      S₂ a₁ (at_left code ys joins a₁ h₂) (x ∷ st) (omega arith) s₁
      ∙ follow_same (m₂ s₁) _ _ (λ y s₂.
      act_run U code i p a₂ (y ∷ x ∷ st) (g x y) (λ v. suc a₂) (λ v. show v ∷ st) h₃.0 (λ w. e a₂ x y st w) s₂
      ∙ ap (λ (q : ℕ). follow (act U p (g x y) s₂) (λ v s'. R U code s'.left q (show v ∷ st) s'.world)) end)
      ∙ sym (follow_bind (m₂ s₁) (λ y s₂. act U p (g x y) s₂) _))
      ∙ sym (follow_bind (m₁ s) (λ x s₁. bind (m₂ s₁) (λ y s₂. act U p (g x y) s₂)) _)

  module _ {N : Type 0} (cell : N → ℕ) where
    mutual
      pub expression_runs : (e : Expression N) → Runs (λ v. v) (code_of_expression (cells_of_expression cell e)) (meaning_of_expression cell U e) (need_of_expression e)
      expression_runs (first t) = term_runs t
      expression_runs (minus p t) =
          operands_run (λ v. v) (code_of_term (cells_of_term cell t)) ((Literal (negsuc 0), p) ∷ []) (meaning_of_term cell U t) (act U p (exact (negsuc 0))) (need_of_term t) 1
          Multiply p (product Times) (product_is U Times) (term_runs t) (literal_runs (negsuc 0) p)
      expression_runs (more e o p t) =
          operands_run (λ v. v) (code_of_expression (cells_of_expression cell e)) (code_of_term (cells_of_term cell t)) (meaning_of_expression cell U e) (meaning_of_term cell U t) (need_of_expression e) (need_of_term t)
          (code_of_sum o) p (sum o) (sum_is U o) (expression_runs e) (term_runs t)

      term_runs : (t : Term N) → Runs (λ v. v) (code_of_term (cells_of_term cell t)) (meaning_of_term cell U t) (need_of_term t)
      term_runs (one f) = factor_runs f
      term_runs (times t o p f) =
          operands_run (λ v. v) (code_of_term (cells_of_term cell t)) (code_of_factor (cells_of_factor cell f)) (meaning_of_term cell U t) (meaning_of_factor cell U f) (need_of_term t) (need_of_factor f)
          (code_of_product o) p (product o) (product_is U o) (term_runs t) (factor_runs f)

      factor_runs : (f : Factor N) → Runs (λ v. v) (code_of_factor (cells_of_factor cell f)) (meaning_of_factor cell U f) (need_of_factor f)
      factor_runs (name x p) =
          push_runs (Load (cell x)) p (value_of_name (cell x)) (λ a st w. ap (λ (x : Step). with_space st w x) (load_is U a st w (get_or w.cells (cell x - 1) None)))
      factor_runs (number z p) = literal_runs (pos z) p
      factor_runs (paren e) = expression_runs e

    pub condition_runs : (c : Condition N) → Runs truth (code_of_condition (cells_of_condition cell c)) (meaning_of_condition cell U c) (need_of_condition c)
    condition_runs (test l r p e) =
        operands_run truth (code_of_expression (cells_of_expression cell l)) (code_of_expression (cells_of_expression cell e)) (meaning_of_expression cell U l) (meaning_of_expression cell U e) (need_of_expression l) (need_of_expression e)
        (code_of_relation r) p (compared r) (relation_is U r) (expression_runs l) (expression_runs e)
