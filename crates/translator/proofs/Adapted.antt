-- Where the table has each label's number, patching gives the linear code.
use Rattle.std.proofs.Common.{◌≡◌, ℕ, suc, List, [], ◌∷◌, ◌++◌, refl, ap, ◌∙◌, subst, ap₂}
use Rattle.std.proofs.lemmas.List.{append-nil}
use Rattle.syntax.specs.Trees.{Condition, Statement, assign, scan, print, when, either, while, block, Statements, none, then}
use Rattle.code.specs.declared.Instruction.TheVariants.{Store, Jump, JumpIfZero}
use Rattle.translator.specs.Linear.{Code, past, code_of_expression, code_of_condition, code_of_statement, code_of_statements}
use Rattle.translator.specs.Published.{Label, Line, label, plain, jump, jump_if_zero, below, Table, find, adapt}
use Rattle.translator.proofs.Lines.{plain_lines, lines_of_statement, lines_of_statements}

-- the number after some lines
abbrev pub ends : ℕ → List Line → ℕ
ends n [] = n
ends n (label l ∷ xs) = ends n xs
ends n (plain i p ∷ xs) = ends (suc n) xs
ends n (jump l p ∷ xs) = ends (suc n) xs
ends n (jump_if_zero l p ∷ xs) = ends (suc n) xs

-- the table tells where the labels stand
abbrev pub Agrees : Table → ℕ → List Line → Type 0
Agrees t n [] = Unit {0}
Agrees t n (label l ∷ xs) = (find l t ≡ n) × Agrees t n xs
Agrees t n (plain i p ∷ xs) = Agrees t (suc n) xs
Agrees t n (jump l p ∷ xs) = Agrees t (suc n) xs
Agrees t n (jump_if_zero l p ∷ xs) = Agrees t (suc n) xs

agrees_left : (t : Table) (n : ℕ) (xs ys : List Line) → Agrees t n (xs ++ ys) → Agrees t n xs
agrees_left t n [] ys h = tt
agrees_left t n (label l ∷ xs) ys h = (h.0, agrees_left t n xs ys h.1)
agrees_left t n (plain i p ∷ xs) ys h = agrees_left t (suc n) xs ys h
agrees_left t n (jump l p ∷ xs) ys h = agrees_left t (suc n) xs ys h
agrees_left t n (jump_if_zero l p ∷ xs) ys h = agrees_left t (suc n) xs ys h

agrees_right : (t : Table) (n : ℕ) (xs ys : List Line) → Agrees t n (xs ++ ys) → Agrees t (ends n xs) ys
agrees_right t n [] ys h = h
agrees_right t n (label l ∷ xs) ys h = agrees_right t n xs ys h.1
agrees_right t n (plain i p ∷ xs) ys h = agrees_right t (suc n) xs ys h
agrees_right t n (jump l p ∷ xs) ys h = agrees_right t (suc n) xs ys h
agrees_right t n (jump_if_zero l p ∷ xs) ys h = agrees_right t (suc n) xs ys h

adapt-++ : (t : Table) (xs ys : List Line) → adapt t (xs ++ ys) ≡ adapt t xs ++ adapt t ys
adapt-++ t [] ys = refl
adapt-++ t (label l ∷ xs) ys = adapt-++ t xs ys
adapt-++ t (plain i p ∷ xs) ys = ap (λ (r : Code). (i, p) ∷ r) (adapt-++ t xs ys)
adapt-++ t (jump l p ∷ xs) ys = ap (λ (r : Code). (Jump (find l t), p) ∷ r) (adapt-++ t xs ys)
adapt-++ t (jump_if_zero l p ∷ xs) ys = ap (λ (r : Code). (JumpIfZero (find l t), p) ∷ r) (adapt-++ t xs ys)

adapt_plain_lines : (t : Table) (c : Code) → adapt t (plain_lines c) ≡ c
adapt_plain_lines t [] = refl
adapt_plain_lines t (x ∷ c) = ap (λ (r : Code). x ∷ r) (adapt_plain_lines t c)

ends_is : (t : Table) (n : ℕ) (xs : List Line) → ends n xs ≡ past n (adapt t xs)
ends_is t n [] = refl
ends_is t n (label l ∷ xs) = ends_is t n xs
ends_is t n (plain i p ∷ xs) = ends_is t (suc n) xs
ends_is t n (jump l p ∷ xs) = ends_is t (suc n) xs
ends_is t n (jump_if_zero l p ∷ xs) = ends_is t (suc n) xs

module _ (t : Table) where
  -- a piece's lines stand for its code, so they end where it ends
  ends_at : (n : ℕ) (xs : List Line) (c : Code) → adapt t xs ≡ c → ends n xs ≡ past n c
  ends_at n xs c e = ends_is t n xs ∙ ap (λ (r : Code). past n r) e

  ends_plain_lines : (n : ℕ) (c : Code) → ends n (plain_lines c) ≡ past n c
  ends_plain_lines n c = ends_at n (plain_lines c) c (adapt_plain_lines t c)

  abbrev Adapted : Statement ℕ → Type 0
  Adapted s = (a : ℕ) (l : Label) → Agrees t a (lines_of_statement s l) → adapt t (lines_of_statement s l) ≡ code_of_statement s a

  adapt_when : (p : ℕ) (c : Condition ℕ) (s : Statement ℕ) → Adapted s → Adapted (when p c s)
  adapt_when p c s P a l h =
      let body : List Line = lines_of_statement s (below l 1) in
      let rest : List Line = jump_if_zero l p ∷ (body ++ (label l ∷ [])) in
      let a₁ : ℕ = suc (past a (code_of_condition c)) in
      let h₁ : Agrees t a₁ (body ++ (label l ∷ [])) =
      subst (λ (n : ℕ). Agrees t n rest) (ends_plain_lines a (code_of_condition c)) (agrees_right t a (plain_lines (code_of_condition c)) rest h) in
      let e : adapt t body ≡ code_of_statement s a₁ = P a₁ (below l 1) (agrees_left t a₁ body (label l ∷ []) h₁) in
      let f : find l t ≡ past a₁ (code_of_statement s a₁) = (agrees_right t a₁ body (label l ∷ []) h₁).0 ∙ ends_at a₁ body (code_of_statement s a₁) e in
      adapt-++ t (plain_lines (code_of_condition c)) rest
      ∙ ap₂ (λ (x y : Code). x ++ y) (adapt_plain_lines t (code_of_condition c))
      (ap₂ (λ (n : ℕ) (r : Code). (JumpIfZero n, p) ∷ r) f (adapt-++ t body (label l ∷ []) ∙ append-nil (adapt t body) ∙ e))

  adapt_either : (p : ℕ) (c : Condition ℕ) (s : Statement ℕ) (q : ℕ) (s' : Statement ℕ) → Adapted s → Adapted s' → Adapted (either p c s q s')
  adapt_either p c s q s' P P' a l h =
      let body : List Line = lines_of_statement s (below l 1) in
      let body' : List Line = lines_of_statement s' (below l 2) in
      let last : List Line = label (below l 3) ∷ [] in
      let rest₂ : List Line = jump (below l 3) q ∷ label l ∷ (body' ++ last) in
      let rest : List Line = jump_if_zero l p ∷ (body ++ rest₂) in
      let a₁ : ℕ = suc (past a (code_of_condition c)) in
      let a₂ : ℕ = suc (past a₁ (code_of_statement s a₁)) in
      let h₁ : Agrees t a₁ (body ++ rest₂) =
      subst (λ (n : ℕ). Agrees t n rest) (ends_plain_lines a (code_of_condition c)) (agrees_right t a (plain_lines (code_of_condition c)) rest h) in
      let e : adapt t body ≡ code_of_statement s a₁ = P a₁ (below l 1) (agrees_left t a₁ body rest₂ h₁) in
      let h₂ : Agrees t (past a₁ (code_of_statement s a₁)) rest₂ =
      subst (λ (n : ℕ). Agrees t n rest₂) (ends_at a₁ body (code_of_statement s a₁) e) (agrees_right t a₁ body rest₂ h₁) in
      let e' : adapt t body' ≡ code_of_statement s' a₂ = P' a₂ (below l 2) (agrees_left t a₂ body' last h₂.1) in
      let f' : find (below l 3) t ≡ past a₂ (code_of_statement s' a₂) = (agrees_right t a₂ body' last h₂.1).0 ∙ ends_at a₂ body' (code_of_statement s' a₂) e' in
      adapt-++ t (plain_lines (code_of_condition c)) rest
      ∙ ap₂ (λ (x y : Code). x ++ y) (adapt_plain_lines t (code_of_condition c))
      (ap₂ (λ (n : ℕ) (r : Code). (JumpIfZero n, p) ∷ r) h₂.0
      (adapt-++ t body rest₂ ∙ ap₂ (λ (x y : Code). x ++ y) e
      (ap₂ (λ (n : ℕ) (r : Code). (Jump n, q) ∷ r) f' (adapt-++ t body' last ∙ append-nil (adapt t body') ∙ e'))))

  adapt_while : (p : ℕ) (c : Condition ℕ) (s : Statement ℕ) → Adapted s → Adapted (while p c s)
  adapt_while p c s P a l h =
      let body : List Line = lines_of_statement s (below l 1) in
      let back : List Line = jump (below l 2) p ∷ label l ∷ [] in
      let rest : List Line = jump_if_zero l p ∷ (body ++ back) in
      let a₁ : ℕ = suc (past a (code_of_condition c)) in
      let h₁ : Agrees t a₁ (body ++ back) =
      subst (λ (n : ℕ). Agrees t n rest) (ends_plain_lines a (code_of_condition c)) (agrees_right t a (plain_lines (code_of_condition c)) rest h.1) in
      let e : adapt t body ≡ code_of_statement s a₁ = P a₁ (below l 1) (agrees_left t a₁ body back h₁) in
      let h₂ : Agrees t (past a₁ (code_of_statement s a₁)) back =
      subst (λ (n : ℕ). Agrees t n back) (ends_at a₁ body (code_of_statement s a₁) e) (agrees_right t a₁ body back h₁) in
      adapt-++ t (plain_lines (code_of_condition c)) rest
      ∙ ap₂ (λ (x y : Code). x ++ y) (adapt_plain_lines t (code_of_condition c))
      (ap₂ (λ (n : ℕ) (r : Code). (JumpIfZero n, p) ∷ r) h₂.0
      (adapt-++ t body back ∙ ap₂ (λ (x y : Code). x ++ y) e (ap (λ (n : ℕ). (Jump n, p) ∷ []) h.0)))

  mutual
    pub adapt_statement : (s : Statement ℕ) → Adapted s
    adapt_statement (assign n p e) a l h = adapt_plain_lines t (code_of_expression e ++ ((Store n, p) ∷ []))
    adapt_statement (scan n p) a l h = refl
    adapt_statement (print n p) a l h = refl
    adapt_statement (when p c s) a l h = adapt_when p c s (adapt_statement s) a l h
    adapt_statement (either p c s q s') a l h = adapt_either p c s q s' (adapt_statement s) (adapt_statement s') a l h
    adapt_statement (while p c s) a l h = adapt_while p c s (adapt_statement s) a l h
    adapt_statement (block ss) a l h = adapt_statements ss a l 1 h

    pub adapt_statements : (ss : Statements ℕ) (a : ℕ) (l : Label) (k : ℕ) → Agrees t a (lines_of_statements ss l k) → adapt t (lines_of_statements ss l k) ≡ code_of_statements ss a
    adapt_statements none a l k h = refl
    adapt_statements (then s ss) a l k h =
        let e : adapt t (lines_of_statement s (below l k)) ≡ code_of_statement s a = adapt_statement s a (below l k) (agrees_left t a (lines_of_statement s (below l k)) (lines_of_statements ss l (suc k)) h) in
        adapt-++ t (lines_of_statement s (below l k)) (lines_of_statements ss l (suc k))
        ∙ ap₂ (λ (x y : Code). x ++ y) e
        (adapt_statements ss (past a (code_of_statement s a)) l (suc k)
        (subst (λ (n : ℕ). Agrees t n (lines_of_statements ss l (suc k))) (ends_at a (lines_of_statement s (below l k)) (code_of_statement s a) e)
        (agrees_right t a (lines_of_statement s (below l k)) (lines_of_statements ss l (suc k)) h)))
