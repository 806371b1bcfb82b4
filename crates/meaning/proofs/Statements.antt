-- Statements, loops and whole sources: their code does what they mean and leaves nothing on the stack.
use Rattle.std.proofs.Common.{◌≡◌, ℕ, zero, suc, ◌<◌, ◌≤◌, Bool, true, false, cond, List, [], ◌∷◌, ◌++◌, ℤ, pos, Some, sym, refl, ap, ◌∙◌, subst, arith}
use Rattle.syntax.specs.Trees.{Expression, Condition, Statement, assign, scan, print, when, either, while, block, Statements, none, then}
use Rattle.code.specs.declared.Instruction.{Instruction}
use Rattle.code.specs.declared.Instruction.TheVariants.{Read, Write, Store, Jump, JumpIfZero}
use Rattle.code.specs.World.{World, ArithmeticUnit}
use Rattle.code.specs.Machine.{moved, execute, fetch}
use Rattle.translator.specs.Cells.{cells_of_expression, cells_of_condition, cells_of_statement, cells_of_statements}
use Rattle.translator.specs.Linear.{Code, past, code_of_expression, code_of_condition, code_of_statement, code_of_statements}
use Rattle.meaning.specs.Meaning.{State, Meaning, goes_on, assigned, scanned, printed, unchanged, act, bind, meaning_of_expression, meaning_of_condition, rounds, meaning_of_statement, meaning_of_statements}
use Rattle.meaning.specs.Depth.{depth_of_condition, depth_of_statement, depth_of_statements}
use Rattle.meaning.proofs.Finals.{Final}
use Rattle.meaning.proofs.Acts.{truth, scan_is, print_is}
use Rattle.meaning.proofs.Follow.{follow, follow_bind, follow_same, At, at_left, at_right, past-++, R, act_run}
use Rattle.meaning.proofs.Ticks.{Goes, follow_goes, Less, Most, act_less, condition_most, statement_most}
use Rattle.meaning.proofs.Expressions.{expression_runs, condition_runs}
use Rattle.meaning.proofs.StackNeeds.{bound_expression, condition_fits}

module _ (U : ArithmeticUnit) (code : Code) {N : Type 0} (cell : N → ℕ) where
  -- the code of each piece, its names in their cells
  abbrev expression_code : Expression N → Code
  expression_code e = code_of_expression (cells_of_expression cell e)

  abbrev condition_code : Condition N → Code
  condition_code c = code_of_condition (cells_of_condition cell c)

  abbrev pub statement_code : Statement N → ℕ → Code
  statement_code x a = code_of_statement (cells_of_statement cell x) a

  abbrev pub statements_code : Statements N → ℕ → Code
  statements_code ss a = code_of_statements (cells_of_statements cell ss) a

  -- a run from a state at address a, with nothing on the stack
  abbrev pub from : ℕ → State → Final
  from a s = R U code s.left a [] s.world

  -- from address a, with fewer than k ticks left, the run follows m and then goes on from address b
  abbrev pub Leads : ℕ → ℕ → Meaning (Unit {0}) → ℕ → Type 0
  Leads k a m b = (s : State) → s.left < k → from a s ≡ follow (m s) (λ _ s'. from b s')

  with_fewer : (k a b : ℕ) (m : Meaning (Unit {0})) → Leads (suc k) a m b → Leads k a m b
  with_fewer k a b m h s l = h s (omega arith)

  after : (k a b c : ℕ) (m n : Meaning (Unit {0})) → ((s : State) → Goes (Most s.left) (m s)) → Leads k a m b → Leads k b n c →
      Leads k a (λ s. bind (m s) (λ _. n)) c
  after k a b c m n most h g s l =
      h s l
      ∙ follow_goes (Most s.left) (m s) _ _ (most s) (λ _ s₁ h₁. g s₁ (omega arith))
      ∙ sym (follow_bind (m s) (λ _. n) _)

  -- an instruction that jumps, and what follows with a tick less
  jumps : (k : ℕ) (i : Instruction) (p a to c : ℕ) (st : List ℤ) (n : Meaning (Unit {0})) → fetch code a ≡ Some (i, p) →
      ((w : World) → execute U i a st w ≡ moved to [] w) → Leads k to n c → (s : State) → s.left < suc k →
      R U code s.left a st s.world ≡ follow (bind (act U p unchanged s) (λ _. n)) (λ _ s'. from c s')
  jumps k i p a to c st n at is g s l =
      act_run U code i p a st unchanged (λ _. to) (λ _. []) at is s
      ∙ follow_goes (Less s.left) (act U p unchanged s) _ _ (act_less U p unchanged s) (λ _ s₁ h₁. g s₁ (omega arith))
      ∙ sym (follow_bind (act U p unchanged s) (λ _. n) _)

  -- a condition, the jump after it, and what follows either way
  chosen : (k : ℕ) (c : Condition N) (a to p b : ℕ) (m n : Meaning (Unit {0})) → depth_of_condition c ≤ 32 → At code a (condition_code c) →
      fetch code (past a (condition_code c)) ≡ Some (JumpIfZero to, p) → Leads k (suc (past a (condition_code c))) m b → Leads k to n b →
      Leads (suc k) a (λ s. bind (meaning_of_condition cell U c s) (λ t s₁. bind (act U p unchanged s₁) (λ _. cond t m n))) b
  chosen k c a to p b m n d h at yes' no' s l =
      condition_runs U code cell c a h [] (condition_fits c d) s
      ∙ follow_goes (Most s.left) (meaning_of_condition cell U c s) _ _ (condition_most U cell c s) (λ t s₁ h₁. jump t s₁ (omega arith))
      ∙ sym (follow_bind (meaning_of_condition cell U c s) (λ t s₁. bind (act U p unchanged s₁) (λ _. cond t m n)) _)
    where
      here : ℕ
      here = past a (condition_code c)

      jump : (t : Bool) (s₁ : State) → s₁.left < suc k →
          R U code s₁.left here (truth t ∷ []) s₁.world ≡ follow (bind (act U p unchanged s₁) (λ _. cond t m n)) (λ _ s'. from b s')
      jump true s₁ l₁ = jumps k (JumpIfZero to) p here (suc here) b (pos 1 ∷ []) m at (λ w. refl) yes' s₁ l₁
      jump false s₁ l₁ = jumps k (JumpIfZero to) p here to b (pos 0 ∷ []) n at (λ w. refl) no' s₁ l₁

  abbrev pub StatementRuns : Statement N → Type 0
  StatementRuns x = (k a : ℕ) → depth_of_statement x ≤ 32 → At code a (statement_code x a) →
      Leads k a (meaning_of_statement cell U x) (past a (statement_code x a))

  abbrev pub StatementsRun : Statements N → Type 0
  StatementsRun ss = (k a : ℕ) → depth_of_statements ss ≤ 32 → At code a (statements_code ss a) →
      Leads k a (meaning_of_statements cell U ss) (past a (statements_code ss a))

  assign_runs : (x : N) (p : ℕ) (e : Expression N) → StatementRuns (assign x p e)
  assign_runs x p e k a d h s l =
      let xs : Code = expression_code e in
      let stores : Code = (Store (cell x), p) ∷ [] in
      let at : At code (past a xs) stores = at_right code xs stores a h in
      expression_runs U code cell e a (at_left code xs stores a h) [] (omega (arith, bound_expression e)) s
      ∙ follow_same (meaning_of_expression cell U e s) _ _ (λ v s₁.
      act_run U code (Store (cell x)) p (past a xs) (v ∷ []) (assigned (cell x) v) (λ _. suc (past a xs)) (λ _. []) at.0 (λ w. refl) s₁
      ∙ ap (λ (q : ℕ). follow (act U p (assigned (cell x) v) s₁) (λ _ s'. from q s')) (sym (past-++ a xs stores)))
      ∙ sym (follow_bind (meaning_of_expression cell U e s) (λ v s₁. act U p (assigned (cell x) v) s₁) _)

  when_runs : (p : ℕ) (c : Condition N) (b : Statement N) → StatementRuns b → StatementRuns (when p c b)
  when_runs p c b runs k a d h =
      let a₁ : ℕ = suc (past a (condition_code c)) in
      let xs : Code = statement_code b a₁ in
      let rest : Code = (JumpIfZero (past a₁ xs), p) ∷ xs in
      let at : At code (past a (condition_code c)) rest = at_right code (condition_code c) rest a h in
      let m : Meaning (Unit {0}) = meaning_of_statement cell U (when p c b) in
      let end : past a₁ xs ≡ past a (condition_code c ++ rest) = sym (past-++ a (condition_code c) rest) in
      subst (λ (z : ℕ). Leads k a m z) end
      (with_fewer k a (past a₁ xs) m
      (chosen k c a (past a₁ xs) p (past a₁ xs) (meaning_of_statement cell U b) (goes_on tt) (omega arith)
      (at_left code (condition_code c) rest a h) at.0 (runs k a₁ (omega arith) at.1) (λ s l. refl)))

  either_runs : (p : ℕ) (c : Condition N) (b : Statement N) (q : ℕ) (b₂ : Statement N) → StatementRuns b → StatementRuns b₂ →
      StatementRuns (either p c b q b₂)
  either_runs p c b q b₂ runs runs₂ k a d h =
      let a₁ : ℕ = suc (past a (condition_code c)) in
      let xs : Code = statement_code b a₁ in
      let a₂ : ℕ = suc (past a₁ xs) in
      let ys : Code = statement_code b₂ a₂ in
      let out : ℕ = past a₂ ys in
      let rest₂ : Code = (Jump out, q) ∷ ys in
      let rest : Code = (JumpIfZero a₂, p) ∷ (xs ++ rest₂) in
      let at : At code (past a (condition_code c)) rest = at_right code (condition_code c) rest a h in
      let at₂ : At code (past a₁ xs) rest₂ = at_right code xs rest₂ a₁ at.1 in
      let m : Meaning (Unit {0}) = meaning_of_statement cell U (either p c b q b₂) in
      let end : out ≡ past a (condition_code c ++ rest) = sym (past-++ a (condition_code c) rest ∙ past-++ a₁ xs rest₂) in
      subst (λ (z : ℕ). Leads k a m z) end
      (with_fewer k a out m
      (chosen k c a a₂ p out (λ s. bind (meaning_of_statement cell U b s) (λ _. act U q unchanged)) (meaning_of_statement cell U b₂) (omega arith)
      (at_left code (condition_code c) rest a h) at.0
      (after k a₁ (past a₁ xs) out (meaning_of_statement cell U b) (act U q unchanged) (statement_most U cell b)
      (runs k a₁ (omega arith) (at_left code xs rest₂ a₁ at.1))
      (λ s l. act_run U code (Jump out) q (past a₁ xs) [] unchanged (λ _. out) (λ _. []) at₂.0 (λ w. refl) s))
      (runs₂ k a₂ (omega arith) at₂.1)))

  -- a round takes a tick at least, so k rounds are enough for fewer than k ticks
  rounds_run : (c : Condition N) (b : Statement N) (p a out : ℕ) → depth_of_condition c ≤ 32 → At code a (condition_code c) →
      fetch code (past a (condition_code c)) ≡ Some (JumpIfZero out, p) → (end : ℕ) →
      ((k : ℕ) → Leads k (suc (past a (condition_code c))) (meaning_of_statement cell U b) end) → fetch code end ≡ Some (Jump a, p) →
      (k : ℕ) → Leads k a (rounds U p (meaning_of_condition cell U c) (meaning_of_statement cell U b) k) out
  rounds_run c b p a out d h at end runs back zero = λ s l. absurd (none_below s.left l)
    where
      none_below : (n : ℕ) → n < 0 → ⊥
      none_below n l = omega arith
  rounds_run c b p a out d h at end runs back (suc k) =
      let again : Meaning (Unit {0}) = rounds U p (meaning_of_condition cell U c) (meaning_of_statement cell U b) k in
      let a₁ : ℕ = suc (past a (condition_code c)) in
      chosen k c a out p out (λ s. bind (meaning_of_statement cell U b s) (λ _ s₁. bind (act U p unchanged s₁) (λ _. again))) (goes_on tt) d h at
      (after k a₁ end out (meaning_of_statement cell U b) (λ s₁. bind (act U p unchanged s₁) (λ _. again)) (statement_most U cell b) (runs k)
      (with_fewer k end out (λ s₁. bind (act U p unchanged s₁) (λ _. again))
      (jumps k (Jump a) p end a out [] again back (λ w. refl) (rounds_run c b p a out d h at end runs back k))))
      (λ s l. refl)

  while_runs : (p : ℕ) (c : Condition N) (b : Statement N) → StatementRuns b → StatementRuns (while p c b)
  while_runs p c b runs k a d h =
      let a₁ : ℕ = suc (past a (condition_code c)) in
      let xs : Code = statement_code b a₁ in
      let back : Code = (Jump a, p) ∷ [] in
      let out : ℕ = suc (past a₁ xs) in
      let rest : Code = (JumpIfZero out, p) ∷ (xs ++ back) in
      let at : At code (past a (condition_code c)) rest = at_right code (condition_code c) rest a h in
      let at₂ : At code (past a₁ xs) back = at_right code xs back a₁ at.1 in
      let end : out ≡ past a (condition_code c ++ rest) = sym (past-++ a (condition_code c) rest ∙ past-++ a₁ xs back) in
      subst (λ (z : ℕ). Leads k a (meaning_of_statement cell U (while p c b)) z) end
      (λ s l. rounds_run c b p a out (omega arith) (at_left code (condition_code c) rest a h) at.0 (past a₁ xs)
      (λ j. runs j a₁ (omega arith) (at_left code xs back a₁ at.1)) at₂.0 (suc s.left) s (omega arith))

  then_runs : (x : Statement N) (ss : Statements N) → StatementRuns x → StatementsRun ss → StatementsRun (then x ss)
  then_runs x ss runs more k a d h =
      let xs : Code = statement_code x a in
      let ys : Code = statements_code ss (past a xs) in
      subst (λ (z : ℕ). Leads k a (meaning_of_statements cell U (then x ss)) z) (sym (past-++ a xs ys))
      (after k a (past a xs) (past (past a xs) ys) (meaning_of_statement cell U x) (meaning_of_statements cell U ss) (statement_most U cell x)
      (runs k a (omega arith) (at_left code xs ys a h)) (more k (past a xs) (omega arith) (at_right code xs ys a h)))

  mutual
    pub statement_runs : (x : Statement N) → StatementRuns x
    statement_runs (assign x p e) = assign_runs x p e
    statement_runs (scan x p) = λ k a d h s l.
        act_run U code (Read (cell x)) p a [] (scanned (cell x)) (λ _. suc a) (λ _. []) h.0 (λ w. scan_is U (cell x) a [] w) s
    statement_runs (print x p) = λ k a d h s l.
        act_run U code (Write (cell x)) p a [] (printed (cell x)) (λ _. suc a) (λ _. []) h.0 (λ w. print_is U (cell x) a [] w) s
    statement_runs (when p c b) = when_runs p c b (statement_runs b)
    statement_runs (either p c b q b₂) = either_runs p c b q b₂ (statement_runs b) (statement_runs b₂)
    statement_runs (while p c b) = while_runs p c b (statement_runs b)
    statement_runs (block ss) = statements_run ss

    pub statements_run : (ss : Statements N) → StatementsRun ss
    statements_run none = λ k a d h s l. refl
    statements_run (then x ss) = then_runs x ss (statement_runs x) (statements_run ss)
