-- A relation between outcomes that acts and their order keep holds between the meanings of every source, under two units.
use Rattle.std.proofs.Common.{ℕ, zero, suc, Bool, true, false, cond, ℤ, pos, negsuc}
use Rattle.syntax.specs.declared.token.Multiplicative.TheVariants.{Times}
use Rattle.syntax.specs.Trees.{Expression, first, minus, more, Term, one, times, Factor, name, number, paren, Condition, test, Statement, assign, scan, print, when, either, while, block, Statements, none, then}
use Rattle.code.specs.World.{World, ArithmeticUnit}
use Rattle.meaning.specs.Meaning.{State, Outcome, goes_on, stops, Meaning, Act, act, exact, value_of_name, sum, product, compared, assigned, scanned, printed, unchanged, bind, meaning_of_expression, meaning_of_term, meaning_of_factor, meaning_of_condition, rounds, meaning_of_statement, meaning_of_statements}

module _ (U V : ArithmeticUnit) (R : (A : Type 0) → State → Outcome A → Outcome A → Type 0) where
  abbrev pub Related : {A : Type 0} → Meaning A → Meaning A → Type 0
  Related {A} m m' = (s : State) → R A s (m s) (m' s)

  pub record Closed : Type 1 where
    pub acts : {A : Type 0} (p : ℕ) (f : World → Act A) → Related (act U p f) (act V p f)
    pub binds : {A B : Type 0} (f f' : A → Meaning B) → ((v : A) → Related (f v) (f' v)) →
        (s : State) (o o' : Outcome A) → R A s o o' → R B s (bind o f) (bind o' f')
    pub ends : Related {A = Unit {0}} (λ s. goes_on tt s) (λ s. goes_on tt s)
    pub stopped : Related {A = Unit {0}} (λ s. stops s) (λ s. stops s)

  module _ (k : Closed) {N : Type 0} (cell : N → ℕ) where
    after : {A B : Type 0} (m m' : Meaning A) (f f' : A → Meaning B) → Related m m' → ((v : A) → Related (f v) (f' v)) →
        Related (λ s. bind (m s) f) (λ s. bind (m' s) f')
    after m m' f f' h g = λ s. k.binds f f' g s (m s) (m' s) (h s)

    operands : {A : Type 0} (p : ℕ) (m m' n n' : Meaning ℤ) (g : ℤ → ℤ → World → Act A) → Related m m' → Related n n' →
        Related (λ s. bind (m s) (λ x s₁. bind (n s₁) (λ y. act U p (g x y)))) (λ s. bind (m' s) (λ x s₁. bind (n' s₁) (λ y. act V p (g x y))))
    operands p m m' n n' g h h' =
        after m m' (λ x s₁. bind (n s₁) (λ y. act U p (g x y))) (λ x s₁. bind (n' s₁) (λ y. act V p (g x y))) h
        (λ x. after n n' (λ y. act U p (g x y)) (λ y. act V p (g x y)) h' (λ y. k.acts p (g x y)))

    mutual
      expression : (e : Expression N) → Related (meaning_of_expression cell U e) (meaning_of_expression cell V e)
      expression (first t) = term t
      expression (minus p t) =
          operands p (meaning_of_term cell U t) (meaning_of_term cell V t) (act U p (exact (negsuc 0))) (act V p (exact (negsuc 0))) (product Times)
          (term t) (k.acts p (exact (negsuc 0)))
      expression (more e o p t) =
          operands p (meaning_of_expression cell U e) (meaning_of_expression cell V e) (meaning_of_term cell U t) (meaning_of_term cell V t) (sum o) (expression e) (term t)

      term : (t : Term N) → Related (meaning_of_term cell U t) (meaning_of_term cell V t)
      term (one f) = factor f
      term (times t o p f) =
          operands p (meaning_of_term cell U t) (meaning_of_term cell V t) (meaning_of_factor cell U f) (meaning_of_factor cell V f) (product o) (term t) (factor f)

      factor : (f : Factor N) → Related (meaning_of_factor cell U f) (meaning_of_factor cell V f)
      factor (name x p) = k.acts p (value_of_name (cell x))
      factor (number z p) = k.acts p (exact (pos z))
      factor (paren e) = expression e

    pub condition : (c : Condition N) → Related (meaning_of_condition cell U c) (meaning_of_condition cell V c)
    condition (test l r p e) =
        operands p (meaning_of_expression cell U l) (meaning_of_expression cell V l) (meaning_of_expression cell U e) (meaning_of_expression cell V e) (compared r)
        (expression l) (expression e)

    choice : (t : Bool) (m m' n n' : Meaning (Unit {0})) → Related m m' → Related n n' → Related (cond t m n) (cond t m' n')
    choice true m m' n n' h h' = h
    choice false m m' n n' h h' = h'

    -- a condition and the act after it, then a choice
    chosen : (p : ℕ) (c c' : Meaning Bool) (m m' n n' : Meaning (Unit {0})) → Related c c' → Related m m' → Related n n' →
        Related (λ s. bind (c s) (λ t s₁. bind (act U p unchanged s₁) (λ _. cond t m n)))
        (λ s. bind (c' s) (λ t s₁. bind (act V p unchanged s₁) (λ _. cond t m' n')))
    chosen p c c' m m' n n' hc h h' =
        after c c' (λ t s₁. bind (act U p unchanged s₁) (λ _. cond t m n)) (λ t s₁. bind (act V p unchanged s₁) (λ _. cond t m' n')) hc
        (λ t. after (act U p unchanged) (act V p unchanged) (λ _. cond t m n) (λ _. cond t m' n') (k.acts p unchanged)
        (λ _. choice t m m' n n' h h'))

    -- a body and the act at its end, then more
    closing : (p : ℕ) (b b' n n' : Meaning (Unit {0})) → Related b b' → Related n n' →
        Related (λ s. bind (b s) (λ _ s₁. bind (act U p unchanged s₁) (λ _. n))) (λ s. bind (b' s) (λ _ s₁. bind (act V p unchanged s₁) (λ _. n')))
    closing p b b' n n' h h' =
        after b b' (λ _ s₁. bind (act U p unchanged s₁) (λ _. n)) (λ _ s₁. bind (act V p unchanged s₁) (λ _. n')) h
        (λ _. after (act U p unchanged) (act V p unchanged) (λ _. n) (λ _. n') (k.acts p unchanged) (λ _. h'))

    loop : (p : ℕ) (c c' : Meaning Bool) (b b' : Meaning (Unit {0})) → Related c c' → Related b b' → (j : ℕ) → Related (rounds U p c b j) (rounds V p c' b' j)
    loop p c c' b b' hc hb zero = k.stopped
    loop p c c' b b' hc hb (suc j) =
        chosen p c c' (λ s. bind (b s) (λ _ s₁. bind (act U p unchanged s₁) (λ _. rounds U p c b j)))
        (λ s. bind (b' s) (λ _ s₁. bind (act V p unchanged s₁) (λ _. rounds V p c' b' j))) (λ s. goes_on tt s) (λ s. goes_on tt s) hc
        (closing p b b' (rounds U p c b j) (rounds V p c' b' j) hb (loop p c c' b b' hc hb j)) k.ends

    mutual
      pub statement : (x : Statement N) → Related (meaning_of_statement cell U x) (meaning_of_statement cell V x)
      statement (assign x p e) =
          after (meaning_of_expression cell U e) (meaning_of_expression cell V e) (λ v. act U p (assigned (cell x) v))
          (λ v. act V p (assigned (cell x) v)) (expression e) (λ v. k.acts p (assigned (cell x) v))
      statement (scan x p) = k.acts p (scanned (cell x))
      statement (print x p) = k.acts p (printed (cell x))
      statement (when p c b) =
          chosen p (meaning_of_condition cell U c) (meaning_of_condition cell V c) (meaning_of_statement cell U b) (meaning_of_statement cell V b) (λ s. goes_on tt s)
          (λ s. goes_on tt s) (condition c) (statement b) k.ends
      statement (either p c b q b₂) =
          chosen p (meaning_of_condition cell U c) (meaning_of_condition cell V c) (λ s. bind (meaning_of_statement cell U b s) (λ _. act U q unchanged))
          (λ s. bind (meaning_of_statement cell V b s) (λ _. act V q unchanged)) (meaning_of_statement cell U b₂) (meaning_of_statement cell V b₂) (condition c)
          (after (meaning_of_statement cell U b) (meaning_of_statement cell V b) (λ _. act U q unchanged) (λ _. act V q unchanged) (statement b)
          (λ _. k.acts q unchanged)) (statement b₂)
      statement (while p c b) = λ s.
          loop p (meaning_of_condition cell U c) (meaning_of_condition cell V c) (meaning_of_statement cell U b) (meaning_of_statement cell V b) (condition c) (statement b)
          (suc s.left) s
      statement (block ss) = statements ss

      pub statements : (ss : Statements N) → Related (meaning_of_statements cell U ss) (meaning_of_statements cell V ss)
      statements none = k.ends
      statements (then x ss) =
          after (meaning_of_statement cell U x) (meaning_of_statement cell V x) (λ _. meaning_of_statements cell U ss) (λ _. meaning_of_statements cell V ss) (statement x)
          (λ _. statements ss)
