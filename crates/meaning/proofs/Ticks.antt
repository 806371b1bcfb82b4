-- Ticks never come back, and an act takes one.
use Rattle.std.proofs.Common.{◌≡◌, ℕ, zero, suc, ◌<◌, ◌≤◌, List, ◌++◌, ℤ, sym, refl, subst, arith}
use Rattle.syntax.specs.Trees.{Condition, Statement}
use Rattle.code.specs.World.{World, ArithmeticUnit}
use Rattle.meaning.specs.Meaning.{State, Outcome, goes_on, stops, fails, Meaning, Act, act, bind, meaning_of_condition, meaning_of_statement}
use Rattle.meaning.proofs.Results.{Result, ok, bad, settle, asked, spent, paid, act_is}
use Rattle.meaning.proofs.Finals.{Final}
use Rattle.meaning.proofs.Follow.{follow}
use Rattle.meaning.proofs.Closure.{Related, Closed, condition, statement}

-- where an outcome goes on, it does so at a state with P
abbrev pub Goes : {A : Type 0} → (State → Type 0) → Outcome A → Type 0
Goes P (goes_on v s) = P s
Goes P (stops s) = Unit {0}
Goes P (fails p c s) = Unit {0}

pub follow_goes : {A : Type 0} (P : State → Type 0) (o : Outcome A) (k k' : A → State → Final) → Goes P o →
    ((v : A) (s : State) → P s → k v s ≡ k' v s) → follow o k ≡ follow o k'
follow_goes P (goes_on v s) k k' g h = h v s g
follow_goes P (stops s) k k' g h = refl
follow_goes P (fails p c s) k k' g h = refl

weaken : {A : Type 0} (P Q : State → Type 0) (o : Outcome A) → ((s : State) → P s → Q s) → Goes P o → Goes Q o
weaken P Q (goes_on v s) h g = h s g
weaken P Q (stops s) h g = tt
weaken P Q (fails p c s) h g = tt

-- a state with fewer ticks left than n, and one with at most n
abbrev pub Less : ℕ → State → Type 0
Less n s = s.left < n

abbrev pub Most : ℕ → State → Type 0
Most n s = s.left ≤ n

spent_less : {A : Type 0} (p n : ℕ) (t : List ℤ) (r : Result A) → Goes (Less (suc n)) (spent p t n r)
spent_less p n t (ok v w) = omega arith
spent_less p n t (bad c w) = tt

paid_less : {A : Type 0} (U : ArithmeticUnit) (p : ℕ) (x : Act A) (s : State) (n : ℕ) → Goes (Less n) (paid U p x s n)
paid_less U p x s zero = tt
paid_less U p x s (suc n) = spent_less p n (asked x ++ s.narrowings) (settle U x)

pub act_less : {A : Type 0} (U : ArithmeticUnit) (p : ℕ) (f : World → Act A) (s : State) → Goes (Less s.left) (act U p f s)
act_less {A} U p f s = subst (λ (o : Outcome A). Goes (Less s.left) o) (sym (act_is U p f s)) (paid_less U p (f s.world) s s.left)

-- the first outcome goes on with no more ticks than there were
abbrev Spending : (A : Type 0) → State → Outcome A → Outcome A → Type 0
Spending A s o o' = Goes (Most s.left) o

module _ (U : ArithmeticUnit) where
  closed : Closed U U Spending
  closed = record { acts = acts; binds = binds; ends = λ s. omega arith; stopped = λ s. tt }
    where
      acts : {A : Type 0} (p : ℕ) (f : World → Act A) → Related U U Spending (act U p f) (act U p f)
      acts p f s = weaken (Less s.left) (Most s.left) (act U p f s) (λ s' l. omega arith) (act_less U p f s)

      binds : {A B : Type 0} (f f' : A → Meaning B) → ((v : A) → Related U U Spending (f v) (f' v)) →
          (s : State) (o o' : Outcome A) → Spending A s o o' → Spending B s (bind o f) (bind o' f')
      binds f f' h s (goes_on v s₁) o' g = weaken (Most s₁.left) (Most s.left) (f v s₁) (λ s₂ l. omega arith) (h v s₁)
      binds f f' h s (stops s₁) o' g = tt
      binds f f' h s (fails p c s₁) o' g = tt

  pub condition_most : {N : Type 0} (cell : N → ℕ) (c : Condition N) (s : State) → Goes (Most s.left) (meaning_of_condition cell U c s)
  condition_most cell c = condition U U Spending closed cell c

  pub statement_most : {N : Type 0} (cell : N → ℕ) (x : Statement N) (s : State) → Goes (Most s.left) (meaning_of_statement cell U x s)
  statement_most cell x = statement U U Spending closed cell x
