-- What follows an outcome; runs over code that stands at an address; one act is one step.
use Rattle.std.proofs.Common.{◌≡◌, ℕ, zero, suc, List, [], ◌∷◌, ◌++◌, map, ℤ, Some, None, Option, sym, refl, ap, ◌∙◌}
use Rattle.code.specs.declared.Instruction.{Instruction}
use Rattle.code.specs.World.{World, Fault, ArithmeticUnit}
use Rattle.code.specs.Machine.{Step, moved, faulted, execute, nth, fetch, or_zero}
use Rattle.translator.specs.Linear.{Code, instructions, places, past}
use Rattle.meaning.specs.Meaning.{State, Outcome, goes_on, stops, fails, Act, act, bind}
use Rattle.meaning.proofs.Results.{Result, ok, bad, settle, asked, spent, paid, act_is}
use Rattle.meaning.proofs.Finals.{Final, running, failed, ended, at_instruction, go_on, run, named, step_of}

abbrev pub follow : {A : Type 0} → Outcome A → (A → State → Final) → Final
follow (goes_on v s) k = k v s
follow (stops s) k = running s.world
follow (fails p c s) k = failed p c s.world s.left

pub follow_bind : {A B : Type 0} (o : Outcome A) (f : A → State → Outcome B) (k : B → State → Final) → follow (bind o f) k ≡ follow o (λ v s. follow (f v s) k)
follow_bind (goes_on v s) f k = refl
follow_bind (stops s) f k = refl
follow_bind (fails p c s) f k = refl

-- two continuations that agree give the same
pub follow_same : {A : Type 0} (o : Outcome A) (k k' : A → State → Final) → ((v : A) (s : State) → k v s ≡ k' v s) → follow o k ≡ follow o k'
follow_same o k k' h = λ i. follow o (λ v s. h v s i)

-- xs stands in the code at a
abbrev pub At : Code → ℕ → Code → Type 0
At code a [] = Unit {0}
At code a (x ∷ xs) = (fetch code a ≡ Some x) × At code (suc a) xs

pub at_left : (code : Code) (xs ys : Code) (a : ℕ) → At code a (xs ++ ys) → At code a xs
at_left code [] ys a h = tt
at_left code (x ∷ xs) ys a h = (h.0, at_left code xs ys (suc a) h.1)

pub at_right : (code : Code) (xs ys : Code) (a : ℕ) → At code a (xs ++ ys) → At code (past a xs) ys
at_right code [] ys a h = h
at_right code (x ∷ xs) ys a h = at_right code xs ys (suc a) h.1

pub past-++ : {A : Type 0} (a : ℕ) (xs ys : List A) → past a (xs ++ ys) ≡ past (past a xs) ys
past-++ a [] ys = refl
past-++ a (x ∷ xs) ys = past-++ (suc a) xs ys

-- any code stands in itself at 1
at_further : (x : Instruction × ℕ) (code : Code) (k : ℕ) (xs : Code) → At code (suc k) xs → At (x ∷ code) (suc (suc k)) xs
at_further x code k [] h = tt
at_further x code k (y ∷ xs) h = (h.0, at_further x code (suc k) xs h.1)

pub at_self : (code : Code) → At code 1 code
at_self [] = tt
at_self (x ∷ code) = (refl, at_further x code 0 code (at_self code))

nth_map : {A B : Type 0} (f : A → B) (xs : List A) (k : ℕ) (x : A) → nth xs k ≡ Some x → nth (map f xs) k ≡ Some (f x)
nth_map f [] k x h = cc
nth_map {A} {B} f (y ∷ xs) zero x h = ap (λ (o : Option A). through o) h
  where
    through : Option A → Option B
    through None = None
    through (Some z) = Some (f z)
nth_map f (y ∷ xs) (suc k) x h = nth_map f xs k x h

fetch_map : {A B : Type 0} (f : A → B) (xs : List A) (a : ℕ) (x : A) → fetch xs a ≡ Some x → fetch (map f xs) a ≡ Some (f x)
fetch_map f xs zero x h = cc
fetch_map f xs (suc k) x h = nth_map f xs k x h

instruction_at : (code : Code) (a : ℕ) (i : Instruction) (p : ℕ) → fetch code a ≡ Some (i, p) → fetch (instructions code) a ≡ Some i
instruction_at code a i p h = fetch_map (λ x. x.0) code a (i, p) h

place_at : (code : Code) (a : ℕ) (i : Instruction) (p : ℕ) → fetch code a ≡ Some (i, p) → fetch (places code) a ≡ Some p
place_at code a i p h = fetch_map (λ x. x.1) code a (i, p) h

module _ (U : ArithmeticUnit) (code : Code) where
  abbrev pub R : ℕ → ℕ → List ℤ → World → Final
  R n a st w = named (places code) (run U (instructions code) n a st w)

  named_go_on : (x : Step) (f : ℕ → List ℤ → World → Final) (g : Fault → World → Final) →
      named (places code) (go_on x f g) ≡ go_on x (λ a st w. named (places code) (f a st w)) (λ c w. named (places code) (g c w))
  named_go_on (moved a st w) f g = refl
  named_go_on (faulted c w) f g = refl

  R-zero : (a : ℕ) (i : Instruction) (p : ℕ) → fetch code a ≡ Some (i, p) → (st : List ℤ) (w : World) → R 0 a st w ≡ running w
  R-zero a i p h st w = ap (λ (o : Option Instruction). named (places code) (at_instruction o (ended w 0) (λ i'. running w))) (instruction_at code a i p h)

  R-suc : (a : ℕ) (i : Instruction) (p : ℕ) → fetch code a ≡ Some (i, p) → (n : ℕ) (st : List ℤ) (w : World) →
      R (suc n) a st w ≡ go_on (execute U i a st w) (λ a' st' w'. R n a' st' w') (λ c w'. failed p c w' (suc n))
  R-suc a i p h n st w =
      ap (λ (o : Option Instruction). named (places code) (at_instruction o (ended w (suc n))
      (λ j. go_on (execute U j a st w) (λ a' st' w'. run U (instructions code) n a' st' w') (λ c w'. failed a c w' (suc n))))) (instruction_at code a i p h)
      ∙ named_go_on (execute U i a st w) (λ a' st' w'. run U (instructions code) n a' st' w') (λ c w'. failed a c w' (suc n))
      ∙ ap (λ (o : Option ℕ). go_on (execute U i a st w) (λ a' st' w'. R n a' st' w') (λ c w'. failed (or_zero o) c w' (suc n))) (place_at code a i p h)

  spent_run : {A : Type 0} (next : A → ℕ) (stk : A → List ℤ) (p n : ℕ) (t : List ℤ) (r : Result A) →
      go_on (step_of next stk r) (λ a' st' w'. R n a' st' w') (λ c w'. failed p c w' (suc n))
      ≡ follow (spent p t n r) (λ v s'. R s'.left (next v) (stk v) s'.world)
  spent_run next stk p n t (ok v w) = refl
  spent_run next stk p n t (bad c w) = refl

  paid_run : {A : Type 0} (i : Instruction) (p a : ℕ) (st : List ℤ) (f : World → Act A) (next : A → ℕ) (stk : A → List ℤ) →
      fetch code a ≡ Some (i, p) → ((w : World) → execute U i a st w ≡ step_of next stk (settle U (f w))) → (s : State) (n : ℕ) →
      R n a st s.world ≡ follow (paid U p (f s.world) s n) (λ v s'. R s'.left (next v) (stk v) s'.world)
  paid_run i p a st f next stk h e s zero = R-zero a i p h st s.world
  paid_run i p a st f next stk h e s (suc n) =
      R-suc a i p h n st s.world
      ∙ ap (λ (x : Step). go_on x (λ a' st' w'. R n a' st' w') (λ c w'. failed p c w' (suc n))) (e s.world)
      ∙ spent_run next stk p n (asked (f s.world) ++ s.narrowings) (settle U (f s.world))

  -- an instruction that makes an act's step runs as the act
  pub act_run : {A : Type 0} (i : Instruction) (p a : ℕ) (st : List ℤ) (f : World → Act A) (next : A → ℕ) (stk : A → List ℤ) →
      fetch code a ≡ Some (i, p) → ((w : World) → execute U i a st w ≡ step_of next stk (settle U (f w))) → (s : State) →
      R s.left a st s.world ≡ follow (act U p f s) (λ v s'. R s'.left (next v) (stk v) s'.world)
  act_run {A} i p a st f next stk h e s =
      paid_run i p a st f next stk h e s s.left
      ∙ ap (λ (o : Outcome A). follow o (λ v s'. R s'.left (next v) (stk v) s'.world)) (sym (act_is U p f s))
