-- Another unit in the first one's place.
use Rattle.std.proofs.Common.{◌≡◌, ℕ, zero, suc, List, [], ◌∷◌, ◌++◌, ℤ, Option, sym, refl, ap, ◌∙◌, subst}
use Rattle.std.specs.List.{AllByRecursion}
use Rattle.syntax.specs.Trees.{Statements}
use Rattle.code.specs.World.{World, ArithmeticUnit, Inside, Lawful}
use Rattle.meaning.specs.Meaning.{State, Outcome, goes_on, stops, fails, Meaning, Act, gives, faults, narrows, act, bind, meaning_of_statements}
use Rattle.meaning.specs.Promise.{narrowed}
use Rattle.meaning.proofs.Results.{Result, ok, bad, come, settle, asked, spent, paid, act_is}
use Rattle.meaning.proofs.Closure.{Related, Closed, statements}

each_left : (P : ℤ → Type 0) (xs ys : List ℤ) → AllByRecursion P (xs ++ ys) → AllByRecursion P xs
each_left P [] ys h = tt
each_left P (x ∷ xs) ys h = (h.0, each_left P xs ys h.1)

each_right : (P : ℤ → Type 0) (xs ys : List ℤ) → AllByRecursion P (xs ++ ys) → AllByRecursion P ys
each_right P [] ys h = h
each_right P (x ∷ xs) ys h = each_right P xs ys h.1

module _ (U V : ArithmeticUnit) (lawU : Lawful U) (lawV : Lawful V) where
  abbrev Both : ℤ → Type 0
  Both z = Inside U z × Inside V z

  abbrev Fine : {A : Type 0} → Outcome A → Type 0
  Fine o = AllByRecursion Both (narrowed o)

  -- where all that the first outcome narrowed is inside both ranges, so is what was narrowed before, and the outcomes are the same
  abbrev Alike : (A : Type 0) → State → Outcome A → Outcome A → Type 0
  Alike A s o o' = Fine o → AllByRecursion Both s.narrowings × (o ≡ o')

  settle_alike : {A : Type 0} (x : Act A) → AllByRecursion Both (asked x) → settle U x ≡ settle V x
  settle_alike (gives v w) h = refl
  settle_alike (faults c w) h = refl
  settle_alike (narrows z w f g) h = ap (λ (o : Option ℤ). come w f g o) (lawU.keeps z h.0.0 ∙ sym (lawV.keeps z h.0.1))

  spent_narrowed : {A : Type 0} (p : ℕ) (t : List ℤ) (n : ℕ) (r : Result A) → Fine (spent p t n r) → AllByRecursion Both t
  spent_narrowed p t n (ok v w) h = h
  spent_narrowed p t n (bad c w) h = h

  paid_alike : {A : Type 0} (p : ℕ) (x : Act A) (s : State) (n : ℕ) → Fine (paid U p x s n) → AllByRecursion Both s.narrowings × (paid U p x s n ≡ paid V p x s n)
  paid_alike p x s zero h = (h, refl)
  paid_alike {A} p x s (suc n) h =
      let all : AllByRecursion Both (asked x ++ s.narrowings) = spent_narrowed p (asked x ++ s.narrowings) n (settle U x) h in (
        each_right Both (asked x) s.narrowings all,
        ap (λ (r : Result A). spent p (asked x ++ s.narrowings) n r) (settle_alike x (each_left Both (asked x) s.narrowings all)),
      )

  closed : Closed U V Alike
  closed = record { acts = acts; binds = binds; ends = λ s h. (h, refl); stopped = λ s h. (h, refl) }
    where
      acts : {A : Type 0} (p : ℕ) (f : World → Act A) → Related U V Alike (act U p f) (act V p f)
      acts {A} p f s h =
          let both : AllByRecursion Both s.narrowings × (paid U p (f s.world) s s.left ≡ paid V p (f s.world) s s.left) =
          paid_alike p (f s.world) s s.left (subst (λ (o : Outcome A). Fine o) (act_is U p f s) h) in
          (both.0, act_is U p f s ∙ both.1 ∙ sym (act_is V p f s))

      binds : {A B : Type 0} (f f' : A → Meaning B) → ((v : A) → Related U V Alike (f v) (f' v)) →
          (s : State) (o o' : Outcome A) → Alike A s o o' → Alike B s (bind o f) (bind o' f')
      binds {A} f f' g s (goes_on v s₁) o' a h =
          let here : AllByRecursion Both s₁.narrowings × (f v s₁ ≡ f' v s₁) = g v s₁ h in
          ((a here.0).0, here.1 ∙ ap (λ (o : Outcome A). bind o f') (a here.0).1)
      binds {A} f f' g s (stops s₁) o' a h = ((a h).0, ap (λ (o : Outcome A). bind o f') (a h).1)
      binds {A} f f' g s (fails p c s₁) o' a h = ((a h).0, ap (λ (o : Outcome A). bind o f') (a h).1)

  pub unit_change : {N : Type 0} (cell : N → ℕ) (ss : Statements N) (s : State) → Fine (meaning_of_statements cell U ss s) →
      meaning_of_statements cell U ss s ≡ meaning_of_statements cell V ss s
  unit_change cell ss s h = (statements U V Alike closed cell ss s h).1
