-- What an act comes to under a unit, apart from ticks.
use Rattle.std.proofs.Common.{◌≡◌, ℕ, zero, suc, List, [], ◌∷◌, ◌++◌, ℤ, Some, None, Option, refl}
use Rattle.code.specs.World.{World, Fault, plain, ArithmeticUnit}
use Rattle.meaning.specs.Meaning.{State, Outcome, goes_on, stops, fails, Act, gives, faults, narrows, narrowed_to, with_tick, act}

pub data Result (A : Type 0) : Type 0 where
  ok : A → World → Result A
  bad : Fault → World → Result A

abbrev pub come : {A : Type 0} → World → (ℤ → A) → (ℤ → World) → Option ℤ → Result A
come w f g None = bad (plain 23) w
come w f g (Some v) = ok (f v) (g v)

abbrev pub settle : {A : Type 0} → ArithmeticUnit → Act A → Result A
settle U (gives v w) = ok v w
settle U (faults f w) = bad f w
settle U (narrows z w f g) = come w f g (U.narrow z)

-- the numbers that an act has to narrow
abbrev pub asked : {A : Type 0} → Act A → List ℤ
asked (gives v w) = []
asked (faults f w) = []
asked (narrows z w f g) = z ∷ []

-- the outcome of a result, with n ticks left behind the act's own
abbrev pub spent : {A : Type 0} → ℕ → List ℤ → ℕ → Result A → Outcome A
spent p t n (ok v w) = goes_on v (record { world = w; left = n; narrowings = t })
spent p t n (bad f w) = fails p f (record { world = w; left = suc n; narrowings = t })

abbrev pub paid : {A : Type 0} → ArithmeticUnit → ℕ → Act A → State → ℕ → Outcome A
paid U p x s zero = stops s
paid U p x s (suc n) = spent p (asked x ++ s.narrowings) n (settle U x)

narrowed_to_is : {A : Type 0} (p : ℕ) (w : World) (f : ℤ → A) (g : ℤ → World) (n : ℕ) (t : List ℤ) (o : Option ℤ) →
    narrowed_to p w f g n t o ≡ spent p t n (come w f g o)
narrowed_to_is p w f g n t None = refl
narrowed_to_is p w f g n t (Some v) = refl

with_tick_is : {A : Type 0} (U : ArithmeticUnit) (p : ℕ) (s : State) (n : ℕ) (x : Act A) → with_tick U p s n x ≡ paid U p x s n
with_tick_is U p s zero x = refl
with_tick_is U p s (suc n) (gives v w) = refl
with_tick_is U p s (suc n) (faults f w) = refl
with_tick_is U p s (suc n) (narrows z w f g) = narrowed_to_is p w f g n (z ∷ s.narrowings) (U.narrow z)

pub act_is : {A : Type 0} (U : ArithmeticUnit) (p : ℕ) (f : World → Act A) (s : State) → act U p f s ≡ paid U p (f s.world) s s.left
act_is U p f s = with_tick_is U p s s.left (f s.world)
