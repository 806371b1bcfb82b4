-- Advances are moves: a list of advances makes as many as its sum allows under the lid.
use Rattle.std.proofs.Common.{◌≡◌, ℕ, zero, suc, ◌+◌, ◌-◌, ◌≤◌, min, ◌⊎◌, List, [], ◌∷◌, Some, None, Option, sym, refl, ap, ◌∙◌, subst, inl, inr, arith}
use Rattle.code.specs.declared.Instruction.{Instruction}
use Rattle.code.specs.World.{Tapes, Fault, ArithmeticUnit}
use Rattle.code.specs.Machine.{Step, moved, faulted, execute, fetch, Run, start, stepped, once_with, once, moves, advance}
use Rattle.code.proofs.Moving.{moves_stuck, moves_add}
use Rattle.meaning.specs.Promise.{total, advances}

-- nothing moves any more: faulted, or no instruction at the counter
abbrev pub stopped_with : Option (ℕ × Fault) → Option Instruction → Type 0
stopped_with (Some f) i = Unit {0}
stopped_with None None = Unit {0}
stopped_with None (Some i) = ⊥

module _ (U : ArithmeticUnit) (code : List Instruction) where
  abbrev pub Stopped : Run → Type 0
  Stopped m = stopped_with m.fault (fetch code m.counter)

  rests_with : (m : Run) (f : Option (ℕ × Fault)) (i : Option Instruction) → stopped_with f i → once_with U m f i ≡ m
  rests_with m (Some f) i h = refl
  rests_with m None None h = refl
  rests_with m None (Some i) h = absurd h

  rests : (m : Run) → Stopped m → once U code m ≡ m
  rests m h = rests_with m m.fault (fetch code m.counter) h

  pub moves_rest : (n : ℕ) (m : Run) → Stopped m → moves U code n m ≡ m
  moves_rest n m h = moves_stuck U code n m (rests m h)

  advances_rest : (lid : ℕ) (ns : List ℕ) (m : Run) → Stopped m → advances U code lid ns m ≡ m
  advances_rest lid [] m h = refl
  advances_rest lid (n ∷ ns) m h =
      ap (λ (x : Run). advances U code lid ns x) (moves_rest (min n (lid - m.steps)) m h) ∙ advances_rest lid ns m h

  -- after j moves from the start: j steps gone, or stopped with no more than that
  abbrev pub Going : ℕ → Run → Type 0
  Going j m = (m.steps ≡ j) ⊎ (Stopped m × (m.steps ≤ j))

  going_step : (j : ℕ) (m : Run) (x : Step) → m.steps ≡ j → Going (suc j) (stepped m x)
  going_step j m (moved a st w) e = inl (ap suc e)
  going_step j m (faulted c w) e = inr (tt, omega arith)

  going_with : (j : ℕ) (m : Run) (f : Option (ℕ × Fault)) (i : Option Instruction) → f ≡ m.fault → i ≡ fetch code m.counter →
      m.steps ≡ j → Going (suc j) (once_with U m f i)
  going_with j m (Some f) i p q e = inr (subst (λ (o : Option (ℕ × Fault)). stopped_with o (fetch code m.counter)) p tt, omega arith)
  going_with j m None None p q e =
      let ended : stopped_with None (fetch code m.counter) = subst (λ (o : Option Instruction). stopped_with None o) q tt in
      inr (subst (λ (o : Option (ℕ × Fault)). stopped_with o (fetch code m.counter)) p ended, omega arith)
  going_with j m None (Some i) p q e = going_step j m (execute U i m.counter m.stack m.world) e

  going_once : (j : ℕ) (m : Run) → Going j m → Going (suc j) (once U code m)
  going_once j m (inl e) = going_with j m m.fault (fetch code m.counter) refl refl e
  going_once j m (inr h) = subst (λ (x : Run). Going (suc j) x) (sym (rests m h.0)) (inr (h.0, omega (arith, h.1)))

  going_moves : (n j : ℕ) (m : Run) → Going j m → Going (j + n) (moves U code n m)
  going_moves zero j m g = subst (λ (k : ℕ). Going k m) (omega arith) g
  going_moves (suc n) j m g =
      subst (λ (k : ℕ). Going k (moves U code (suc n) m)) (omega arith) (going_moves n (suc j) (once U code m) (going_once j m g))

  pub advances_moves : (lid : ℕ) (ns : List ℕ) (j : ℕ) (m : Run) → j ≤ lid → Going j m →
      advances U code lid ns m ≡ moves U code (min (lid - j) (total ns)) m
  advances_moves lid [] j m h g = let e : 0 ≡ min (lid - j) 0 = omega arith in ap (λ (n : ℕ). moves U code n m) e
  advances_moves lid (n ∷ ns) j m h (inl e) =
      let k : ℕ = min n (lid - m.steps) in
      advances_moves lid ns (j + k) (moves U code k m) (omega arith) (going_moves k j m (inl e))
      ∙ sym (moves_add U code k (min (lid - (j + k)) (total ns)) m)
      ∙ (let all : k + min (lid - (j + k)) (total ns) ≡ min (lid - j) (n + total ns) = omega arith in ap (λ (z : ℕ). moves U code z m) all)
  advances_moves lid (n ∷ ns) j m h (inr s) =
      advances_rest lid (n ∷ ns) m s.0 ∙ sym (moves_rest (min (lid - j) (total (n ∷ ns))) m s.0)

  -- one step more at most
  abbrev OneMore : Run → Run → Type 0
  OneMore m m' = (m.steps ≤ m'.steps) × (m'.steps ≤ suc m.steps)

  stepped_steps : (m : Run) (x : Step) → OneMore m (stepped m x)
  stepped_steps m (moved a st w) = (omega arith, omega arith)
  stepped_steps m (faulted f w) = (omega arith, omega arith)

  once_with_steps : (m : Run) (f : Option (ℕ × Fault)) (i : Option Instruction) → OneMore m (once_with U m f i)
  once_with_steps m (Some f) i = (omega arith, omega arith)
  once_with_steps m None None = (omega arith, omega arith)
  once_with_steps m None (Some i) = stepped_steps m (execute U i m.counter m.stack m.world)

  pub moves_steps : (n : ℕ) (m : Run) → (m.steps ≤ (moves U code n m).steps) × ((moves U code n m).steps ≤ m.steps + n)
  moves_steps zero m = (omega arith, omega arith)
  moves_steps (suc n) m =
      let m' : Run = once U code m in
      let h : OneMore m m' = once_with_steps m m.fault (fetch code m.counter) in
      let k : (m'.steps ≤ (moves U code n m').steps) × ((moves U code n m').steps ≤ m'.steps + n) = moves_steps n m' in
      (omega (arith, h.0, k.0), omega (arith, h.1, k.1))

  pub advance_moves : (lid n j : ℕ) (m : Run) → Going j m → advance U code lid n m ≡ moves U code (min n (lid - j)) m
  advance_moves lid n j m (inl e) = ap (λ (k : ℕ). moves U code (min n (lid - k)) m) e
  advance_moves lid n j m (inr s) = moves_rest (min n (lid - m.steps)) m s.0 ∙ sym (moves_rest (min n (lid - j)) m s.0)

  pub going_start : (t : Tapes) (n : ℕ) → Going n (moves U code n (start t))
  going_start t n =
      let e : 0 + n ≡ n = omega arith in
      subst (λ (k : ℕ). Going k (moves U code n (start t))) e (going_moves n 0 (start t) (inl refl))
