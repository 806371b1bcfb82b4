-- Advances after advances.
use Rattle.std.proofs.Common.{◌≡◌, ℕ, zero, suc, ◌+◌, ◌-◌, ◌≤◌, min, Bool, true, false, cond, eqb, ◌⊎◌, List, Some, None, Option, sym, refl, ap, ◌∙◌, inl, inr, ⊎_elim, arith}
use Rattle.std.proofs.lemmas.Bool.Decides.{nat_tests}
use Rattle.code.specs.declared.Instruction.{Instruction}
use Rattle.code.specs.World.{ArithmeticUnit, Fault}
use Rattle.code.specs.Machine.{Run, Step, moved, faulted, execute, stepped, once_with, once, moves, advance, status, status_with, fetch}
use Rattle.code.specs.Advances.{AdvancesAddUp, AdvancesStayWithin}
use Rattle.code.proofs.Moving.{once_ended, once_faulted, moves_stuck, moves_add}

module _ (U : ArithmeticUnit) (code : List Instruction) where
  -- a move makes a step, or the run moves no more and has as many steps as before
  abbrev Paced : Run → Run → Type 0
  Paced p q = (q.steps ≡ suc p.steps) ⊎ ((once U code q ≡ q) × (q.steps ≡ p.steps))

  once_paced : (p : Run) → Paced p (once U code p)
  once_paced p = by p.fault refl (fetch code p.counter) refl
    where
      after : (s : Step) → Paced p (stepped p s)
      after (moved a st w) = inl refl
      after (faulted f w) = inr (refl, refl)

      by : (f : Option (ℕ × Fault)) → p.fault ≡ f → (i : Option Instruction) → fetch code p.counter ≡ i → Paced p (once_with U p f i)
      by (Some f) e i k = inr (once_faulted U code p f e, refl)
      by None e None k = inr (once_ended U code p k, refl)
      by None e (Some i) k = after (execute U i p.counter p.stack p.world)

  -- some moves make as many steps, or fewer and then the run moves no more
  abbrev Gone : ℕ → Run → Run → Type 0
  Gone n p q = (q.steps ≡ p.steps + n) ⊎ ((once U code q ≡ q) × (p.steps ≤ q.steps) × (q.steps ≤ p.steps + n))

  moves_gone : (n : ℕ) (p : Run) → Gone n p (moves U code n p)
  moves_gone zero p = inl (omega arith)
  moves_gone (suc n) p = ⊎_elim (on (moves_gone n (once U code p))) off (once_paced p)
    where
      q : Run
      q = once U code p

      on : Gone n q (moves U code n q) → q.steps ≡ suc p.steps → Gone (suc n) p (moves U code n q)
      on g e = ⊎_elim (λ h. inl (omega (arith, e, h))) (λ h. inr (h.0, omega (arith, e, h.1), omega (arith, e, h.2))) g

      off : (once U code q ≡ q) × (q.steps ≡ p.steps) → Gone (suc n) p (moves U code n q)
      off h =
          let same : moves U code n q ≡ q = moves_stuck U code n q h.0 in
          rw same (inr (h.0, omega (arith, h.1), omega (arith, h.1)))

  module _ (lid : ℕ) where
    onward : (n : ℕ) (p : Run) → (p.steps ≤ (advance U code lid n p).steps) × ((advance U code lid n p).steps ≤ p.steps + min n (lid - p.steps))
    onward n p = ⊎_elim (λ h. (omega (arith, h), omega (arith, h))) (λ h. (h.1, h.2)) (moves_gone (min n (lid - p.steps)) p)

    together : (a b : ℕ) (p : Run) → advance U code lid b (advance U code lid a p) ≡ advance U code lid (a + b) p
    together a b p = ⊎_elim full short (moves_gone k p)
      where
        k : ℕ
        k = min a (lid - p.steps)

        q : Run
        q = moves U code k p

        full : q.steps ≡ p.steps + k → moves U code (min b (lid - q.steps)) q ≡ moves U code (min (a + b) (lid - p.steps)) p
        full e =
            let n : k + min b (lid - q.steps) ≡ min (a + b) (lid - p.steps) = omega (arith, e) in
            sym (moves_add U code k (min b (lid - q.steps)) p) ∙ ap (λ n. moves U code n p) n

        short : (once U code q ≡ q) × (p.steps ≤ q.steps) × (q.steps ≤ p.steps + k) → moves U code (min b (lid - q.steps)) q ≡ moves U code (min (a + b) (lid - p.steps)) p
        short h =
            let n : k + (min (a + b) (lid - p.steps) - k) ≡ min (a + b) (lid - p.steps) = omega arith in
            moves_stuck U code (min b (lid - q.steps)) q h.0
            ∙ sym (moves_stuck U code (min (a + b) (lid - p.steps) - k) q h.0)
            ∙ sym (moves_add U code k (min (a + b) (lid - p.steps) - k) p)
            ∙ ap (λ n. moves U code n p) n

    stays : (n : ℕ) (p : Run) → (status lid code p ≡ 0 → ⊥) → advance U code lid n p ≡ p
    stays n p h = by p.fault refl (fetch code p.counter) refl h
      where
        at_lid : (b : Bool) → eqb p.steps lid ≡ b → (◌≡◌ {A = ℕ} (cond b 3 0) 0 → ⊥) → advance U code lid n p ≡ p
        at_lid true e h' =
            let none : min n (lid - p.steps) ≡ 0 = grind (arith, nat_tests) in
            ap (λ m. moves U code m p) none
        at_lid false e h' = absurd (h' refl)

        by : (f : Option (ℕ × Fault)) → p.fault ≡ f → (i : Option Instruction) → fetch code p.counter ≡ i → (status_with lid p.steps f i ≡ 0 → ⊥) → advance U code lid n p ≡ p
        by (Some f) e i k h' = moves_stuck U code (min n (lid - p.steps)) p (once_faulted U code p f e)
        by None e None k h' = moves_stuck U code (min n (lid - p.steps)) p (once_ended U code p k)
        by None e (Some i) k h' = at_lid (eqb p.steps lid) refl h'

pub add_up : AdvancesAddUp
add_up U code lid a b p =
    let e = together U code lid a b p in
    let s = onward U code lid a p in
    let t = onward U code lid b (advance U code lid a p) in
    let k = ap (λ (m : Run). m.steps) e in
    record { state = e; told = ap (status lid code) e; steps = omega (arith, s.0, t.0, k) }

pub stay_within : AdvancesStayWithin
stay_within U code lid n p =
    let s = onward U code lid n p in
    record { onward = s.0; allowed = omega (arith, s.0, s.1); lidded = λ h. omega (arith, h, s.1); stays = stays U code lid n p }
