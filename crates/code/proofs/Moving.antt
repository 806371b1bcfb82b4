-- Runs that move no more, and moves after moves.
use Rattle.std.proofs.Common.{◌≡◌, ℕ, zero, suc, ◌+◌, ◌-◌, ◌<◌, List, Some, None, Option, sym, refl, ap, ◌∙◌, suc-add, zero-add, arith}
use Rattle.code.specs.declared.Instruction.{Instruction}
use Rattle.code.specs.World.{ArithmeticUnit, Fault}
use Rattle.code.specs.Machine.{Run, once_with, once, moves, fetch}

module _ (unit : ArithmeticUnit) (code : List Instruction) where
  pub once_ended : (p : Run) → fetch code p.counter ≡ None → once unit code p ≡ p
  once_ended p e = ap (once_with unit p p.fault) e ∙ by p.fault
    where
      by : (f : Option (ℕ × Fault)) → once_with unit p f None ≡ p
      by (Some f) = refl
      by None = refl

  pub once_faulted : (p : Run) (f : ℕ × Fault) → p.fault ≡ Some f → once unit code p ≡ p
  once_faulted p f e = ap (λ o. once_with unit p o (fetch code p.counter)) e

  pub moves_stuck : (n : ℕ) (p : Run) → once unit code p ≡ p → moves unit code n p ≡ p
  moves_stuck zero p e = refl
  moves_stuck (suc n) p e = ap (moves unit code n) e ∙ moves_stuck n p e

  pub moves_add : (a b : ℕ) (p : Run) → moves unit code (a + b) p ≡ moves unit code b (moves unit code a p)
  moves_add zero b p = ap (λ n. moves unit code n p) (zero-add b)
  moves_add (suc a) b p = ap (λ n. moves unit code n p) (suc-add a b) ∙ moves_add a b (once unit code p)

  -- one move after some is one move more
  pub moves_suc : (n : ℕ) (p : Run) → once unit code (moves unit code n p) ≡ moves unit code (suc n) p
  moves_suc zero p = refl
  moves_suc (suc n) p = moves_suc n (once unit code p)

  -- the last move that changed anything
  pub moves_last : (s limit : ℕ) (p q : Run) → s < limit → once unit code p ≡ q → once unit code q ≡ q → q ≡ moves unit code (limit - s) p
  moves_last s limit p q lt e k =
      let more : limit - s ≡ suc (limit - s - 1) = omega arith in
      sym (ap (λ n. moves unit code n p) more ∙ ap (moves unit code (limit - s - 1)) e ∙ moves_stuck (limit - s - 1) q k)
