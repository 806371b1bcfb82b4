-- From steps to an advance and its status.
use Rattle.std.proofs.Common.{◌≡◌, ℕ, suc, ◌+◌, ◌-◌, ◌<◌, ◌≤◌, min, Bool, true, false, cond, eqb, ltb, List, length, is_some, Some, None, Option, sym, refl, ap, ◌∙◌, arith}
use Rattle.std.proofs.lemmas.Bool.Decides.{nat_tests}
use Rattle.code.specs.declared.Instruction.{Instruction}
use Rattle.code.specs.World.{ArithmeticUnit}
use Rattle.code.specs.Machine.{Run, once, moves, advance, status_with, fetch}
use Rattle.code.proofs.Moving.{once_faulted, moves_stuck, moves_add, moves_suc}
use Rattle.machine.specs.Numbers.{cause_of, fault_of, status_number}
use Rattle.machine.specs.Steps.{status_of}
use Rattle.machine.specs.declared.fault.Fault.{Fault}
use Rattle.machine.specs.declared.status.Status.TheVariants.{Running, Ended, AtLid}
use Rattle.machine.proofs.Fetching.{fetch_past, fetch_some}

pub status_is : (f : Option Fault) (code : List Instruction) (counter steps lid : ℕ) → 1 ≤ counter → steps ≤ lid → status_number (status_of f (length code) counter steps lid) ≡ status_with lid steps (fault_of f) (fetch code counter)
status_is (Some f) code counter steps lid l h = refl
status_is None code counter steps lid l h = by (ltb (length code) counter) refl
  where
    at_lid : (b : Bool) → ltb steps lid ≡ b → status_number (cond b Running AtLid) ≡ cond (eqb steps lid) 3 0
    at_lid true e = let n : eqb steps lid ≡ false = grind (arith, nat_tests) in ap (λ b. cond b 3 0) (sym n)
    at_lid false e = let n : eqb steps lid ≡ true = grind (arith, nat_tests) in ap (λ b. cond b 3 0) (sym n)

    by : (b : Bool) → ltb (length code) counter ≡ b → status_number (cond b Ended (cond (ltb steps lid) Running AtLid)) ≡ status_with lid steps None (fetch code counter)
    by true e =
        let past : length code < counter = grind (arith, nat_tests) in
        ap (status_with lid steps None) (sym (fetch_past code counter past))
    by false e =
        let le : counter ≤ length code = grind (arith, nat_tests) in
        at_lid (ltb steps lid) refl ∙ ap (status_with lid steps None) (sym (fetch_some code counter l le).1)

module _ (unit : ArithmeticUnit) (code : List Instruction) where
  -- a run that has faulted stays as it is
  pub faulted_stays : (f : Option Fault) (n : ℕ) (p : Run) → p.fault ≡ fault_of f → true ≡ is_some f → p ≡ moves unit code n p
  faulted_stays (Some f) n p e h = sym (moves_stuck unit code n p (once_faulted unit code p (f.address, cause_of f.cause) e))
  faulted_stays None n p e h = let z : ◌≡◌ {A = ℕ} 0 1 = cc in absurd (omega arith)

  -- one step more
  pub step_more : (before s s' : ℕ) (p q r : Run) → before ≤ s → s' ≡ s + 1 → q ≡ moves unit code (s - before) p → r ≡ once unit code q → r ≡ moves unit code (s' - before) p
  step_more before s s' p q r le e k h =
      let n : suc (s - before) ≡ s' - before = omega arith in
      h ∙ ap (once unit code) k ∙ moves_suc unit code (s - before) p ∙ ap (λ n. moves unit code n p) n

  -- no step more, up to the limit that the lid and the allowance set
  pub advance_is : (lid allowance least limit s : ℕ) (p q r : Run) → least ≡ min (lid - p.steps) allowance → limit ≡ p.steps + least → p.steps ≤ s → s ≤ limit → q ≡ moves unit code (s - p.steps) p → r ≡ moves unit code (limit - s) q → r ≡ advance unit code lid allowance p
  advance_is lid allowance least limit s p q r m l le lt k h =
      let n : (s - p.steps) + (limit - s) ≡ min allowance (lid - p.steps) = omega arith in
      h ∙ ap (moves unit code (limit - s)) k ∙ sym (moves_add unit code (s - p.steps) (limit - s) p) ∙ ap (λ n. moves unit code n p) n

pub faulted_status : (f : Option Fault) (lid steps : ℕ) (o : Option Instruction) → true ≡ is_some f → 2 ≡ status_with lid steps (fault_of f) o
faulted_status (Some f) lid steps o h = refl
faulted_status None lid steps o h = let z : ◌≡◌ {A = ℕ} 0 1 = cc in absurd (omega arith)
