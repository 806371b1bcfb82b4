-- What a step comes to, by status and instruction.
use Rattle.std.proofs.Common.{◌≡◌, ◌≢◌, ℕ, suc, ◌+◌, ◌-◌, ◌<◌, ◌≤◌, Bool, true, false, cond, ltb, List, length, ℤ, is_ok, Some, None, Ok, Err, Option, Result, sym, refl, ap, ◌∙◌, add-one, arith}
use Rattle.std.proofs.lemmas.Bool.Decides.{nat_tests}
use Rattle.tapes.specs.Meaning.{Meaning}
use Rattle.code.specs.declared.Instruction.{Instruction}
use Rattle.code.specs.World.{ArithmeticUnit}
use Rattle.code.specs.Machine.{execute, stepped, once_with, once, moves, fetch}
use Rattle.code.specs.Machine as am
use Rattle.machine.specs.Numbers.{cause_of, fault_of}
use Rattle.machine.specs.View.{world_of, run_of, closed, Acted}
use Rattle.machine.specs.Steps.{status_of, Closed, Made, Halted, OneStep, Stepped}
use Rattle.machine.specs.declared.fault.Cause.{Cause}
use Rattle.machine.specs.declared.fault.Fault.{Fault}
use Rattle.machine.specs.declared.run.Core.{Core}
use Rattle.machine.specs.declared.run.Memory.{Memory}
use Rattle.machine.specs.declared.status.Status.{Status}
use Rattle.machine.specs.declared.status.Status.TheVariants.{Running, Ended, Faulted, AtLid}
use Rattle.code.proofs.Moving.{once_ended, once_faulted, moves_stuck, moves_last}
use Rattle.machine.proofs.Fetching.{fetch_past}

pub running_placed : (f : Option Fault) (len counter steps limit : ℕ) → Running ≡ status_of f len counter steps limit → counter ≤ len
running_placed (Some f) len counter steps limit e = let z : ◌≡◌ {A = ℕ} 0 1 = cc in absurd (omega arith)
running_placed None len counter steps limit e = grind (arith, nat_tests)

running_clear : (f : Option Fault) (len counter steps limit : ℕ) → Running ≡ status_of f len counter steps limit → f ≡ None
running_clear (Some f) len counter steps limit e = let z : ◌≡◌ {A = ℕ} 0 1 = cc in absurd (omega arith)
running_clear None len counter steps limit e = refl

running_room : (f : Option Fault) (len counter steps limit : ℕ) → Running ≡ status_of f len counter steps limit → steps < limit
running_room (Some f) len counter steps limit e = let z : ◌≡◌ {A = ℕ} 0 1 = cc in absurd (omega arith)
running_room None len counter steps limit e = grind (arith, nat_tests)

ended_past : (f : Option Fault) (len counter steps limit : ℕ) → Ended ≡ status_of f len counter steps limit → len < counter
ended_past (Some f) len counter steps limit e = let z : ◌≡◌ {A = ℕ} 0 1 = cc in absurd (omega arith)
ended_past None len counter steps limit e = by (ltb len counter) refl (ltb steps limit) e
  where
    by : (b : Bool) → ltb len counter ≡ b → (d : Bool) → Ended ≡ cond b Ended (cond d Running AtLid) → len < counter
    by true h d k = grind (arith, nat_tests)
    by false h true k = let z : ◌≡◌ {A = ℕ} 0 1 = cc in absurd (omega arith)
    by false h false k = let z : ◌≡◌ {A = ℕ} 0 1 = cc in absurd (omega arith)

at_limit : (f : Option Fault) (len counter steps limit : ℕ) → AtLid ≡ status_of f len counter steps limit → limit ≤ steps
at_limit (Some f) len counter steps limit e = let z : ◌≡◌ {A = ℕ} 0 1 = cc in absurd (omega arith)
at_limit None len counter steps limit e = grind (arith, nat_tests)

module _ {U I O : Type 0} (unit : ArithmeticUnit) (code : List Instruction) (waiting : I → List ℤ) (means : O → Meaning) (limit : ℕ) where
  idle : (a : Core) (m : Memory U I O) → once unit code (run_of waiting means a m) ≡ run_of waiting means a m → Stepped unit waiting means code limit a m false a m
  idle a m e =
      record {
        moved = record { rests = sym (moves_stuck unit code (limit - a.steps) (run_of waiting means a m) e); counted = refl };
        kept = omega arith;
      }

  pub none_there : (a : Core) (m : Memory U I O) → None ≡ fetch code a.counter → Stepped unit waiting means code limit a m false a m
  none_there a m e = idle a m (once_ended unit code (run_of waiting means a m) (sym e))

  has_ended : (a : Core) (m : Memory U I O) → Ended ≡ status_of a.fault (length code) a.counter a.steps limit → Stepped unit waiting means code limit a m false a m
  has_ended a m e = none_there a m (sym (fetch_past code a.counter (ended_past a.fault (length code) a.counter a.steps limit e)))

  has_faulted : (a : Core) (m : Memory U I O) → Faulted ≡ status_of a.fault (length code) a.counter a.steps limit → Stepped unit waiting means code limit a m false a m
  has_faulted a m e = by a.fault refl e
    where
      by : (f : Option Fault) → a.fault ≡ f → Faulted ≡ status_of f (length code) a.counter a.steps limit → Stepped unit waiting means code limit a m false a m
      by (Some f) k h = idle a m (once_faulted unit code (run_of waiting means a m) (f.address, cause_of f.cause) (ap fault_of k))
      by None k h = clash (ltb (length code) a.counter) (ltb a.steps limit) h
        where
          clash : (b d : Bool) → Faulted ≡ cond b Ended (cond d Running AtLid) → Stepped unit waiting means code limit a m false a m
          clash true d h' = let z : ◌≡◌ {A = ℕ} 0 1 = cc in absurd (omega arith)
          clash false true h' = let z : ◌≡◌ {A = ℕ} 0 1 = cc in absurd (omega arith)
          clash false false h' = let z : ◌≡◌ {A = ℕ} 0 1 = cc in absurd (omega arith)

  pub not_running : (a : Core) (m : Memory U I O) (s : Status) → s ≡ status_of a.fault (length code) a.counter a.steps limit → s ≢ Running → Stepped unit waiting means code limit a m false a m
  not_running a m Running e ne = absurd (ne refl)
  not_running a m Ended e ne = has_ended a m e
  not_running a m Faulted e ne = has_faulted a m e
  not_running a m AtLid e ne =
      let none : 0 ≡ limit - a.steps = omega (arith, at_limit a.fault (length code) a.counter a.steps limit e) in
      record { moved = record { rests = ap (λ n. moves unit code n (run_of waiting means a m)) none; counted = refl }; kept = omega arith }

  abbrev at : Memory U I O → ℕ → ℕ → Option Fault → am.Run
  at n k s f = record { counter = k; stack = n.stack; world = world_of waiting means n; steps = s; fault = fault_of f }

  same_at : (n : Memory U I O) (k k' s s' : ℕ) (f f' : Option Fault) → k ≡ k' → s ≡ s' → f ≡ f' → at n k s f ≡ at n k' s' f'
  same_at n k k' s s' f f' ek es ef =
      ap (λ x. at n x s f) ek ∙ ap (λ x. at n k' x f) es ∙ ap (λ (x : Option Fault). at n k' s' x) ef

  close_is : {X : Type 0} (r : Result X Cause) (b e : Core) (n : Memory U I O) → b.fault ≡ None → Closed r b e → run_of waiting means e n ≡ closed r (run_of waiting means b n)
  close_is (Ok x) b e n clear c =
      same_at n e.counter b.counter e.steps (suc b.steps) e.fault None c.counter (c.steps ∙ add-one b.steps) (c.fault ∙ clear)
  close_is (Err q) b e n clear c =
      same_at n e.counter b.counter e.steps b.steps e.fault _ c.counter c.steps c.fault

  once_acted : (a : Core) (m : Memory U I O) (i : Instruction) → a.fault ≡ None → Some i ≡ fetch code a.counter → once unit code (run_of waiting means a m) ≡ stepped (run_of waiting means a m) (execute unit i a.counter m.stack (world_of waiting means m))
  once_acted a m i clear e =
      let p = run_of waiting means a m in
      ap (once_with unit p p.fault) (sym e) ∙ ap (λ f. once_with unit p (fault_of f) (Some i)) clear

  -- an instruction, and then the counting of its step or the keeping of its fault
  pub acted : {X : Type 0} (a b e : Core) (m n : Memory U I O) (i : Instruction) (r : Result X Cause) (made : Bool) → Running ≡ status_of a.fault (length code) a.counter a.steps limit → Some i ≡ fetch code a.counter → Acted unit waiting means i a m r b n → Closed r b e → made ≡ is_ok r → Stepped unit waiting means code limit a m made e n
  acted {X = X} a b e m n i r made run at d c v = record { moved = by r v d c; kept = d.rests }
    where
      clear : a.fault ≡ None
      clear = running_clear a.fault (length code) a.counter a.steps limit run

      lt : a.steps < limit
      lt = running_room a.fault (length code) a.counter a.steps limit run

      by : (r : Result X Cause) → made ≡ is_ok r → Acted unit waiting means i a m r b n → Closed r b e → OneStep unit waiting means code limit a m made e n
      by (Ok x) v d c =
          let ran : run_of waiting means e n ≡ once unit code (run_of waiting means a m) = close_is (Ok x) b e n (d.fault ∙ clear) c ∙ sym d.effect ∙ sym (once_acted a m i clear at) in
          rw v (record { ran = ran; counted = c.steps ∙ ap (λ s. s + 1) d.steps; below = lt })
      by (Err q) v d c =
          let ran : run_of waiting means e n ≡ once unit code (run_of waiting means a m) = close_is (Err q) b e n (d.fault ∙ clear) c ∙ sym d.effect ∙ sym (once_acted a m i clear at) in
          let stuck : once unit code (run_of waiting means e n) ≡ run_of waiting means e n = once_faulted unit code (run_of waiting means e n) (b.counter, cause_of q) (ap fault_of c.fault) in
          rw v (record { rests = moves_last unit code a.steps limit (run_of waiting means a m) (run_of waiting means e n) lt (sym ran) stuck; counted = c.steps ∙ d.steps })

  -- by whether a step was made
  pub made_of : (a b : Core) (m n : Memory U I O) (made : Bool) → Stepped unit waiting means code limit a m made b n → made ≡ true → Made unit waiting means code limit a m b n
  made_of a b m n true s e = s.moved
  made_of a b m n false s e = let z : ◌≡◌ {A = ℕ} 0 1 = cc in absurd (omega arith)

  pub halted_of : (a b : Core) (m n : Memory U I O) (made : Bool) → Stepped unit waiting means code limit a m made b n → made ≡ false → Halted unit waiting means code limit a m b n
  halted_of a b m n true s e = let z : ◌≡◌ {A = ℕ} 0 1 = cc in absurd (omega arith)
  halted_of a b m n false s e = s.moved
