-- From what an instruction did, and where the counter went, to what was executed.
use Rattle.std.proofs.Common.{◌≡◌, ℕ, suc, List, ℤ, Ok, Err, None, Some, Option, Result, sym, ap, ◌∙◌, add-one}
use Rattle.tapes.specs.Meaning.{Meaning}
use Rattle.code.specs.World as world
use Rattle.code.specs.World.{World}
use Rattle.code.specs.Machine.{Step, stepped}
use Rattle.code.specs.Machine as am
use Rattle.machine.specs.Numbers.{cause_of}
use Rattle.machine.specs.View.{world_of, run_of, closed, Did, Done}
use Rattle.machine.specs.Steps.{Went}
use Rattle.machine.specs.declared.fault.Cause.{Cause}
use Rattle.machine.specs.declared.run.Core.{Core}
use Rattle.machine.specs.declared.run.Memory.{Memory}

abbrev at : ℕ → List ℤ → World → ℕ → Option (ℕ × world.Fault) → am.Run
at k st w s f = record { counter = k; stack = st; world = w; steps = s; fault = f }

module _ {U I O : Type 0} (waiting : I → List ℤ) (means : O → Meaning) where
  pub executed : {X : Type 0} {s : Step} {a b : Core} {m n : Memory U I O} {r : Result X Cause} (r' : Result X Cause) → r' ≡ r → Went r a b → Did waiting means s a.counter m r n → Done waiting means s a m r' b n
  executed {X = X} {s = s} {a = a} {b = b} {m = m} {n = n} {r = r} r' e w d =
      record { effect = by r w d ∙ ap (λ x. closed x (run_of waiting means b n)) (sym e); rests = d.rests; steps = w.steps; fault = w.fault }
    where
      by : (r : Result X Cause) → Went r a b → Did waiting means s a.counter m r n → stepped (run_of waiting means a m) s ≡ closed r (run_of waiting means b n)
      by (Ok x) w d =
          ap (stepped (run_of waiting means a m)) d.effect
          ∙ ap (λ k. at k n.stack (world_of waiting means n) (suc a.steps) None) (sym (w.counter ∙ add-one a.counter))
          ∙ ap (λ k. at b.counter n.stack (world_of waiting means n) (suc k) None) (sym w.steps)
      by (Err c) w d =
          ap (stepped (run_of waiting means a m)) d.effect
          ∙ ap (λ k. at k m.stack (world_of waiting means n) a.steps (Some (k, cause_of c))) (sym w.counter)
          ∙ ap (λ st. at b.counter st (world_of waiting means n) a.steps (Some (b.counter, cause_of c))) (sym d.stays)
          ∙ ap (λ k. at b.counter n.stack (world_of waiting means n) k (Some (b.counter, cause_of c))) (sym w.steps)
