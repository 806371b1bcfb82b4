-- Finishing tells what a run comes to.
use Rattle.std.proofs.Common.{◌≡◌, ℕ, zero, suc, ◌+◌, ◌-◌, ◌≤◌, cond, eqb, ◌⊎◌, List, [], ℤ, Some, None, Option, sym, refl, ap, ◌∙◌, subst, ap₂, inl, inr, arith}
use Rattle.syntax.specs.Tokens.{Name}
use Rattle.syntax.specs.Trees.{Program}
use Rattle.code.specs.declared.Instruction.{Instruction}
use Rattle.code.specs.World.{Tapes, World, Fault, Report, ArithmeticUnit}
use Rattle.code.specs.Machine.{Step, moved, faulted, execute, fetch, Run, start, stepped, once_with, moves, status_with, placed, or_zero}
use Rattle.translator.specs.Linear.{Code, instructions, places, linear_code}
use Rattle.meaning.specs.Meaning.{Outcome, goes_on, stops, fails, initial, reported, cell_by, meaning_of_program, meaning}
use Rattle.meaning.specs.Depth.{depth_of_statements}
use Rattle.meaning.specs.Promise.{code_of, finishing}
use Rattle.meaning.proofs.Finals.{Final, ended, running, failed, at_instruction, go_on, run, named, verdict}
use Rattle.meaning.proofs.Sources.{source_runs}
use Rattle.meaning.proofs.Cells.{tree, code_is}
use Rattle.meaning.proofs.Moves.{stopped_with, moves_rest, going_start}

module _ (U : ArithmeticUnit) (code : List Instruction) where
  -- what a run of n steps comes to, by its state
  abbrev outcome_with : ℕ → Run → Option (ℕ × Fault) → Option Instruction → Final
  outcome_with n m (Some f) i = failed f.0 f.1 m.world (n - m.steps)
  outcome_with n m None None = ended m.world (n - m.steps)
  outcome_with n m None (Some i) = running m.world

  abbrev outcome : ℕ → Run → Final
  outcome n m = outcome_with n m m.fault (fetch code m.counter)

  abbrev at_run : ℕ → List ℤ → World → ℕ → Run
  at_run a st w s = record { counter = a; stack = st; world = w; steps = s; fault = None }

  zero_is : (s : ℕ) (m : Run) (w : World) (i : Option Instruction) → m.steps ≡ s → m.world ≡ w →
      at_instruction i (ended w 0) (λ _. running w) ≡ outcome_with (s + 0) m None i
  zero_is s m w None e f = ap₂ (λ (x : World) (n : ℕ). ended x n) (sym f) (omega arith)
  zero_is s m w (Some i) e f = ap (λ (x : World). running x) (sym f)

  run_moves : (n a : ℕ) (st : List ℤ) (w : World) (s : ℕ) → run U code n a st w ≡ outcome (s + n) (moves U code n (at_run a st w s))
  run_moves zero a st w s = zero_is s (at_run a st w s) w (fetch code a) refl refl
  run_moves (suc n) a st w s = by_fetch (λ a' st' w'. run_moves n a' st' w' (suc s)) (fetch code a) refl
    where
      Rest : Type 0
      Rest = (a' : ℕ) (st' : List ℤ) (w' : World) → run U code n a' st' w' ≡ outcome (suc s + n) (moves U code n (at_run a' st' w' (suc s)))

      by_step : Rest → (x : Step) →
          go_on x (λ a' st' w'. run U code n a' st' w') (λ c w'. failed a c w' (suc n)) ≡ outcome (s + suc n) (moves U code n (stepped (at_run a st w s) x))
      by_step ih (moved a' st' w') = ih a' st' w' ∙ ap (λ (z : ℕ). outcome z (moves U code n (at_run a' st' w' (suc s)))) (omega arith)
      by_step ih (faulted c w') =
          ap (λ (z : ℕ). failed a c w' z) (omega arith)
          ∙ ap (λ (x : Run). outcome (s + suc n) x) (sym (moves_rest U code n (stepped (at_run a st w s) (faulted c w')) tt))

      by_fetch : Rest → (i : Option Instruction) → i ≡ fetch code a →
          at_instruction i (ended w (suc n)) (λ j. go_on (execute U j a st w) (λ a' st' w'. run U code n a' st' w') (λ c w'. failed a c w' (suc n)))
          ≡ outcome (s + suc n) (moves U code n (once_with U (at_run a st w s) None i))
      by_fetch ih None e =
          ap (λ (z : ℕ). ended w z) (omega arith)
          ∙ ap (λ (o : Option Instruction). outcome_with (s + suc n) (at_run a st w s) None o) e
          ∙ ap (λ (x : Run). outcome (s + suc n) x) (sym (moves_rest U code n (at_run a st w s) (subst (λ (o : Option Instruction). stopped_with None o) e tt)))
      by_fetch ih (Some j) e = by_step ih (execute U j a st w)

  -- the report by an outcome
  abbrev report : ℕ → ℕ → Final → Report
  report lid n (ended w k) = record { world = w; steps = n - k; status = 1; fault = None }
  report lid n (running w) = record { world = w; steps = n; status = cond (eqb n lid) 3 0; fault = None }
  report lid n (failed p c w k) = record { world = w; steps = n - k; status = 2; fault = Some (p, c) }

  abbrev telling : ℕ → List ℕ → Run → Option (ℕ × Fault) → Option Instruction → Report
  telling lid ps m f i = record { world = m.world; steps = m.steps; status = status_with lid m.steps f i; fault = placed ps f }

  steps_gone : (n : ℕ) (m : Run) → ((m.steps ≡ n) ⊎ (Unit {0} × (m.steps ≤ n))) → m.steps ≡ n - (n - m.steps)
  steps_gone n m (inl e) = omega arith
  steps_gone n m (inr h) = omega (arith, h.1)

  tell_is : (lid n : ℕ) (ps : List ℕ) (m : Run) (f : Option (ℕ × Fault)) (i : Option Instruction) → ((m.steps ≡ n) ⊎ (stopped_with f i × (m.steps ≤ n))) →
      telling lid ps m f i ≡ report lid n (named ps (outcome_with n m f i))
  tell_is lid n ps m (Some f) i g = ap (λ (z : ℕ). record { world = m.world; steps = z; status = 2; fault = Some (or_zero (fetch ps f.0), f.1) }) (steps_gone n m g)
  tell_is lid n ps m None None g = ap (λ (z : ℕ). record { world = m.world; steps = z; status = 1; fault = None }) (steps_gone n m g)
  tell_is lid n ps m None (Some i) (inl e) = ap (λ (z : ℕ). record { world = m.world; steps = z; status = cond (eqb z lid) 3 0; fault = None }) e
  tell_is lid n ps m None (Some i) (inr h) = absurd h.0

  report_verdict : (lid n : ℕ) (o : Outcome (Unit {0})) → report lid n (verdict o) ≡ reported lid n o
  report_verdict lid n (goes_on v s) = refl
  report_verdict lid n (stops s) = refl
  report_verdict lid n (fails p c s) = refl

-- after n moves, finishing tells what the program means with n ticks
pub moves_mean : (U : ArithmeticUnit) (p : Program Name) → depth_of_statements p.statements ≤ 32 → (t : Tapes) (lid n : ℕ) →
    finishing lid (code_of p) (moves U (instructions (code_of p)) n (start t)) ≡ meaning U p t lid n
moves_mean U p d t lid n =
    ap (λ (c : Code). finishing lid c (moves U (instructions c) n (start t))) (code_is p)
    ∙ tell_is U code lid n (places (linear_code (tree p))) m m.fault (fetch code m.counter) (going_start U code t n)
    ∙ ap (λ (x : Final). report U code lid n (named (places (linear_code (tree p))) x))
    ((let e : n ≡ 0 + n = omega arith in ap (λ (z : ℕ). outcome U code z m) e) ∙ sym (run_moves U code n 1 [] (initial t n).world 0))
    ∙ ap (λ (x : Final). report U code lid n x) (source_runs (cell_by p.declared) U p.statements d (initial t n))
    ∙ report_verdict U code lid n (meaning_of_program U p (initial t n))
  where
    code : List Instruction
    code = instructions (linear_code (tree p))

    m : Run
    m = moves U code n (start t)
