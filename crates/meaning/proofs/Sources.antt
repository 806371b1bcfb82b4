-- A source's code, run from its first address, comes to what the source means.
use Rattle.std.proofs.Common.{◌≡◌, ℕ, zero, suc, ◌≤◌, List, [], ◌∷◌, None, Option, refl, ap, ◌∙◌, arith}
use Rattle.syntax.specs.Trees.{Statements}
use Rattle.code.specs.declared.Instruction.{Instruction}
use Rattle.code.specs.World.{World, ArithmeticUnit}
use Rattle.code.specs.Machine.{execute, nth, fetch}
use Rattle.translator.specs.Cells.{cells_of_statements}
use Rattle.translator.specs.Linear.{Code, instructions, places, past, linear_code}
use Rattle.meaning.specs.Meaning.{State, Outcome, goes_on, stops, fails, meaning_of_statements}
use Rattle.meaning.specs.Depth.{depth_of_statements}
use Rattle.meaning.proofs.Finals.{ended, running, failed, at_instruction, go_on, run, named, verdict}
use Rattle.meaning.proofs.Follow.{follow, at_self, R}
use Rattle.meaning.proofs.Statements.{from, statements_run}

past_suc : {A : Type 0} (a : ℕ) (xs : List A) → past (suc a) xs ≡ suc (past a xs)
past_suc a [] = refl
past_suc a (x ∷ xs) = past_suc (suc a) xs

past_instructions : (a : ℕ) (xs : Code) → past a xs ≡ past a (instructions xs)
past_instructions a [] = refl
past_instructions a (x ∷ xs) = past_instructions (suc a) xs

nth_end : {A : Type 0} (xs : List A) → nth xs (past 0 xs) ≡ None
nth_end [] = refl
nth_end (x ∷ xs) = ap (λ (k : ℕ). nth (x ∷ xs) k) (past_suc 0 xs) ∙ nth_end xs

fetch_end : (code : Code) → fetch (instructions code) (past 1 code) ≡ None
fetch_end code =
    ap (λ (k : ℕ). fetch (instructions code) k) (past_instructions 1 code ∙ past_suc 0 (instructions code)) ∙ nth_end (instructions code)

at_end : (U : ArithmeticUnit) (code : Code) (n : ℕ) (w : World) → R U code n (past 1 code) [] w ≡ ended w n
at_end U code zero w =
    ap (λ (o : Option Instruction). named (places code) (at_instruction o (ended w 0) (λ i. running w))) (fetch_end code)
at_end U code (suc n) w =
    ap (λ (o : Option Instruction). named (places code) (at_instruction o (ended w (suc n))
    (λ i. go_on (execute U i (past 1 code) [] w) (λ a' st' w'. run U (instructions code) n a' st' w')
    (λ c w'. failed (past 1 code) c w' (suc n))))) (fetch_end code)

module _ {N : Type 0} (cell : N → ℕ) (U : ArithmeticUnit) where
  verdict_is : (code : Code) (o : Outcome (Unit {0})) → follow o (λ _ s. from U code cell (past 1 code) s) ≡ verdict o
  verdict_is code (goes_on v s) = at_end U code s.left s.world
  verdict_is code (stops s) = refl
  verdict_is code (fails p c s) = refl

  pub source_runs : (ss : Statements N) → depth_of_statements ss ≤ 32 → (s : State) →
      (let code : Code = linear_code (cells_of_statements cell ss) in named (places code) (run U (instructions code) s.left 1 [] s.world))
      ≡ verdict (meaning_of_statements cell U ss s)
  source_runs ss d s =
      let code : Code = linear_code (cells_of_statements cell ss) in
      statements_run U code cell ss (suc s.left) 1 d (at_self code) s (omega arith) ∙ verdict_is code (meaning_of_statements cell U ss s)
