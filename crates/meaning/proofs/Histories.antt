-- What histories of calls lead to, and the promise.
use Rattle.std.proofs.Common.{◌≡◌, ℕ, ◌+◌, ◌-◌, ◌≤◌, min, List, [], ◌∷◌, map, sym, refl, ap, ◌∙◌, subst, inl, arith}
use Rattle.syntax.specs.Tokens.{Name}
use Rattle.syntax.specs.Trees.{Program}
use Rattle.code.specs.declared.Instruction.{Instruction}
use Rattle.code.specs.World.{Tapes, ArithmeticUnit, Lawful}
use Rattle.code.specs.Machine.{Run, start, moves, advance, status}
use Rattle.translator.specs.Linear.{Code, instructions}
use Rattle.code.proofs.Moving.{moves_add}
use Rattle.meaning.specs.Meaning.{Outcome, initial, reported, cell_by, meaning}
use Rattle.meaning.specs.Depth.{depth_of_statements}
use Rattle.meaning.specs.Promise.{code_of, total, finishing, RunsMeanSources, UnitsAgree, NarrowsInside, Call, Reached, allowed, made, Latest, Modest, Promised, HistoriesMeanSources, HistoriesExist}
use Rattle.meaning.proofs.Units.{unit_change}
use Rattle.meaning.proofs.Moves.{advances_moves, moves_steps, advance_moves, going_start}
use Rattle.meaning.proofs.Reports.{moves_mean}

module _ (U : ArithmeticUnit) (code : List Instruction) where
  reached_moves : (lid : ℕ) (t : Tapes) (cs : List Call) (m : Run) → Reached U code lid t cs m → m ≡ moves U code (min lid (allowed cs)) (start t)
  reached_moves lid t [] m h = h ∙ (let e : 0 ≡ min lid 0 = omega arith in ap (λ (n : ℕ). moves U code n (start t)) e)
  reached_moves lid t (c ∷ cs) m h =
      let j : ℕ = min lid (allowed cs) in
      let x : Run = moves U code j (start t) in
      h.2.moved
      ∙ ap (λ (y : Run). advance U code lid c.allowance y) (reached_moves lid t cs h.0 h.1)
      ∙ advance_moves U code lid c.allowance j x (going_start U code t j)
      ∙ sym (moves_add U code j (min c.allowance (lid - j)) (start t))
      ∙ (let e : j + min c.allowance (lid - j) ≡ min lid (c.allowance + allowed cs) = omega arith in
      ap (λ (n : ℕ). moves U code n (start t)) e)

  reached_made : (lid : ℕ) (t : Tapes) (cs : List Call) (m : Run) → Reached U code lid t cs m → made cs ≡ m.steps
  reached_made lid t [] m h = ap (λ (x : Run). x.steps) (sym h)
  reached_made lid t (c ∷ cs) m h = let e : made cs ≡ h.0.steps = reached_made lid t cs h.0 h.1 in omega (arith, h.2.steps)

  reached_latest : (lid : ℕ) (t : Tapes) (cs : List Call) (m : Run) → Reached U code lid t cs m → Latest cs (status lid code m)
  reached_latest lid t [] m h = tt
  reached_latest lid t (c ∷ cs) m h = h.2.status

  reached_modest : (lid : ℕ) (t : Tapes) (cs : List Call) (m : Run) → Reached U code lid t cs m → Modest cs
  reached_modest lid t [] m h = tt
  reached_modest lid t (c ∷ cs) m h =
      let before : Run = h.0 in
      let k : ℕ = min c.allowance (lid - before.steps) in
      let e : m.steps ≡ (moves U code k before).steps = ap (λ (x : Run). x.steps) h.2.moved in
      let l : (moves U code k before).steps ≤ before.steps + k = (moves_steps U code k before).1 in
      (omega (arith, h.2.steps), reached_modest lid t cs before h.1)

pub histories_exist : HistoriesExist
histories_exist U code lid t [] = ([], start t, refl, refl)
histories_exist U code lid t (n ∷ ns) =
    let h : (cs : List Call) × (m : Run) × Reached U code lid t cs m × (map (λ c. c.allowance) cs ≡ ns) = histories_exist U code lid t ns in
    let before : Run = h.1 in
    let m : Run = advance U code lid n before in
    let l : before.steps ≤ m.steps = (moves_steps U code (min n (lid - before.steps)) before).0 in
    let c : Call = record { allowance = n; steps = m.steps - before.steps; status = status lid code m } in (
      c ∷ h.0,
      m,
      (before, h.2, record { moved = refl; steps = omega arith; status = refl }),
      ap (λ (r : List ℕ). n ∷ r) h.3,
    )

pub runs_mean_sources : RunsMeanSources
runs_mean_sources U p d t lid ns =
    let code : List Instruction = instructions (code_of p) in
    ap (λ (x : Run). finishing lid (code_of p) x)
    (advances_moves U code lid ns 0 (start t) (omega arith) (inl refl)
    ∙ (let e : min (lid - 0) (total ns) ≡ min lid (total ns) = omega arith in ap (λ (z : ℕ). moves U code z (start t)) e))
    ∙ moves_mean U p d t lid (min lid (total ns))

meanings_agree : (U V : ArithmeticUnit) → Lawful U → Lawful V → (p : Program Name) (t : Tapes) (lid n : ℕ) → NarrowsInside U V p t n →
    meaning U p t lid n ≡ meaning V p t lid n
meanings_agree U V lawU lawV p t lid n h =
    ap (λ (o : Outcome (Unit {0})). reported lid n o) (unit_change U V lawU lawV (cell_by p.declared) p.statements (initial t n) h)

pub units_agree : UnitsAgree
units_agree = record {
  meanings = λ U V lawU lawV p t n h. unit_change U V lawU lawV (cell_by p.declared) p.statements (initial t n) h;
  runs = λ U V lawU lawV p d t lid ns h.
      runs_mean_sources U p d t lid ns
      ∙ meanings_agree U V lawU lawV p t lid (min lid (total ns)) h
      ∙ sym (runs_mean_sources V p d t lid ns);
}

promised : (U : ArithmeticUnit) (p : Program Name) → depth_of_statements p.statements ≤ 32 → (t : Tapes) (lid : ℕ) (cs : List Call) (m : Run) →
    Reached U (instructions (code_of p)) lid t cs m → Promised U p t lid cs (finishing lid (code_of p) m)
promised U p d t lid cs m h =
    let code : List Instruction = instructions (code_of p) in
    let n : ℕ = min lid (allowed cs) in
    let means : finishing lid (code_of p) m ≡ meaning U p t lid n =
    ap (λ (x : Run). finishing lid (code_of p) x) (reached_moves U code lid t cs m h) ∙ moves_mean U p d t lid n in
    record {
      means = means;
      adds_up = reached_made U code lid t cs m h;
      latest = reached_latest U code lid t cs m h;
      modest = reached_modest U code lid t cs m h;
      other_unit = λ V lawU lawV k. means ∙ meanings_agree U V lawU lawV p t lid n k;
    }

pub histories_mean_sources : HistoriesMeanSources
histories_mean_sources lid code m U p e d t cs h =
    subst (λ (c : Code). Reached U (instructions c) lid t cs m → Promised U p t lid cs (finishing lid c m)) (sym e)
    (λ r. promised U p d t lid cs m r) h
