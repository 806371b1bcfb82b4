-- What is promised of the runs of a program's code.
--   code_of                the published code of a program, linearised
--   total, advances        the sum of some allowances, and the run after advances with them
--   finishing              what is told of a run of some code
--   RunsMeanSources        any advances, then finishing, tell what the program means
--   narrowed               every number that had to be narrowed on the way to an outcome
--   NarrowsInside          all of those under one unit lie in its range and in another's
--   UnitsAgree             then the other unit gives the same
--   Call                   an advance as its caller sees it: the allowance, and the steps and status that it gave
--   Gave                   a call led from one run to another, and gave what it has
--   Reached                some calls, latest first, led from the start to a run
--   allowed, made          the sums of the calls' allowances and of their steps
--   Latest, Modest         the latest call's status, if there is a call; no call made more steps than allowed
--   Promised               what is owed of the report after some calls
--   Kept                   a report keeps that promise, whatever program, unit, tapes and calls led to the run
--   HistoriesMeanSources   finishing keeps it always
--   HistoriesExist         any allowances are those of some history, so that the promise is no empty talk
use Rattle.std.specs.Prelude.{◌≡◌, ℕ, ◌+◌, ◌≤◌, min, List, [], ◌∷◌, map, ℤ}
use Rattle.std.specs.List.{AllByRecursion}
use Rattle.syntax.specs.Tokens.{Name}
use Rattle.syntax.specs.Trees.{Program}
use Rattle.code.specs.declared.Instruction.{Instruction}
use Rattle.code.specs.World.{Tapes, Report, ArithmeticUnit, Inside, Lawful}
use Rattle.code.specs.Machine.{Run, start, advance, status, finish}
use Rattle.translator.specs.Linear.{Code, instructions, places}
use Rattle.translator.specs.Published.{trans, linearise}
use Rattle.meaning.specs.Meaning.{Outcome, goes_on, stops, fails, meaning_of_program, initial, meaning}
use Rattle.meaning.specs.Depth.{depth_of_statements}

abbrev pub code_of : Program Name → Code
code_of p = linearise (trans p)

-- ---- Any list of advances

abbrev pub total : List ℕ → ℕ
total [] = 0
total (n ∷ ns) = n + total ns

abbrev pub advances : ArithmeticUnit → List Instruction → ℕ → List ℕ → Run → Run
advances U code lid [] m = m
advances U code lid (n ∷ ns) m = advances U code lid ns (advance U code lid n m)

abbrev pub finishing : ℕ → Code → Run → Report
finishing lid code m = finish lid (instructions code) (places code) m

-- With the smaller of the lid and the sum of the allowances as ticks. Within 32 parentheses the machine's 68 stack words suffice.
abbrev pub RunsMeanSources : Type 0
RunsMeanSources = (U : ArithmeticUnit) (p : Program Name) → depth_of_statements p.statements ≤ 32 → (t : Tapes) (lid : ℕ) (ns : List ℕ) →
    finishing lid (code_of p) (advances U (instructions (code_of p)) lid ns (start t)) ≡ meaning U p t lid (min lid (total ns))

-- ---- Another unit

abbrev pub narrowed : {A : Type 0} → Outcome A → List ℤ
narrowed (goes_on v s) = s.narrowings
narrowed (stops s) = s.narrowings
narrowed (fails p f s) = s.narrowings

abbrev pub NarrowsInside : ArithmeticUnit → ArithmeticUnit → Program Name → Tapes → ℕ → Type 0
NarrowsInside U V p t n = AllByRecursion (λ z. Inside U z × Inside V z) (narrowed (meaning_of_program U p (initial t n)))

pub record UnitsAgree : Type 0 where
  pub meanings : (U V : ArithmeticUnit) → Lawful U → Lawful V → (p : Program Name) (t : Tapes) (n : ℕ) → NarrowsInside U V p t n →
      meaning_of_program U p (initial t n) ≡ meaning_of_program V p (initial t n)
  pub runs : (U V : ArithmeticUnit) → Lawful U → Lawful V → (p : Program Name) → depth_of_statements p.statements ≤ 32 → (t : Tapes) (lid : ℕ) (ns : List ℕ) →
      NarrowsInside U V p t (min lid (total ns)) →
      finishing lid (code_of p) (advances U (instructions (code_of p)) lid ns (start t))
      ≡ finishing lid (code_of p) (advances V (instructions (code_of p)) lid ns (start t))

-- ---- A run's history

pub record Call : Type 0 where
  pub allowance : ℕ
  pub steps : ℕ
  pub status : ℕ

pub record Gave (U : ArithmeticUnit) (code : List Instruction) (lid : ℕ) (c : Call) (before after : Run) : Type 0 where
  pub moved : after ≡ advance U code lid c.allowance before
  pub steps : before.steps + c.steps ≡ after.steps
  pub status : c.status ≡ status lid code after

abbrev pub Reached : ArithmeticUnit → List Instruction → ℕ → Tapes → List Call → Run → Type 0
Reached U code lid t [] m = m ≡ start t
Reached U code lid t (c ∷ cs) m = (before : Run) × Reached U code lid t cs before × Gave U code lid c before m

abbrev pub allowed : List Call → ℕ
allowed [] = 0
allowed (c ∷ cs) = c.allowance + allowed cs

abbrev pub made : List Call → ℕ
made [] = 0
made (c ∷ cs) = c.steps + made cs

abbrev pub Latest : List Call → ℕ → Type 0
Latest [] n = Unit {0}
Latest (c ∷ cs) n = c.status ≡ n

abbrev pub Modest : List Call → Type 0
Modest [] = Unit {0}
Modest (c ∷ cs) = (c.steps ≤ c.allowance) × Modest cs

-- The report r is what the program means with the allowances' sum up to the lid, and what it means under any other unit whose range
-- the narrowed numbers keep to; the steps given add up to the report's; the last status given is the report's.
pub record Promised (U : ArithmeticUnit) (p : Program Name) (t : Tapes) (lid : ℕ) (cs : List Call) (r : Report) : Type 0 where
  pub means : r ≡ meaning U p t lid (min lid (allowed cs))
  pub adds_up : made cs ≡ r.steps
  pub latest : Latest cs r.status
  pub modest : Modest cs
  pub other_unit : (V : ArithmeticUnit) → Lawful U → Lawful V → NarrowsInside U V p t (min lid (allowed cs)) →
      r ≡ meaning V p t lid (min lid (allowed cs))

abbrev pub Kept : ℕ → Code → Run → Report → Type 0
Kept lid code m r = (U : ArithmeticUnit) (p : Program Name) → code ≡ code_of p → depth_of_statements p.statements ≤ 32 → (t : Tapes) (cs : List Call) →
    Reached U (instructions code) lid t cs m → Promised U p t lid cs r

abbrev pub HistoriesMeanSources : Type 0
HistoriesMeanSources = (lid : ℕ) (code : Code) (m : Run) → Kept lid code m (finishing lid code m)

abbrev pub HistoriesExist : Type 0
HistoriesExist = (U : ArithmeticUnit) (code : List Instruction) (lid : ℕ) (t : Tapes) (ns : List ℕ) →
    (cs : List Call) × (m : Run) × Reached U code lid t cs m × (map (λ c. c.allowance) cs ≡ ns)
