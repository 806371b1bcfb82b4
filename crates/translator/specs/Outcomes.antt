-- What translating a program comes to.
--   code_of          a program's code
--   ProgramRefused   the first of the questions 6 to 10 that is answered no
--   ProgramOutcome   the names are as they should be and the code is stored; or it is refused, and both buffers stay as they were
use Rattle.std.specs.Prelude.{◌≡◌, ℕ, List, Ok, Err, Result}
use Rattle.syntax.specs.Tokens.{Name}
use Rattle.syntax.specs.Trees.{Program}
use Rattle.names.specs.Names.{Named, Refuses}
use Rattle.translator.specs.declared.refusals.Refusal.{Refusal}
use Rattle.translator.specs.declared.refusals.Refusal.TheVariants.{Naming, TooMuchCode, SmallBuffer, NoMemory}
use Rattle.translator.specs.Linear.{Code}
use Rattle.translator.specs.Published.{trans, linearise}
use Rattle.translator.specs.Written.{Stored, Unstored}

abbrev pub code_of : Program Name → Code
code_of p = linearise (trans p)

abbrev pub ProgramRefused : Program Name → List ℕ → List ℕ → Refusal → Type 0
ProgramRefused p code places (Naming e) = Refuses p e
ProgramRefused p code places (TooMuchCode q) = Named p × Unstored (code_of p) code places (TooMuchCode q)
ProgramRefused p code places SmallBuffer = Named p × Unstored (code_of p) code places SmallBuffer
ProgramRefused p code places NoMemory = Unit {0}

abbrev pub ProgramOutcome : Program Name → List ℕ → List ℕ → Result ℕ Refusal → List ℕ → List ℕ → Type 0
ProgramOutcome p code places (Ok n) code' places' = Named p × Stored (code_of p) code places n code' places'
ProgramOutcome p code places (Err e) code' places' = ProgramRefused p code places e × (code' ≡ code) × (places' ≡ places)
