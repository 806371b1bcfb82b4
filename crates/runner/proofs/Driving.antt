-- One advance more, and the end of a list of them.
use Rattle.std.proofs.Common.{◌≡◌, ℕ, ◌+◌, ◌<◌, List, [], ◌∷◌, ◌++◌, length, get_or, take, Some, Option, sym, refl, ap, ◌∙◌, subst}
use Rattle.std.proofs.lemmas.List.{take_more}
use Rattle.code.specs.declared.Instruction.{Instruction}
use Rattle.code.specs.World.{Tapes, Report, ArithmeticUnit}
use Rattle.code.specs.Machine.{Run, start, advance, status, finish}
use Rattle.code.specs.Words.{OneWordEach}
use Rattle.translator.specs.Linear.{places}
use Rattle.machine.specs.declared.status.Status.{Status}
use Rattle.machine.specs.Numbers.{status_number}
use Rattle.meaning.specs.Promise.{code_of, advances}
use Rattle.runner.specs.Calls.{Drive}
use Rattle.runner.proofs.Admitted.{drives_mean_sources}
use Rattle.runner.specs.Driving.{Told, LastOf, MeansSources}

advances_more : (U : ArithmeticUnit) (code : List Instruction) (lid : ℕ) (ns : List ℕ) (n : ℕ) (m : Run) →
    advances U code lid (ns ++ (n ∷ [])) m ≡ advance U code lid n (advances U code lid ns m)
advances_more U code lid [] n m = refl
advances_more U code lid (k ∷ ns) n m = advances_more U code lid ns n (advance U code lid k m)

pub one_more : (U : ArithmeticUnit) (code code' : List Instruction) (lid lid' : ℕ) (xs : List ℕ) (i : ℕ) (m q q' : Run) → i < length xs →
    code' ≡ code → lid' ≡ lid → q ≡ advances U code lid (take i xs) m → q' ≡ advance U code' lid' (get_or xs i 0) q →
    q' ≡ advances U code lid (take (i + 1) xs) m
one_more U code code' lid lid' xs i m q q' l ec el eq moved =
    moved
    ∙ ap (λ (c : List Instruction). advance U c lid' (get_or xs i 0) q) ec
    ∙ ap (λ (k : ℕ). advance U code k (get_or xs i 0) q) el
    ∙ ap (λ (r : Run). advance U code lid (get_or xs i 0) r) eq
    ∙ sym (advances_more U code lid (take i xs) (get_or xs i 0) m)
    ∙ ap (λ (ys : List ℕ). advances U code lid ys m) (sym (take_more xs i 0 l))

told_last : (ns : List ℕ) (n : ℕ) (last : Option Status) (k : ℕ) → Told last k → LastOf (ns ++ (n ∷ [])) last k
told_last [] n last k h = h
told_last (m ∷ ns) n last k h = h

pub last_more : (xs : List ℕ) (i : ℕ) (s : Status) (n : ℕ) → i < length xs → status_number s ≡ n → LastOf (take (i + 1) xs) (Some s) n
last_more xs i s n l e =
    subst (λ (ys : List ℕ). LastOf ys (Some s) n) (sym (take_more xs i 0 l)) (told_last (take i xs) (get_or xs i 0) (Some s) n e)

-- the same status and report under the same code and lid
pub status_same : (code code' : List Instruction) (lid lid' : ℕ) (q : Run) → code' ≡ code → lid' ≡ lid → status lid' code' q ≡ status lid code q
status_same code code' lid lid' q ec el = ap (λ (c : List Instruction). status lid' c q) ec ∙ ap (λ (k : ℕ). status k code q) el

pub finish_same : (code code' : List Instruction) (lid lid' : ℕ) (q q' : Run) (places : List ℕ) → code' ≡ code → lid' ≡ lid → q' ≡ q →
    finish lid' code' places q' ≡ finish lid code places q
finish_same code code' lid lid' q q' places ec el eq =
    ap (λ (c : List Instruction). finish lid' c places q') ec
    ∙ ap (λ (k : ℕ). finish k code places q') el
    ∙ ap (λ (r : Run). finish lid code places r) eq

pub advances_same : (U : ArithmeticUnit) (code code' : List Instruction) (lid lid' : ℕ) (ns ns' : List ℕ) (m m' : Run) →
    code' ≡ code → lid' ≡ lid → ns' ≡ ns → m' ≡ m → advances U code' lid' ns' m' ≡ advances U code lid ns m
advances_same U code code' lid lid' ns ns' m m' ec el en em =
    ap (λ (c : List Instruction). advances U c lid' ns' m') ec
    ∙ ap (λ (k : ℕ). advances U code k ns' m') el
    ∙ ap (λ (ys : List ℕ). advances U code lid ys m') en
    ∙ ap (λ (r : Run). advances U code lid ns r) em

-- what the report of a driven run means
pub driven_means : OneWordEach → (U : ArithmeticUnit) (t : Tapes) (lid : ℕ) (ns : List ℕ) (image : List Instruction) (report : List ℕ → Report) →
    ((places : List ℕ) → report places ≡ finish lid image places (advances U image lid ns (start t))) → MeansSources U t lid ns image report
driven_means each U t lid ns image report is source tree p spelled fits decodes =
    let r : Report = report (places (code_of p)) in
    let drive : Drive source p U t lid ns r =
    record { tree = tree; spelled = spelled; fits = fits; image = image; admitted = decodes; finished = is (places (code_of p)) } in
    record {
      means = (drives_mean_sources each).means source p U t lid ns r drive;
      other_unit = (drives_mean_sources each).other_unit source p U t lid ns r drive;
    }
