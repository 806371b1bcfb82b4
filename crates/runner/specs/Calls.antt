-- From a source to the report of its run, by whoever makes the calls.
--   Calls                what the contracts of the calls say together: a source was translated, its words admitted, a run started,
--                        moved by some advances (latest first) and finished with a report
--   CallsMeanSources     then the report is what the source's program means, with all that is promised of it
--   Drive                the same where a list of allowances was advanced through, first to last
--   DrivesMeanSources    then the report is what the program means, and what it means under another unit
--   AlwaysAdmitted       admission refuses the code of a program that is accepted for want of memory only
use Rattle.std.specs.Prelude.{◌≡◌, ℕ, ◌≤◌, min, List, length}
use Rattle.syntax.specs.Tokens.{Name}
use Rattle.syntax.specs.Trees.{Program}
use Rattle.grammar.specs.Grammar.{ProgramTree}
use Rattle.names.specs.Names.{Named}
use Rattle.code.specs.declared.Instruction.{Instruction}
use Rattle.code.specs.World.{Tapes, Report, ArithmeticUnit, Lawful}
use Rattle.code.specs.Machine.{Run, start, finish}
use Rattle.translator.specs.Linear.{places}
use Rattle.translator.specs.Written.{words_of, Fits}
use Rattle.image.specs.Admission.{Decodes, Refuses}
use Rattle.image.specs.declared.refusals.Refusal.{Refusal}
use Rattle.image.specs.declared.refusals.Refusal.TheVariants.{NoMemory}
use Rattle.meaning.specs.Meaning.{meaning}
use Rattle.meaning.specs.Promise.{code_of, total, advances, NarrowsInside, Call, Reached, Promised}
use Rattle.meaning.specs.Sources.{Spells}

pub record Calls (source : List ℕ) (p : Program Name) (U : ArithmeticUnit) (t : Tapes) (lid : ℕ) (cs : List Call) (r : Report) : Type 0 where
  pub tree : ProgramTree
  pub spelled : Spells source tree p
  pub fits : Fits (code_of p)
  pub image : List Instruction
  pub admitted : Decodes (words_of (code_of p)) image
  pub run : Run
  pub reached : Reached U image lid t cs run
  pub finished : r ≡ finish lid image (places (code_of p)) run

abbrev pub CallsMeanSources : Type 0
CallsMeanSources =
    (source : List ℕ) (p : Program Name) (U : ArithmeticUnit) (t : Tapes) (lid : ℕ) (cs : List Call) (r : Report) →
    Calls source p U t lid cs r → Promised U p t lid cs r

pub record Drive (source : List ℕ) (p : Program Name) (U : ArithmeticUnit) (t : Tapes) (lid : ℕ) (ns : List ℕ) (r : Report) : Type 0 where
  pub tree : ProgramTree
  pub spelled : Spells source tree p
  pub fits : Fits (code_of p)
  pub image : List Instruction
  pub admitted : Decodes (words_of (code_of p)) image
  pub finished : r ≡ finish lid image (places (code_of p)) (advances U image lid ns (start t))

pub record DrivesMeanSources : Type 0 where
  pub means : (source : List ℕ) (p : Program Name) (U : ArithmeticUnit) (t : Tapes) (lid : ℕ) (ns : List ℕ) (r : Report) →
      Drive source p U t lid ns r → r ≡ meaning U p t lid (min lid (total ns))
  pub other_unit : (source : List ℕ) (p : Program Name) (U : ArithmeticUnit) (t : Tapes) (lid : ℕ) (ns : List ℕ) (r : Report) →
      Drive source p U t lid ns r → (V : ArithmeticUnit) → Lawful U → Lawful V → NarrowsInside U V p t (min lid (total ns)) →
      r ≡ meaning V p t lid (min lid (total ns))

abbrev pub AlwaysAdmitted : Type 0
AlwaysAdmitted =
    (p : Program Name) → Named p → Fits (code_of p) → length (code_of p) ≤ 4096 → (e : Refusal) → Refuses (words_of (code_of p)) e → e ≡ NoMemory
