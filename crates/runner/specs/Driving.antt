-- What driving a run promises.
--   Told            a status was given, with this number
--   LastOf          the last status that the advances gave, if there was an advance, has this number
--   Meant           a report is what a program means with the ticks of some allowances under a lid, and what it means under any
--                   other unit whose range the narrowed numbers keep to
--   MeansSources    whatever source's code the image holds, the report is what the source means
use Rattle.std.specs.Prelude.{◌≡◌, ℕ, min, List, [], ◌∷◌, Some, None, Option}
use Rattle.syntax.specs.Tokens.{Name}
use Rattle.syntax.specs.Trees.{Program}
use Rattle.grammar.specs.Grammar.{ProgramTree}
use Rattle.code.specs.declared.Instruction.{Instruction}
use Rattle.code.specs.World.{Tapes, Report, ArithmeticUnit, Lawful}
use Rattle.translator.specs.Linear.{places}
use Rattle.translator.specs.Written.{words_of, Fits}
use Rattle.image.specs.Admission.{Decodes}
use Rattle.machine.specs.declared.status.Status.{Status}
use Rattle.machine.specs.Numbers.{status_number}
use Rattle.meaning.specs.Meaning.{meaning}
use Rattle.meaning.specs.Promise.{code_of, total, NarrowsInside}
use Rattle.meaning.specs.Sources.{Spells}

abbrev pub Told : Option Status → ℕ → Type 0
Told None n = ⊥
Told (Some s) n = status_number s ≡ n

abbrev pub LastOf : List ℕ → Option Status → ℕ → Type 0
LastOf [] last n = last ≡ None
LastOf (a ∷ rest) last n = Told last n

pub record Meant (U : ArithmeticUnit) (p : Program Name) (t : Tapes) (lid : ℕ) (ns : List ℕ) (r : Report) : Type 0 where
  pub means : r ≡ meaning U p t lid (min lid (total ns))
  pub other_unit : (V : ArithmeticUnit) → Lawful U → Lawful V → NarrowsInside U V p t (min lid (total ns)) → r ≡ meaning V p t lid (min lid (total ns))

-- the report depends on the place list, which is that of the source's code
abbrev pub MeansSources : ArithmeticUnit → Tapes → ℕ → List ℕ → List Instruction → (List ℕ → Report) → Type 0
MeansSources U t lid ns image report =
    (source : List ℕ) (tree : ProgramTree) (p : Program Name) → Spells source tree p → Fits (code_of p) → Decodes (words_of (code_of p)) image →
    Meant U p t lid ns (report (places (code_of p)))
