-- What translating leaves in the two buffers, and the last two questions.
--   WordOf     the word of an instruction that has one
--   words_of   the words of some code
--   Fits       every instruction of some code has a word
--   Written    a buffer holds these words, and behind them what it held before
--   Stored     code within 4,096 instructions and both buffers: its length is answered, and the buffers hold its words and places
--   Unstored   why code is refused: 9 at the place of the 4,097th instruction, or 10
--   Outcome    one of the two; where the code is refused both buffers stay as they were
use Rattle.std.specs.Prelude.{◌≡◌, ℕ, ◌<◌, ◌≤◌, ◌⊎◌, List, ◌++◌, map, length, drop, Ok, Err, Result, slice_index}
use Rattle.std.specs.List.{AllByRecursion}
use Rattle.code.specs.declared.Instruction.{Instruction}
use Rattle.code.specs.Words.{word_of, InRange}
use Rattle.translator.specs.declared.refusals.Refusal.{Refusal}
use Rattle.translator.specs.declared.refusals.Refusal.TheVariants.{Naming, TooMuchCode, SmallBuffer, NoMemory}
use Rattle.translator.specs.Linear as linear
use Rattle.translator.specs.Linear.{Code}

pub record WordOf (i : Instruction) (word : ℕ) : Type 0 where
  pub range : InRange i
  pub is : word ≡ word_of i

abbrev pub words_of : Code → List ℕ
words_of c = map (λ x. word_of x.0) c

abbrev pub Fits : Code → Type 0
Fits c = AllByRecursion (λ x. InRange x.0) c

abbrev pub Written : List ℕ → List ℕ → List ℕ → Type 0
Written words before after = after ≡ words ++ drop (length words) before

pub record Stored (c : Code) (code places : List ℕ) (n : ℕ) (code' places' : List ℕ) : Type 0 where
  pub size : n ≡ length c
  pub short : length c ≤ 4096
  pub room : (length c ≤ length code) × (length c ≤ length places)
  pub fits : Fits c
  pub words : Written (words_of c) code code'
  pub tokens : Written (linear.places c) places places'

abbrev pub Unstored : Code → List ℕ → List ℕ → Refusal → Type 0
Unstored c code places (TooMuchCode p) = (4096 < length c) × (p ≡ slice_index (linear.places c) 4096)
Unstored c code places SmallBuffer = (length c ≤ 4096) × ((length code < length c) ⊎ (length places < length c))
Unstored c code places NoMemory = Unit {0}
Unstored c code places (Naming e) = ⊥

abbrev pub Outcome : Code → List ℕ → List ℕ → Result ℕ Refusal → List ℕ → List ℕ → Type 0
Outcome c code places (Ok n) code' places' = Stored c code places n code' places'
Outcome c code places (Err e) code' places' = Unstored c code places e × (code' ≡ code) × (places' ≡ places)
