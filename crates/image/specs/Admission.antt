-- Which words make an image, and how others are refused. Addresses count from 1.
--   Decodes         these are the instructions whose words those are
--   FirstNone       the first word that is no instruction's has this address
--   FirstOutside    the first instruction whose cell or target does not exist has this address
--   Outside         all words are instructions', and that is the first outside
--   Admitted        the instructions of an image for these words
--   Refuses         what each refusal says of the words
use Rattle.std.specs.Prelude.{◌≡◌, ℕ, ◌+◌, ◌-◌, ◌<◌, ◌≤◌, true, false, List, ◌∷◌, ◌++◌, map, length, take, ◌≢◌, slice_index}
use Rattle.std.specs.List.{AllByRecursion}
use Rattle.code.specs.declared.Instruction.{Instruction}
use Rattle.code.specs.Words.{word_of, InRange}
use Rattle.image.specs.Bounds.{inside, all_inside}
use Rattle.image.specs.declared.refusals.Refusal.{Refusal}
use Rattle.image.specs.declared.refusals.Refusal.TheVariants.{TooLong, NotInstruction, OutOfBounds, NoMemory}

pub record Decodes (ws : List ℕ) (is : List Instruction) : Type 0 where
  pub words : map word_of is ≡ ws
  pub ranges : AllByRecursion InRange is

pub record FirstNone (ws : List ℕ) (k : ℕ) : Type 0 where
  pub counted : 1 ≤ k
  pub within : k ≤ length ws
  pub before : (is : List Instruction) × Decodes (take (k - 1) ws) is
  pub none : (i : Instruction) → InRange i → word_of i ≢ slice_index ws (k - 1)

pub record FirstOutside (len : ℕ) (is : List Instruction) (k : ℕ) : Type 0 where
  pub before : List Instruction
  pub here : Instruction
  pub after : List Instruction
  pub parts : is ≡ before ++ here ∷ after
  pub place : length before + 1 ≡ k
  pub good : all_inside len before ≡ true
  pub bad : inside len here ≡ false

pub record Outside (ws : List ℕ) (k : ℕ) : Type 0 where
  pub instructions : List Instruction
  pub decodes : Decodes ws instructions
  pub first : FirstOutside (length ws) instructions k

pub record Admitted (ws : List ℕ) (is : List Instruction) : Type 0 where
  pub few : length ws ≤ 4096
  pub decodes : Decodes ws is
  pub sound : all_inside (length ws) is ≡ true

-- want of memory is met only where the words are few enough
abbrev pub Refuses : List ℕ → Refusal → Type 0
Refuses ws TooLong = 4096 < length ws
Refuses ws (NotInstruction k) = (length ws ≤ 4096) × FirstNone ws k
Refuses ws (OutOfBounds k) = (length ws ≤ 4096) × Outside ws k
Refuses ws NoMemory = length ws ≤ 4096
