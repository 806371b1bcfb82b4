-- What sources and machine both speak of. No act stands here.
--   Tapes            both tapes by their meanings: waiting list, list written, room, and pinch (depth and reason: 1 full, 2 quota)
--   World            cells and tapes; a cell is unset (None) or holds a number
--   Fault            a cause from 20 on, and for 21 the pinch
--   Report           what is told at the end; a fault comes with the place of its token
--   ArithmeticUnit   a range, and how exact numbers are brought into it
--   Inside           a number lies in a unit's range
--   Lawful           the laws of a unit
use Rattle.std.specs.Prelude.{◌≡◌, ℕ, List, ℤ, pos, negsuc, ◌≤ℤ◌, Some, None, Option}

pub record Tapes : Type 0 where
  pub waiting : List ℤ
  pub written : List ℤ
  pub room : ℕ
  pub pinch : ℕ × ℕ

pub record World : Type 0 where
  pub cells : List (Option ℤ)
  pub tapes : Tapes

pub record Fault : Type 0 where
  pub cause : ℕ
  pub pinch : Option (ℕ × ℕ)

-- a fault that holds no pinch
abbrev pub plain : ℕ → Fault
plain n = record { cause = n; pinch = None }

pub record Report : Type 0 where
  pub world : World
  pub steps : ℕ
  pub status : ℕ
  pub fault : Option (ℕ × Fault)

pub record ArithmeticUnit : Type 0 where
  pub least : ℤ
  pub greatest : ℤ
  pub narrow : ℤ → Option ℤ

abbrev pub Inside : ArithmeticUnit → ℤ → Type 0
Inside U z = (U.least ≤ℤ z) × (z ≤ℤ U.greatest)

-- the range lies inside signed 32 bits and around −1 to 1; a number inside it comes back as itself; what comes is inside it
pub record Lawful (U : ArithmeticUnit) : Type 0 where
  pub small : (negsuc 2147483647 ≤ℤ U.least) × (U.greatest ≤ℤ pos 2147483647)
  pub wide : (U.least ≤ℤ negsuc 0) × (pos 1 ≤ℤ U.greatest)
  pub keeps : (z : ℤ) → Inside U z → U.narrow z ≡ Some z
  pub lands : (z v : ℤ) → U.narrow z ≡ Some v → Inside U v
