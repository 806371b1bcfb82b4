-- What an output tape means, and what each call makes of that.
--   Meaning      the list written, how many of it are at rest, the room and the pinch
--   reason_number  the number of a pinch's reason
--   pinch_of, deeper  a pinch; the same as a layer above tells it
--   Appended     an accepted put
--   Put          a put, by its answer
--   settled      all at rest
--   AtRest, KeptAtRest      what is promised of the count at rest between settlings
--   Filling, unwritten      what is written in memory given at the start, and the room left; nothing written yet
--   filling_means           what an output tape over such memory means
use Rattle.std.specs.Prelude.{◌≡◌, ℕ, ◌+◌, ◌-◌, ◌^◌, ◌<◌, ◌≤◌, min, List, [], ◌∷◌, ◌++◌, length, ℤ, Ok, Err, Result}
use Rattle.std.proofs.Common.{arith}
use Rattle.tapes.specs.declared.output.Pinch.{Pinch}
use Rattle.tapes.specs.declared.output.Reason.{Reason}
use Rattle.tapes.specs.declared.output.Reason.TheVariants.{Full, Quota}

pub record Meaning : Type 0 where
  pub written : List ℤ
  pub rest : ℕ
  pub room : ℕ
  pub pinch : Pinch

abbrev pub reason_number : Reason → ℕ
reason_number Full = 1
reason_number Quota = 2

abbrev pub pinch_of : ℕ → Reason → Pinch
pinch_of d r = record { depth = d; reason = r }

-- the depth stops at the greatest 32-bit number
abbrev pub deeper : Pinch → Pinch
deeper p = pinch_of (min (p.depth + 1) (2 ^ 32 - 1)) p.reason

-- no more are at rest than are written
abbrev pub AtRest : Meaning → Type 0
AtRest m = m.rest ≤ length m.written

-- from m to n the count at rest does not fall
abbrev pub KeptAtRest : Meaning → Meaning → Type 0
KeptAtRest m n = m.rest ≤ n.rest

pub record Appended (m : Meaning) (x : ℤ) (n : Meaning) : Type 0 where
  pub free : 0 < m.room
  pub written : n.written ≡ m.written ++ x ∷ []
  pub lower : n.room + 1 ≡ m.room
  pub pinch : n.pinch ≡ m.pinch
  pub rests : KeptAtRest m n

abbrev pub Put : Meaning → ℤ → Result (Unit {0}) Pinch → Meaning → Type 0
Put m x (Ok _) n = Appended m x n
Put m x (Err p) n = (m.room ≡ 0) × (p ≡ m.pinch) × (n ≡ m)

abbrev pub settled : Meaning → Meaning
settled m = record { written = m.written; rest = length m.written; room = m.room; pinch = m.pinch }

-- what is written in memory given at the start, and for how many more numbers it has room
pub record Filling : Type 0 where
  pub written : List ℤ
  pub room : ℕ

abbrev pub unwritten : ℕ → Filling
unwritten room = record { written = []; room = room }

-- there all that is written is at rest
abbrev pub filling_means : Filling → Meaning
filling_means f = record { written = f.written; rest = length f.written; room = f.room; pinch = pinch_of 0 Full }

pub filling_bounded : (f : Filling) → AtRest (filling_means f)
filling_bounded f = omega arith
