-- What layers mean.
--   quota_means   a quota with some puts left, over a tape of some meaning
--   holder_means  a holder that keeps some words, over a tape of some meaning
--   Sent          a list of accepted puts
--   Moved         words went down from a layer
use Rattle.std.specs.Prelude.{◌≡◌, ℕ, ◌+◌, ◌-◌, min, cond, List, ◌++◌, length, ℤ, nat_le}
use Rattle.std.proofs.Common.{length-append, arith}
use Rattle.tapes.specs.declared.output.Reason.TheVariants.{Quota}
use Rattle.tapes.specs.Meaning.{Meaning, pinch_of, deeper, AtRest, KeptAtRest}

abbrev pub quota_means : ℕ → Meaning → Meaning
quota_means left m = record {
  written = m.written;
  rest = m.rest;
  room = min left m.room;
  pinch = cond (nat_le left m.room) (pinch_of 0 Quota) (deeper m.pinch);
}

-- the held words count as written; for each there is room below
abbrev pub holder_means : List ℤ → Meaning → Meaning
holder_means held m = record {
  written = m.written ++ held;
  rest = m.rest;
  room = m.room - length held;
  pinch = deeper m.pinch;
}

pub record Sent (m : Meaning) (xs : List ℤ) (n : Meaning) : Type 0 where
  pub written : n.written ≡ m.written ++ xs
  pub lower : n.room + length xs ≡ m.room
  pub pinch : n.pinch ≡ m.pinch
  pub rests : KeptAtRest m n

-- nothing of a layer's meaning changes, but that more may be at rest
pub record Moved (m n : Meaning) : Type 0 where
  pub written : n.written ≡ m.written
  pub room : n.room ≡ m.room
  pub pinch : n.pinch ≡ m.pinch
  pub rests : KeptAtRest m n

pub held_bounded : (held : List ℤ) (m : Meaning) → AtRest m → AtRest (holder_means held m)
held_bounded held m h = simp length-append (omega arith)
