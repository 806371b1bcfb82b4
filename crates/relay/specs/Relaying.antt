-- What a relay puts on its output tape.
--   puts        of some numbers, those that are put where there is some room: each narrowed, left out where nothing comes
--   Delivered   what becomes of one number
use Rattle.std.specs.Prelude.{◌≡◌, ℕ, zero, suc, List, [], ◌∷◌, ℤ, Some, None, Option, Ok, Err, Result}
use Rattle.tapes.specs.Meaning.{Meaning, Appended}
use Rattle.relay.specs.declared.relay.Undelivered.{Undelivered}
use Rattle.relay.specs.declared.relay.Undelivered.TheVariants.{OutOfRange, NoRoom}

-- one number in front of others, by what narrowing it gives and the room
abbrev pub before : Option ℤ → ℕ → (ℕ → List ℤ) → List ℤ
before None room others = others room
before (Some v) zero others = others zero
before (Some v) (suc room) others = v ∷ others room

abbrev pub puts : (ℤ → Option ℤ) → List ℤ → ℕ → List ℤ
puts narrow [] room = []
puts narrow (x ∷ xs) room = before (narrow x) room (λ r. puts narrow xs r)

abbrev pub Delivered : (ℤ → Option ℤ) → Meaning → ℤ → Result ℤ Undelivered → Meaning → Type 0
Delivered narrow m x (Ok v) n = (narrow x ≡ Some v) × Appended m v n
Delivered narrow m x (Err OutOfRange) n = (narrow x ≡ None) × (n ≡ m)
Delivered narrow m x (Err (NoRoom v p)) n = (narrow x ≡ Some v) × (m.room ≡ 0) × (p ≡ m.pinch) × (n ≡ m)
