-- The questions put to a declaration.
--   Apart         the first n names are different from one another
--   Declaration   at most 64 names, each declared once; so the names have the cells 1, 2, … as declared
--   Repeat        the first name that equals an earlier one stands at this place
--   number_of     the number of a refusal
--   place_of      the place of a refusal
--   Refuses       what a refusal of a declaration says
use Rattle.std.specs.Prelude.{◌≡◌, ℕ, ◌+◌, ◌<◌, ◌≤◌, length, Some, ◌≢◌}
use Rattle.names.specs.declared.refusals.Refusal.{Refusal}
use Rattle.names.specs.declared.refusals.Refusal.TheVariants as refusal
use Rattle.names.specs.Cells.{Entries, name_at, place_at, cell_of}

abbrev pub Apart : Entries → ℕ → Type 0
Apart es n = (i j : ℕ) → i < j → j < n → name_at es i ≢ name_at es j

pub record Declaration (es : Entries) : Type 0 where
  pub few : length es ≤ 64
  pub once : Apart es (length es)
  pub cells : (i : ℕ) → i < length es → cell_of es (name_at es i) ≡ Some (i + 1)

pub record Repeat (es : Entries) (place : ℕ) : Type 0 where
  pub index : ℕ
  pub within : index < length es
  pub stands : place ≡ place_at es index
  pub earlier : ℕ
  pub before : earlier < index
  pub same : name_at es earlier ≡ name_at es index
  pub apart : Apart es index

abbrev pub number_of : Refusal → ℕ
number_of (refusal.TooMany p) = 6
number_of (refusal.Repeated p) = 7
number_of (refusal.Undeclared p) = 8

abbrev pub place_of : Refusal → ℕ
place_of (refusal.TooMany p) = p
place_of (refusal.Repeated p) = p
place_of (refusal.Undeclared p) = p

abbrev pub Refuses : Entries → Refusal → Type 0
Refuses es (refusal.TooMany p) = (64 < length es) × (p ≡ place_at es 64)
Refuses es (refusal.Repeated p) = (length es ≤ 64) × Repeat es p
Refuses es (refusal.Undeclared p) = ⊥
