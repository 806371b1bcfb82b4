-- The cells of declared names.
--   Entries      names, each with the place where it stands, in the order of the source
--   name_at      the name with this index
--   place_at     its place
--   cell_from    which entry is the first with a name, counted from a number on
--   cell_of      which entry is the first with a name, counted from 1
--   Cell         the c-th entry has the name, and none before it has
--   Undeclared   no entry has the name
--   Looked       what a look-up answers
use Rattle.std.specs.Prelude.{◌≡◌, ℕ, ◌+◌, ◌-◌, ◌<◌, ◌≤◌, cond, List, [], ◌∷◌, length, Some, None, Option, ◌≢◌, slice_index_or}
use Rattle.std.specs.Str.{bytes_eq}
use Rattle.syntax.specs.Tokens.{Name}

abbrev pub Entries : Type 0
Entries = List (Name × ℕ)

abbrev pub name_at : Entries → ℕ → Name
name_at es i = (slice_index_or es i ([], 0)).0

abbrev pub place_at : Entries → ℕ → ℕ
place_at es i = (slice_index_or es i ([], 0)).1

abbrev pub cell_from : ℕ → Entries → Name → Option ℕ
cell_from k [] x = None
cell_from k (e ∷ es) x = cond (bytes_eq x e.0) (Some k) (cell_from (k + 1) es x)

abbrev pub cell_of : Entries → Name → Option ℕ
cell_of es x = cell_from 1 es x

pub record Cell (es : Entries) (x : Name) (c : ℕ) : Type 0 where
  pub first : 1 ≤ c
  pub last : c ≤ length es
  pub named : name_at es (c - 1) ≡ x
  pub earlier : (i : ℕ) → i < c - 1 → name_at es i ≢ x

abbrev pub Undeclared : Entries → Name → Type 0
Undeclared es x = (i : ℕ) → i < length es → name_at es i ≢ x

abbrev pub Looked : Entries → Name → Option ℕ → Type 0
Looked es x None = Undeclared es x
Looked es x (Some c) = Cell es x c
