-- Input tapes by their waiting lists.
--   Taken   what taking from a list answers, and what it leaves
use Rattle.std.specs.Prelude.{◌≡◌, List, [], ◌∷◌, ℤ, Some, None, Option}

-- from the list `xs` the answer, and `ys` is left
abbrev pub Taken : List ℤ → Option ℤ → List ℤ → Type 0
Taken xs None ys = (xs ≡ []) × (ys ≡ [])
Taken xs (Some x) ys = xs ≡ x ∷ ys
