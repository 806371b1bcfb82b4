-- What a look-up answers.
use Rattle.std.proofs.Common.{◌≡◌, ℕ, zero, suc, ◌+◌, ◌-◌, ◌<◌, ◌≤◌, Bool, true, false, cond, List, [], ◌∷◌, length, Some, None, Option, sym, refl, ap, ◌∙◌, arith}
use Rattle.std.specs.Str.{bytes_eq}
use Rattle.std.proofs.lemmas.Slice.Eq.{bytes_eq-Decides}
use Rattle.std.specs.List.{position, position_from}
use Rattle.std.specs.Option.{option_map}
use Rattle.std.proofs.lemmas.Iterator.Adapters.{position_from-zero}
use Rattle.std.proofs.lemmas.Bool.{true≢false}
use Rattle.syntax.specs.declared.tree.Name as coded
use Rattle.syntax.specs.Tokens.{Name}
use Rattle.syntax.specs.TreeOf.{name_of, declared_of}
use Rattle.names.specs.Cells.{Entries, name_at, cell_from, cell_of, Undeclared, Looked}

-- the code counts the names in front of the first that is the same
pub cell_counts : (s : List ℕ) (x : Name) (ns : List coded.Name) → cell_of (declared_of s ns) x ≡ option_map (λ i. i + 1) (position (λ n. bytes_eq x (name_of s n)) ns)
cell_counts s x ns = counts_from 0 ns ∙ ap (option_map (λ i. i + 1)) (sym (position_from-zero test ns))
  where
    test : coded.Name → Bool
    test n = bytes_eq x (name_of s n)

    counts_from : (k : ℕ) (ns : List coded.Name) → cell_from (k + 1) (declared_of s ns) x ≡ option_map (λ i. i + 1) (position_from test k ns)
    counts_from k [] = refl
    counts_from k (n ∷ ns) = at (test n) (counts_from (k + 1) ns)
      where
        at : (t : Bool) → cell_from (k + 1 + 1) (declared_of s ns) x ≡ option_map (λ i. i + 1) (position_from test (k + 1) ns) →
            cond t (Some (k + 1)) (cell_from (k + 1 + 1) (declared_of s ns) x) ≡ option_map (λ i. i + 1) (cond t (Some k) (position_from test (k + 1) ns))
        at true h = refl
        at false h = h

record From (k : ℕ) (es : Entries) (x : Name) (c : ℕ) : Type 0 where
  first : k ≤ c
  last : c < k + length es
  named : name_at es (c - k) ≡ x
  earlier : (i : ℕ) → i < c - k → name_at es i ≡ x → ⊥

abbrev LookedFrom : ℕ → Entries → Name → Option ℕ → Type 0
LookedFrom k es x None = Undeclared es x
LookedFrom k es x (Some c) = From k es x c

differs : (x : Name) (e : Name × ℕ) → bytes_eq x e.0 ≡ false → e.0 ≡ x → ⊥
differs x e f same = true≢false (sym ((bytes_eq-Decides x e.0).1 (sym same)) ∙ f)

further : (k : ℕ) (e : Name × ℕ) (es : Entries) (x : Name) (o : Option ℕ) → bytes_eq x e.0 ≡ false → LookedFrom (k + 1) es x o → LookedFrom k (e ∷ es) x o
further k e es x None f h = undeclared
  where
    undeclared : Undeclared (e ∷ es) x
    undeclared zero l same = differs x e f same
    undeclared (suc i) l same = h i (omega arith) same
further k e es x (Some c) f h =
    let first = h.first in
    let last = h.last in
    let on : suc (c - (k + 1)) ≡ c - k = omega arith in
    record { first = omega arith; last = omega arith; named = ap (name_at (e ∷ es)) (sym on) ∙ h.named; earlier = earlier }
  where
    earlier : (i : ℕ) → i < c - k → name_at (e ∷ es) i ≡ x → ⊥
    earlier zero l same = differs x e f same
    earlier (suc i) l same = let first = h.first in h.earlier i (omega arith) same

looked_from : (k : ℕ) (es : Entries) (x : Name) → LookedFrom k es x (cell_from k es x)
looked_from k [] x = λ i l _. omega arith
looked_from k (e ∷ es) x = at (bytes_eq x e.0) refl (looked_from (k + 1) es x)
  where
    at : (t : Bool) → bytes_eq x e.0 ≡ t → LookedFrom (k + 1) es x (cell_from (k + 1) es x) → LookedFrom k (e ∷ es) x (cond t (Some k) (cell_from (k + 1) es x))
    at true f h =
        let none : 0 ≡ k - k = omega arith in
        record { first = omega arith; last = omega arith; named = ap (name_at (e ∷ es)) (sym none) ∙ sym ((bytes_eq-Decides x e.0).0 f); earlier = λ i l _. omega arith }
    at false f h = further k e es x (cell_from (k + 1) es x) f h

looked_one : (es : Entries) (x : Name) (o : Option ℕ) → LookedFrom 1 es x o → Looked es x o
looked_one es x None h = h
looked_one es x (Some c) h = let last = h.last in record { first = h.first; last = omega arith; named = h.named; earlier = h.earlier }

pub looked : (es : Entries) (x : Name) → Looked es x (cell_of es x)
looked es x = looked_one es x (cell_of es x) (looked_from 1 es x)
