-- A declaration, name by name.
use Rattle.std.proofs.Common.{◌≡◌, ℕ, ◌+◌, ◌-◌, ◌<◌, ◌≤◌, true, false, ◌⊎◌, List, [], length, get_or, take, is_some, Some, None, Option, sym, refl, ap, ◌∙◌, subst, inl, inr, arith}
use Rattle.std.proofs.lemmas.List.{get_or-take, length-take-le}
use Rattle.std.proofs.lemmas.Bool.{cases_order, false≢true, true≢false}
use Rattle.syntax.specs.declared.tree.Name as coded
use Rattle.syntax.specs.Tokens.{Name}
use Rattle.syntax.specs.TreeOf.{name_of, declared_of}
use Rattle.names.specs.Cells.{Entries, name_at, place_at, cell_of, Cell, Undeclared, Looked}
use Rattle.names.specs.Declares.{Apart, Declaration, Repeat}
use Rattle.names.proofs.Looks.{looked}
use Rattle.names.proofs.Spells.{length_entries, take_entries, entry_at}

-- a name that none of those before it equals
apart_more : (es : Entries) (i : ℕ) → i < length es → Apart es i → Undeclared (take i es) (name_at es i) → Apart es (i + 1)
apart_more es i h apart fresh j k l m same = at (cases_order k i)
  where
    at : (k ≡ i) ⊎ ((k < i) ⊎ (i < k)) → ⊥
    at (inl e) =
        let n : j < i = omega arith in
        fresh j (omega (arith, length-take-le i es (omega arith))) (ap (λ x. x.0) (get_or-take i es j ([], 0) n) ∙ same ∙ ap (name_at es) e)
    at (inr (inl n)) = apart j k l n same
    at (inr (inr n)) = omega arith

repeat_at : (es : Entries) (i c place : ℕ) → i < length es → Apart es i → Cell (take i es) (name_at es i) c → place ≡ place_at es i → Repeat es place
repeat_at es i c place h apart cell stands =
    let first = cell.first in
    let last = cell.last in
    let in_front : c - 1 < i = omega (arith, length-take-le i es (omega arith)) in
    record { index = i; within = h; stands = stands; earlier = c - 1; before = in_front; same = ap (λ x. x.0) (sym (get_or-take i es (c - 1) ([], 0) in_front)) ∙ cell.named; apart = apart }

next_apart : (es : Entries) (i : ℕ) (o : Option ℕ) → i < length es → Apart es i → is_some o ≡ false → Looked (take i es) (name_at es i) o → Apart es (i + 1)
next_apart es i None h apart e l = apart_more es i h apart l
next_apart es i (Some c) h apart e l = absurd (true≢false e)

next_repeats : (es : Entries) (i : ℕ) (o : Option ℕ) (place : ℕ) → i < length es → Apart es i → is_some o ≡ true → Looked (take i es) (name_at es i) o → place ≡ place_at es i → Repeat es place
next_repeats es i None place h apart e l stands = absurd (false≢true e)
next_repeats es i (Some c) place h apart e l stands = repeat_at es i c place h apart l stands

cell_is : (es : Entries) (i : ℕ) (o : Option ℕ) → Apart es (length es) → i < length es → Looked es (name_at es i) o → o ≡ Some (i + 1)
cell_is es i None apart h l = absurd (l i h refl)
cell_is es i (Some c) apart h l = ap Some (at (cases_order (c - 1) i))
  where
    at : (c - 1 ≡ i) ⊎ ((c - 1 < i) ⊎ (i < c - 1)) → c ≡ i + 1
    at (inl e) = let first = l.first in omega arith
    at (inr (inl n)) = absurd (apart (c - 1) i n h l.named)
    at (inr (inr n)) = absurd (l.earlier i n refl)

declared : (es : Entries) → length es ≤ 64 → Apart es (length es) → Declaration es
declared es few once = record { few = few; once = once; cells = λ i h. cell_is es i (cell_of es (name_at es i)) once h (looked es (name_at es i)) }

-- as the code looks a name up, among those before it
module _ (s : List ℕ) (ns : List coded.Name) (i : ℕ) (d : coded.Name) (h : i < length ns) (o : Option ℕ) (found : Looked (declared_of s (take i ns)) (name_of s (get_or ns i d)) o) where
  among : Looked (take i (declared_of s ns)) (name_at (declared_of s ns) i) o
  among =
      let P : Entries → Type 0 = λ es. Looked es (name_at (declared_of s ns) i) o in
      let Q : Name → Type 0 = λ x. Looked (declared_of s (take i ns)) x o in
      subst P (take_entries s ns i) (subst Q (sym (ap (λ e. e.0) (entry_at s ns i d h))) found)

  within : i < length (declared_of s ns)
  within = omega (arith, length_entries s ns)

  pub fresh : Apart (declared_of s ns) i → is_some o ≡ false → Apart (declared_of s ns) (i + 1)
  fresh apart e = next_apart (declared_of s ns) i o within apart e among

  pub repeats : Apart (declared_of s ns) i → is_some o ≡ true → Repeat (declared_of s ns) (get_or ns i d).place
  repeats apart e = next_repeats (declared_of s ns) i o (get_or ns i d).place within apart e among (sym (ap (λ e. e.1) (entry_at s ns i d h)))

pub too_many : (s : List ℕ) (ns : List coded.Name) (d : coded.Name) → 64 < length ns → (64 < length (declared_of s ns)) × ((get_or ns 64 d).place ≡ place_at (declared_of s ns) 64)
too_many s ns d h = (omega (arith, length_entries s ns), sym (ap (λ e. e.1) (entry_at s ns 64 d h)))

pub few : (s : List ℕ) (ns : List coded.Name) → length ns ≤ 64 → length (declared_of s ns) ≤ 64
few s ns h = omega (arith, length_entries s ns)

pub all_apart : (s : List ℕ) (ns : List coded.Name) (i : ℕ) → length ns ≤ 64 → length ns ≤ i → Apart (declared_of s ns) i → Declaration (declared_of s ns)
all_apart s ns i h l apart = declared (declared_of s ns) (few s ns h) (λ j k m n. apart j k m (omega (arith, length_entries s ns)))
