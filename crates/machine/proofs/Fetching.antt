-- Instructions at addresses.
use Rattle.std.proofs.Common.{◌≡◌, ℕ, zero, suc, ◌-◌, ◌<◌, ◌≤◌, Bool, true, false, ◌&&◌, leb, List, [], ◌∷◌, length, get_or, Some, None, Option, sym, refl, ap, ◌∙◌, arith, Bor}
use Rattle.std.specs.Option.{option_map}
use Rattle.std.specs.Slice.{IsGetResult}
use Rattle.std.proofs.lemmas.Bool.Decides.{nat_tests}
use Rattle.code.specs.declared.Instruction.{Instruction}
use Rattle.code.specs.Machine.{nth, fetch}
use Rattle.image.specs.Bounds.{inside, all_inside}

nth_past : {X : Type 0} (xs : List X) (k : ℕ) → length xs ≤ k → nth xs k ≡ None
nth_past [] k h = refl
nth_past (x ∷ xs) zero h = let no_such : ⊥ = omega arith in absurd no_such
nth_past (x ∷ xs) (suc k) h = nth_past xs k (omega arith)

nth_read : {X : Type 0} (xs : List X) (k : ℕ) (v : X) → k < length xs → v ≡ get_or xs k v → nth xs k ≡ Some v
nth_read [] k v h e = let no_such : ⊥ = omega arith in absurd no_such
nth_read (x ∷ xs) zero v h e = ap Some (sym e)
nth_read (x ∷ xs) (suc k) v h e = nth_read xs k v (omega arith) e

fetch_nth : {X : Type 0} (xs : List X) (a : ℕ) → 1 ≤ a → fetch xs a ≡ nth xs (a - 1)
fetch_nth xs a h = let e : a ≡ suc (a - 1) = omega arith in ap (fetch xs) e

-- what `get` and then `copied` answer
pub picked : {X : Type 0} (xs : List X) (a : ℕ) (r : Option (Bor X)) → 1 ≤ a → IsGetResult xs (a - 1) (a - 1) r → option_map (λ x. x.now) r ≡ fetch xs a
picked xs a None l h = sym (fetch_nth xs a l ∙ nth_past xs (a - 1) h.3)
picked xs a (Some x) l h = sym (fetch_nth xs a l ∙ nth_read xs (a - 1) x.now h.3.0 h.1)

pub fetch_past : {X : Type 0} (xs : List X) (a : ℕ) → length xs < a → fetch xs a ≡ None
fetch_past xs a h = fetch_nth xs a (omega arith) ∙ nth_past xs (a - 1) (omega arith)

nth_some : {X : Type 0} (xs : List X) (k : ℕ) → k < length xs → (x : X) × (nth xs k ≡ Some x)
nth_some [] k h = let no_such : ⊥ = omega arith in absurd no_such
nth_some (x ∷ xs) zero h = (x, refl)
nth_some (x ∷ xs) (suc k) h = nth_some xs k (omega arith)

pub fetch_some : {X : Type 0} (xs : List X) (a : ℕ) → 1 ≤ a → a ≤ length xs → (x : X) × (fetch xs a ≡ Some x)
fetch_some xs a l h = let n = nth_some xs (a - 1) (omega arith) in (n.0, fetch_nth xs a l ∙ n.1)

and_left : (a b : Bool) → (a && b) ≡ true → a ≡ true
and_left true b e = refl
and_left false b e = e

and_right : (a b : Bool) → (a && b) ≡ true → b ≡ true
and_right true b e = e
and_right false b e = let z : ◌≡◌ {A = ℕ} 0 1 = cc in absurd (omega arith)

-- a cell or target between 1 and m
pub between : (n m : ℕ) → (leb 1 n && leb n m) ≡ true → (1 ≤ n) × (n ≤ m)
between n m e =
    let a = and_left (leb 1 n) (leb n m) e in
    let b = and_right (leb 1 n) (leb n m) e in
    (grind (arith, nat_tests), grind (arith, nat_tests))

inside_nth : (len : ℕ) (code : List Instruction) (k : ℕ) (i : Instruction) → all_inside len code ≡ true → nth code k ≡ Some i → inside len i ≡ true
inside_nth len [] k i h e = let z : ◌≡◌ {A = ℕ} 0 1 = cc in absurd (omega arith)
inside_nth len (j ∷ js) zero i h e = let f : j ≡ i = cc in rw f at (and_left (inside len j) (all_inside len js) h)
inside_nth len (j ∷ js) (suc k) i h e = inside_nth len js k i (and_right (inside len j) (all_inside len js) h) e

pub inside_at : (len : ℕ) (code : List Instruction) (a : ℕ) (i : Instruction) → all_inside len code ≡ true → Some i ≡ fetch code a → inside len i ≡ true
inside_at len code zero i h e = let z : ◌≡◌ {A = ℕ} 0 1 = cc in absurd (omega arith)
inside_at len code (suc k) i h e = inside_nth len code k i h (sym e)
