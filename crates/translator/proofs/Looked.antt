-- The symbol table and the look-up of declared names agree.
use Rattle.std.proofs.Common.{◌≡◌, ℕ, zero, suc, ◌+◌, ◌<◌, ◌≤◌, true, false, cond, [], ◌∷◌, length, Some, unwrap_or, sym, refl, ap, ◌∙◌, arith}
use Rattle.std.specs.Str.{bytes_eq}
use Rattle.std.proofs.lemmas.Slice.Eq.{bytes_eq-Decides}
use Rattle.syntax.specs.Tokens.{Name}
use Rattle.names.specs.Cells.{Entries, name_at, cell_from, cell_of}
use Rattle.names.specs.Uses.{Declared}
use Rattle.translator.specs.Published.{symbols, mksymtab}

symbols_from : (k : ℕ) (es : Entries) (x : Name) → symbols k es x ≡ unwrap_or (cell_from k es x) 0
symbols_from k [] x = refl
symbols_from k (e ∷ es) x =
    elim (bytes_eq x e.0) as (λ b. cond b k (symbols (suc k) es x) ≡ unwrap_or (cond b (Some k) (cell_from (k + 1) es x)) 0) [
      | true ↦ refl
      | false ↦ (let h : suc k ≡ k + 1 = omega arith in ap (λ j. symbols j es x) h ∙ symbols_from (k + 1) es x)
    ]

pub mksymtab_is : (es : Entries) (x : Name) → mksymtab es x ≡ unwrap_or (cell_of es x) 0
mksymtab_is es x = symbols_from 1 es x

-- a declared name has a cell, and no cell is behind the last
pub declared_cell : (k : ℕ) (es : Entries) (x : Name) → Declared es x → suc k ≤ symbols (suc k) es x
declared_cell k [] x d = absurd (none d.0 d.1)
  where
    none : (i : ℕ) → i < 0 → ⊥
    none i h = omega arith
declared_cell k (e ∷ es) x d =
    elim (bytes_eq x e.0) as (λ b. (x ≡ e.0 → b ≡ true) → suc k ≤ cond b (suc k) (symbols (suc (suc k)) es x)) [
      | true ↦ (λ f. omega arith)
      | false ↦ (λ f. later d.0 d.1 d.2 f (declared_cell (suc k) es x))
    ] (bytes_eq-Decides x e.0).1
  where
    absent : false ≡ true → ⊥
    absent g = let z : ◌≡◌ {A = ℕ} 0 1 = cc in omega arith

    later : (i : ℕ) → i < length (e ∷ es) → name_at (e ∷ es) i ≡ x → (x ≡ e.0 → false ≡ true) → (Declared es x → suc (suc k) ≤ symbols (suc (suc k)) es x) → suc k ≤ symbols (suc (suc k)) es x
    later zero h g f ih = absurd (absent (f (sym g)))
    later (suc i) h g f ih = let r : suc (suc k) ≤ symbols (suc (suc k)) es x = ih (i, omega arith, g) in omega arith

pub symbols_below : (k : ℕ) (es : Entries) (x : Name) → symbols (suc k) es x ≤ k + length es
symbols_below k [] x = omega arith
symbols_below k (e ∷ es) x =
    elim (bytes_eq x e.0) as (λ b. cond b (suc k) (symbols (suc (suc k)) es x) ≤ k + length (e ∷ es)) [ true ↦ omega arith | false ↦ omega (arith, symbols_below (suc k) es x) ]
