-- The published code is the linear code of the tree with the meaning's cells for names.
use Rattle.std.proofs.Common.{◌≡◌, ℕ, suc, ◌+◌, Bool, true, false, cond, List, [], ◌∷◌, Some, refl, ap, ◌∙◌, arith}
use Rattle.std.specs.Str.{bytes_eq}
use Rattle.syntax.specs.Tokens.{Name}
use Rattle.syntax.specs.Trees.{Statements, Program}
use Rattle.names.specs.Cells.{cell_from}
use Rattle.translator.specs.Cells.{cells_of_statements}
use Rattle.translator.specs.Linear.{linear_code}
use Rattle.translator.specs.Published.{symbols, mksymtab}
use Rattle.translator.proofs.Labels.{linearised}
use Rattle.meaning.specs.Meaning.{numbered, cell_by}
use Rattle.meaning.specs.Promise.{code_of}

symbols_are : (k : ℕ) (ids : List (Name × ℕ)) (x : Name) → symbols k ids x ≡ numbered (cell_from k ids x)
symbols_are k [] x = refl
symbols_are k (id ∷ ids) x = by_sameness (bytes_eq x id.0) (symbols_are (suc k) ids x ∙ ap (λ (n : ℕ). numbered (cell_from n ids x)) later)
  where
    later : suc k ≡ k + 1
    later = omega arith

    by_sameness : (b : Bool) → symbols (suc k) ids x ≡ numbered (cell_from (k + 1) ids x) →
        cond b k (symbols (suc k) ids x) ≡ numbered (cond b (Some k) (cell_from (k + 1) ids x))
    by_sameness true e = refl
    by_sameness false e = e

-- the tree with the meaning's cells
abbrev pub tree : Program Name → Statements ℕ
tree p = cells_of_statements (cell_by p.declared) p.statements

pub code_is : (p : Program Name) → code_of p ≡ linear_code (tree p)
code_is p =
    linearised (mksymtab p.declared) p.statements
    ∙ ap (λ (tab : Name → ℕ). linear_code (cells_of_statements tab p.statements)) (λ i x. symbols_are 1 p.declared x i)
