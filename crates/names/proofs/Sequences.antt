-- Names used one after another.
use Rattle.std.proofs.Common.{List, ◌+◌, length, get_or, drop, ◌≡◌, ℕ, zero, suc, ◌-◌, ◌<◌, Bool, true, false, cond, [], ◌∷◌, ◌++◌, is_some, Some, None, Ok, Err, Option, Result, sym, refl, ap, ◌∙◌, subst, arith}
use Rattle.std.proofs.lemmas.Bool.{false≢true, true≢false}
use Rattle.std.proofs.lemmas.List.{at_drop_more}
use Rattle.syntax.specs.Tokens.{Name}
use Rattle.syntax.specs.TreeOf.{statement_of, statements_of}
use Rattle.syntax.specs.declared.tree.Statement.{Statement}
use Rattle.names.specs.declared.refusals.Refusal.{Refusal}
use Rattle.names.specs.Cells.{Entries, name_at, cell_of, Undeclared, Looked}
use Rattle.syntax.specs.Trees.{Program}
use Rattle.names.specs.Declares.{Declaration}
use Rattle.names.specs.Uses.{uses_in_statement, uses_in_statements, Declared, AllDeclared, FirstUndeclared, first_undeclared, outcome}
use Rattle.names.specs.Names.{Answers}
use Rattle.names.proofs.Looks.{looked}

abbrev either : Option ℕ → Option ℕ → Option ℕ
either None o = o
either (Some p) o = Some p

both : (es us vs : Entries) → first_undeclared es (us ++ vs) ≡ either (first_undeclared es us) (first_undeclared es vs)
both es [] vs = refl
both es (u ∷ us) vs = ap (λ o. cond (is_some (cell_of es u.0)) o (Some u.1)) (both es us vs) ∙ at (is_some (cell_of es u.0)) (first_undeclared es us)
  where
    at : (t : Bool) (o : Option ℕ) → cond t (either o (first_undeclared es vs)) (Some u.1) ≡ either (cond t o (Some u.1)) (first_undeclared es vs)
    at true o = refl
    at false o = refl

-- one check, and another where the first finds nothing
abbrev pub checked : Result (Unit {0}) Refusal → Result (Unit {0}) Refusal → Result (Unit {0}) Refusal
checked (Ok x) r = r
checked (Err e) r = Err e

pub one_by_one : (es us vs : Entries) → outcome (first_undeclared es (us ++ vs)) ≡ checked (outcome (first_undeclared es us)) (outcome (first_undeclared es vs))
one_by_one es us vs = ap outcome (both es us vs) ∙ at (first_undeclared es us)
  where
    at : (o : Option ℕ) → outcome (either o (first_undeclared es vs)) ≡ checked (outcome o) (outcome (first_undeclared es vs))
    at None = refl
    at (Some p) = refl

-- a statement is checked before those behind it
pub statement_then : (s : List ℕ) (es : Entries) (xs : List Statement) (i : ℕ) (x : Statement) (r : Result (Unit {0}) Refusal) → i < length xs → x ≡ get_or xs i x → r ≡ outcome (first_undeclared es (uses_in_statement (statement_of s x))) →
    outcome (first_undeclared es (uses_in_statements (statements_of s (drop i xs)))) ≡ checked r (outcome (first_undeclared es (uses_in_statements (statements_of s (drop (i + 1) xs)))))
statement_then s es xs i x r h is answer =
    let rest : Entries = uses_in_statements (statements_of s (drop (i + 1) xs)) in
    at_drop_more (λ l. outcome (first_undeclared es (uses_in_statements (statements_of s l)))) xs i x h
    ∙ one_by_one es (uses_in_statement (statement_of s (get_or xs i x))) rest
    ∙ ap (λ y. checked (outcome (first_undeclared es (uses_in_statement (statement_of s y)))) (outcome (first_undeclared es rest))) (sym is)
    ∙ ap (λ q. checked q (outcome (first_undeclared es rest))) (sym answer)

abbrev FirstIf : Entries → Entries → Option ℕ → Type 0
FirstIf es us None = AllDeclared es us
FirstIf es us (Some p) = FirstUndeclared es us p

declared_if : (es : Entries) (x : Name) (o : Option ℕ) → is_some o ≡ true → Looked es x o → Declared es x
declared_if es x None e l = absurd (false≢true e)
declared_if es x (Some c) e l = let first = l.first in let last = l.last in (c - 1, omega arith, l.named)

unknown_if : (es : Entries) (x : Name) (o : Option ℕ) → is_some o ≡ false → Looked es x o → Undeclared es x
unknown_if es x None e l = l
unknown_if es x (Some c) e l = absurd (true≢false e)

later : (es : Entries) (u : Name × ℕ) (us : Entries) (o : Option ℕ) → Declared es u.0 → FirstIf es us o → FirstIf es (u ∷ us) o
later es u us None d h = all
  where
    all : AllDeclared es (u ∷ us)
    all zero l = d
    all (suc j) l = h j (omega arith)
later es u us (Some p) d h = let within = h.within in record { index = suc h.index; within = omega arith; stands = h.stands; unknown = h.unknown; known = known }
  where
    known : (j : ℕ) → j < suc h.index → Declared es (name_at (u ∷ us) j)
    known zero l = d
    known (suc j) l = h.known j (omega arith)

pub first_undeclared_lem : (es us : Entries) → FirstIf es us (first_undeclared es us)
first_undeclared_lem es [] = λ j l. absurd (omega arith)
first_undeclared_lem es (u ∷ us) = at (is_some (cell_of es u.0)) refl (first_undeclared_lem es us)
  where
    at : (t : Bool) → is_some (cell_of es u.0) ≡ t → FirstIf es us (first_undeclared es us) → FirstIf es (u ∷ us) (cond t (first_undeclared es us) (Some u.1))
    at true e h = later es u us (first_undeclared es us) (declared_if es u.0 (cell_of es u.0) e (looked es u.0)) h
    at false e h =
        record { index = 0; within = omega arith; stands = refl; unknown = unknown_if es u.0 (cell_of es u.0) e (looked es u.0); known = λ j l. absurd (omega arith) }

-- the questions put to a whole program
module _ (p : Program Name) (r : Result (Unit {0}) Refusal) where
  pub used : Declaration p.declared → r ≡ outcome (first_undeclared p.declared (uses_in_statements p.statements)) → Answers p r
  used d e = let P : Result (Unit {0}) Refusal → Type 0 = λ q. Answers p q in subst P (sym e) (at (first_undeclared p.declared (uses_in_statements p.statements)) (first_undeclared_lem p.declared (uses_in_statements p.statements)))
    where
      at : (o : Option ℕ) → FirstIf p.declared (uses_in_statements p.statements) o → Answers p (outcome o)
      at None h = record { declaration = d; used = h }
      at (Some q) h = (d, h)
