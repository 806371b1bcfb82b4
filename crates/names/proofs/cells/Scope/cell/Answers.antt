use Rattle.std.proofs.Common.{rules, tests, ◌≡◌, ℕ, ◌+◌, Option, sym, ap, ◌∙◌, subst}
use Rattle.std.proofs.lemmas.Iterator.{YieldsList-from_slice}
use Rattle.std.proofs.lemmas.Iterator.Search.{position_from_yields_List}
use Rattle.std.specs.List.{position}
use Rattle.std.specs.Option.{option_map}
use Rattle.std.specs.Str.{bytes_eq}
use Rattle.syntax.specs.TreeOf.{name_of}
use Rattle.names.specs.Cells.{cell_of, Looked}
use Rattle.names.specs.Scopes.{entries}
use Rattle.names.proofs.Looks.{cell_counts, looked}
use Rattle.names.proofs.cells.Scope.cell.Goals as goal

pub returns : goal.returns
returns c =
    let s = c.args.self.now.source.now in
    let es = entries c.args.self.now in
    let x = name_of s c.args.name in
    let first : c.position.result ≡ position (λ n. bytes_eq x (name_of s n)) c.args.self.now.declared.now =
    position_from_yields_List (λ n. bytes_eq x (name_of s n)) _ _ c.position.result c.position.ensures.ran (YieldsList-from_slice c.args.self.now.declared.now c.iter.ensures.rest) (λ y b q k. search (rules, tests)) in
    let counted : c.map.result ≡ option_map (λ i. i + 1) c.position.result = search rules in
    let is : c.map.result ≡ cell_of es x = counted ∙ ap (option_map (λ i. i + 1)) first ∙ sym (cell_counts s x c.args.self.now.declared.now) in
    let P : Option ℕ → Type 0 = λ o. Looked es x o in
    record { value = is; looked = subst P (sym is) (looked es x) }
