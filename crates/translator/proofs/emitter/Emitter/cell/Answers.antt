use Rattle.std.proofs.Common.{◌≡◌, sym, ap, ◌∙◌, unwrap_or, arith}
use Rattle.syntax.specs.TreeOf.{name_of}
use Rattle.names.specs.Scopes.{entries}
use Rattle.names.proofs.Spells.{length_entries}
use Rattle.translator.specs.Emitters.{table_of}
use Rattle.translator.proofs.Looked.{mksymtab_is, symbols_below}
use Rattle.translator.proofs.emitter.Emitter.cell.Goals.{After-unwrap_or}
use Rattle.translator.proofs.emitter.Emitter.cell.Goals as goal

found : (c : After-unwrap_or) → c.unwrap_or.result ≡ table_of c.args.self.now.scope (name_of c.args.self.now.scope.source.now c.args.name)
found c =
    let s = c.args.self.now.scope in
    c.unwrap_or.ensures ∙ ap (λ o. unwrap_or o 0) c.cell.ensures.value ∙ sym (mksymtab_is (entries s) (name_of s.source.now c.args.name))

pub overflow_cast-result : goal.overflow_cast-result
overflow_cast-result c =
    let s = c.args.self.now.scope in
    omega (arith, found c, symbols_below 0 (entries s) (name_of s.source.now c.args.name), length_entries s.source.now s.declared.now, c.args.self.now.few)

pub returns : goal.returns
returns c = found c
