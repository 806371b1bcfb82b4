use Rattle.std.proofs.Common.{List, suc, ◌++◌, length, vec_items, sym, ◌∙◌}
use Rattle.syntax.specs.declared.tree.Name.{Name}
use Rattle.syntax.specs.declared.tree.Statement.{Statement}
use Rattle.syntax.specs.TreeOf.{declared_of, statements_of}
use Rattle.translator.specs.Cells.{cells_of_statements}
use Rattle.translator.specs.Linear.{Code, code_of_statements}
use Rattle.translator.specs.Published.{mksymtab}
use Rattle.translator.proofs.Labels.{linearised}
use Rattle.translator.proofs.emit.emit.Goals as goal

pub returns : goal.returns
returns c =
    let s = c.args.source.now in
    let program = c.args.program.now in
    let code : List Name → List Statement → Code → Code = λ ns xs v. v ++ code_of_statements (cells_of_statements (mksymtab (declared_of s ns)) (statements_of s xs)) (suc (length v)) in
    c.in_ok-statements.ensures.code
    ∙ (λ i. code (c.deref.ensures.value i) (c.deref-2.ensures.value i) (c.new.ensures.items i))
    ∙ sym (linearised (mksymtab (declared_of s (vec_items program.declared))) (statements_of s (vec_items program.statements)))
