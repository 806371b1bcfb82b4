use Rattle.std.proofs.Common.{sym, ap, ◌∙◌}
use Rattle.names.proofs.Declares.{fresh, repeats, too_many, few, all_apart}
use Rattle.names.proofs.cells.Scope.check_declared.Goals as goal

pub returns-in-Some : goal.returns-in-Some
returns-in-Some c =
    let s = c.args.self.now.source.now in
    let over = too_many s c.args.self.now.declared.now c.in-Some.name.now c.in-Some.ensures.lookup.3.0 in
    (over.0, ap (λ n. n.place) c.in-Some.ensures.lookup.1 ∙ over.1)

pub returns-then-is_some : goal.returns-then-is_some
returns-then-is_some c =
    let s = c.args.self.now.source.now in
    (few s c.args.self.now.declared.now c.in_default.ensures.lookup.3, repeats s c.args.self.now.declared.now c.loop-i.i _ c.loop-i-test.true c.cell.result c.cell.ensures.looked c.loop-i.invariant (sym c.is_some.ensures ∙ c.if-is_some.true))

pub loop-i-preserved : goal.loop-i-preserved
loop-i-preserved c =
    fresh c.args.self.now.source.now c.args.self.now.declared.now c.loop-i.i _ c.loop-i-test.true c.cell.result c.cell.ensures.looked c.loop-i.invariant (sym c.is_some.ensures ∙ c.if-is_some.false)

pub returns : goal.returns
returns c = all_apart c.args.self.now.source.now c.args.self.now.declared.now c.loop-i.i c.in_default.ensures.lookup.3 c.loop-i-test.false c.loop-i.invariant
