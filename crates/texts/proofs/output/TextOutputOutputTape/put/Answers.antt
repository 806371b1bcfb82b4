use Rattle.std.proofs.Common.{arith, w32}
use Rattle.std.proofs.lemmas.Int.{to_z-of_z}
use Rattle.texts.proofs.Lines.{longer, put_appends}
use Rattle.texts.proofs.output.TextOutputOutputTape.put.Goals as goal

pub invariant_of-self : goal.invariant_of-self
invariant_of-self c =
    let l = longer c.self.inside.text.items c.args.x c.self.invariant.1 c.ranges.x.sfits in
    (omega (arith, c.self.invariant.0, c.append_line.ensures.len, c.append_line.ensures.capacity), rw (c.append_line.ensures.items, to_z-of_z w32 c.args.x c.ranges.x) l.lines)

pub returns : goal.returns
returns c = rw (← c.self.view_is, c.append_line.ensures.items, to_z-of_z w32 c.args.x c.ranges.x) (put_appends _ _ _ c.self.invariant.1 c.ranges.x.sfits c.if-self-eq0.false)
