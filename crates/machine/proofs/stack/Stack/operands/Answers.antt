use Rattle.std.proofs.Common.{◌-◌, get_or, pos, arith, w32, SFits, rules}
use Rattle.machine.proofs.Stacks.{length_tops, two, widened}
use Rattle.machine.proofs.stack.Stack.operands.Goals as goal

pub returns : goal.returns
returns c =
    let xs = c.self.inside.words in
    let d = c.self.inside.depth in
    let fx : SFits w32 (get_or xs (d - 2) (pos 0)) = search rules in
    let fy : SFits w32 (get_or xs (d - 1) (pos 0)) = search rules in
    rw (← c.self.view_is) (record {
      words = two xs d _ _ c.if-self-lt2.false fx fy (widened _ _ fx c.from.ensures) (widened _ _ fy c.from-2.ensures);
      deep = omega (arith, length_tops xs d, c.if-self-lt2.false);
    })
