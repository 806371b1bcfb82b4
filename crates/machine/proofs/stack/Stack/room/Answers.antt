use Rattle.std.proofs.Common.{refl, arith}
use Rattle.machine.proofs.Stacks.{length_tops, space, no_space}
use Rattle.machine.proofs.stack.Stack.room.Goals as goal

pub returns-then-self-ge-MOST : goal.returns-then-self-ge-MOST
returns-then-self-ge-MOST c = record { words = (refl, rw (← c.self.view_is) (no_space _ _ c.if-self-ge-MOST.true)); space = tt }

pub returns : goal.returns
returns c =
    rw (← c.self.view_is) (record {
      words = space _ _ c.if-self-ge-MOST.false;
      space = omega (arith, length_tops c.self.inside.words c.self.inside.depth, c.if-self-ge-MOST.false);
    })
