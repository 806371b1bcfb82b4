use Rattle.std.proofs.Common.{◌≡◌, ◌<◌, ◌∷◌, length, ℤ, List, ap, ◌∙◌, arith, w32, rules}
use Rattle.std.proofs.lemmas.Int.{to_z-of_z}
use Rattle.machine.proofs.Stacks.{length_tops, tops_push}
use Rattle.machine.proofs.stack.Stack.push.Goals as goal

pub returns : goal.returns
returns c =
    let xs = c.self.inside.words in
    let d = c.self.inside.depth in
    let len : length xs ≡ 68 = search rules in
    let lt : d < length xs = omega (arith, len, length_tops xs d, ap length c.self.view_is, c.requires.room) in
    tops_push xs d _ c.args.v lt (to_z-of_z w32 _ c.ranges.v) ∙ ap (λ (ys : List ℤ). c.args.v ∷ ys) c.self.view_is
