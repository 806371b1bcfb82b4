use Rattle.std.proofs.Common.{◌≡◌, ◌≤◌, ◌∷◌, length, drop, ℤ, List, ap, ◌∙◌, arith, w32, rules}
use Rattle.std.proofs.lemmas.Int.{to_z-of_z}
use Rattle.machine.proofs.Stacks.{length_tops, tops_replace}
use Rattle.machine.proofs.stack.Stack.replace.Goals as goal

pub returns : goal.returns
returns c =
    let xs = c.self.inside.words in
    let d = c.self.inside.depth in
    let len : length xs ≡ 68 = search rules in
    let deep : 2 ≤ d = omega (arith, length_tops xs d, ap length c.self.view_is, c.requires.two) in
    let le : d ≤ length xs = omega (arith, len, c.self.invariant) in
    tops_replace xs d _ c.args.v deep le (to_z-of_z w32 _ c.ranges.v) ∙ ap (λ (ys : List ℤ). c.args.v ∷ drop 2 ys) c.self.view_is
