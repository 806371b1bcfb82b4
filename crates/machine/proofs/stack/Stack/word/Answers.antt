use Rattle.std.proofs.Common.{◌≡◌, ◌≤◌, ◌-◌, length, take, ap, sym, ◌∙◌, arith, rules}
use Rattle.std.specs.List.{slice_get}
use Rattle.code.specs.Machine.{nth}
use Rattle.machine.proofs.Stacks.{no_word, last_below}
use Rattle.machine.proofs.stack.Stack.word.Goals as goal

pub returns-in_err-below : goal.returns-in_err-below
returns-in_err-below c =
    let few : c.self.inside.depth ≤ c.args.place = omega (arith, c.in_err-below.ensures) in
    c.from_residual.ensures ∙ sym (no_word c.self.inside.words _ _ few) ∙ ap (λ st. nth st c.args.place) c.self.view_is

pub returns : goal.returns
returns c =
    let xs = c.self.inside.words in
    let d = c.self.inside.depth in
    let k = c.args.place in
    let len : length xs ≡ 68 = search rules in
    let below = c.in_ok-below.ensures in
    let read : c.copied.result ≡ slice_get (take (d - k) xs) (length (take (d - k) xs) - 1) = search rules in
    read ∙ last_below xs d k below.0 (omega (arith, len, c.self.invariant)) ∙ ap (λ st. nth st k) c.self.view_is
