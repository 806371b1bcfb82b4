use Rattle.std.proofs.Common.{sym, ap, ◌∙◌, w32, SFits, rules}
use Rattle.std.proofs.lemmas.Int.{to_z-of_z}
use Rattle.relay.proofs.Delivering.{whole, delivered}
use Rattle.relay.proofs.relay.relay.Goals as goal

pub loop-x-preserved : goal.loop-x-preserved
loop-x-preserved g c =
    let waiting = g.I.InputTape.waiting in
    let means = g.O.OutputTape.means in
    let narrowed = g.U.Arithmetic.narrowed in
    let fits : SFits w32 c.in-Some.x = search rules in
    let d = simp to_z-of_z at c.deliver.ensures in
    delivered narrowed _ c.in-Some.x _ _ (waiting c.take.new.self) d
    ∙ ap (λ ys. whole narrowed ys (means c.loop-x.output)) (sym c.in-Some.ensures)
    ∙ c.loop-x.invariant
