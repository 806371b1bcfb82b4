use Rattle.std.proofs.Common.{◌≤◌, ◌∷◌, length, take, drop, sym, ap, ◌∙◌, subst, arith, length-drop, w32, SFits, rules}
use Rattle.std.proofs.lemmas.List.{take_all, drop-drop}
use Rattle.std.proofs.lemmas.Int.{to_z-of_z}
use Rattle.lines.specs.Lines.{number_in}
use Rattle.texts.specs.Texts.{numbers_in, Lines}
use Rattle.texts.proofs.Lines.{taken_number, front}
use Rattle.texts.proofs.input.TextInputInputTape.take.Goals as goal

pub returns-in_err-x : goal.returns-in_err-x
returns-in_err-x c =
    let t = c.self.inside in
    let s : 12 ≤ length (drop t.next t.bytes.items) = search rules in
    let f = front (drop t.next t.bytes.items) s c.self.invariant.1 in
    let e = c.in_ok-line.ensures.cases.0 ∙ ap (take 12) (take_all _ _ (omega (arith, length-drop t.next c.deref.result.now))) ∙ ap (λ b. take 12 (drop t.next b)) c.deref.ensures.value in
    absurd (c.in_err-x.ensures (number_in (take 12 (drop t.next t.bytes.items))) f.word (e ∙ f.line))

pub invariant_of-self : goal.invariant_of-self
invariant_of-self c =
    let t = c.self.inside in
    let s : 12 ≤ length (drop t.next t.bytes.items) = search rules in
    let f = front (drop t.next t.bytes.items) s c.self.invariant.1 in
    (omega (arith, length-drop t.next t.bytes.items), subst Lines (drop-drop 12 t.next t.bytes.items) f.rest)

pub returns : goal.returns
returns c =
    let t = c.self.inside in
    let s : 12 ≤ length (drop t.next t.bytes.items) = search rules in
    let e = c.in_ok-line.ensures.cases.0 ∙ ap (take 12) (take_all _ _ (omega (arith, length-drop t.next c.deref.result.now))) ∙ ap (λ b. take 12 (drop t.next b)) c.deref.ensures.value in
    let r = c.in_ok-x.ensures in
    let g : SFits w32 c.in_ok-x.x = record { sfits = r.0 } in
    let n = taken_number (drop t.next t.bytes.items) c.in_ok-x.x s r.0 (sym e ∙ r.1) in
    rw to_z-of_z (sym c.self.view_is ∙ n ∙ ap (λ u. c.in_ok-x.x ∷ numbers_in u) (drop-drop 12 t.next t.bytes.items))
