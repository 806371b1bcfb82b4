use Rattle.std.proofs.Common.{◌-◌, ◌/◌, length, drop, arith, length-drop, length-take, ap, subst}
use Rattle.texts.specs.Texts.{Words}
use Rattle.texts.proofs.Lines.{readings_long}
use Rattle.texts.proofs.input.TextInput.len.Goals as goal

pub returns : goal.returns
returns c =
    let t = c.self.inside in
    let rest = drop t.next t.bytes.items in
    let bs = c.deref.result.now in
    record {
      len = omega (arith, length-take (length bs - t.next) (drop t.next bs), length-drop t.next bs, ap length c.deref.ensures.value, length-drop t.next t.bytes.items, readings_long (length rest / 12) rest, ap length c.self.view_is);
      words = subst Words c.self.view_is c.self.invariant.1.words;
    }
