use Rattle.std.proofs.Common.{◌≡◌, ◌+◌, length, sym, ap, ◌∙◌, arith}
use Rattle.image.specs.Admission.{FirstOutside}
use Rattle.image.proofs.Admitting.{none_found, first_found, as_long}
use Rattle.image.proofs.admission.admit.Goals as goal

pub invariant_of-result : goal.invariant_of-result
invariant_of-result c =
    let code = c.as_slice.result.now in
    let long = as_long _ _ c.in_ok-code.ensures in
    let items = c.as_slice.ensures.value in
    record {
      few = omega (arith, long, ap length items, c.as_slice.ensures.len);
      sound = rw (sym c.as_slice.ensures.len, sym items) (none_found (length code) code c.in-None.ensures.value);
    }

pub returns-in-Some : goal.returns-in-Some
returns-in-Some c =
    let code = c.as_slice.result.now in
    let items = c.as_slice.ensures.value in
    let all : length code ≡ length c.args.words.now = ap length items ∙ as_long _ _ c.in_ok-code.ensures in
    let first : FirstOutside (length code) code (c.in-Some.place + 1) = first_found (length code) code c.in-Some.place c.in-Some.ensures.value in
    (omega arith, record { instructions = c.in_ok-code.code.items; decodes = c.in_ok-code.ensures; first = rw items at (rw all at first) })
