use Rattle.std.proofs.Common.{length, get_or, pos, ◌-ℤ◌, sym, ap, ◌∙◌, subst, arith, w32, w64, to_z, of_z, rules}
use Rattle.std.proofs.lemmas.Int.{ints}
use Rattle.lines.specs.Lines.{Read}
use Rattle.lines.proofs.Reading.{early, line_long, line_end, no_minus, far_minus, minus_is, no_plain, far_plain, plain_is}
use Rattle.lines.proofs.read_line.Goals as goal

pub returns-then-line-ne-LINE_LENGTH : goal.returns-then-line-ne-LINE_LENGTH
returns-then-line-ne-LINE_LENGTH c = λ z h e. c.if-line-ne-LINE_LENGTH.true (ap length e ∙ line_long z h)

pub returns-then-line-ne10 : goal.returns-then-line-ne10
returns-then-line-ne10 c = λ z h e. c.if-line-ne10.true (ap (λ x. get_or x 11 0) e ∙ line_end z h)

pub returns-in_err-n : goal.returns-in_err-n
returns-in_err-n c =
    let p = c.spaces-start.ensures in
    let t = c.if-line-start-eq45.true in
    subst (Read c.args.line.now) (sym c.from_residual.ensures) (no_minus _ _ p t (early _ _ p t) c.in_err-n.ensures)

pub returns-in_err-n-2 : goal.returns-in_err-n-2
returns-in_err-n-2 c =
    let p = c.spaces-start.ensures in
    subst (Read c.args.line.now) (sym c.from_residual-in_err-n-2.ensures) (no_plain _ _ p c.if-line-start-eq45.false c.in_err-n-2.ensures)

pub returns-then-n-gt2147483648 : goal.returns-then-n-gt2147483648
returns-then-n-gt2147483648 c =
    let p = c.spaces-start.ensures in
    let t = c.if-line-start-eq45.true in
    let n = c.in_ok-n.ensures in
    far_minus _ _ _ p t (early _ _ p t) n.0 n.1 (search rules)

pub returns-else-n-gt2147483648 : goal.returns-else-n-gt2147483648
returns-else-n-gt2147483648 c =
    let p = c.spaces-start.ensures in
    let t = c.if-line-start-eq45.true in
    let n = c.in_ok-n.ensures in
    let z = to_z w32 (of_z w32 (to_z w64 (of_z w64 (pos 0 -ℤ to_z w64 c.in_ok-n.n)))) in
    minus_is _ _ c.in_ok-n.n z p t (early _ _ p t) n.1 (omega arith) (omega arith) (omega (arith, ints))

pub returns-then-n-gt2147483647 : goal.returns-then-n-gt2147483647
returns-then-n-gt2147483647 c =
    let p = c.spaces-start.ensures in
    let n = c.in_ok-n-2.ensures in
    far_plain _ _ _ p c.if-line-start-eq45.false n.0 n.1 (omega arith)

pub returns-else-n-gt2147483647 : goal.returns-else-n-gt2147483647
returns-else-n-gt2147483647 c =
    let p = c.spaces-start.ensures in
    let n = c.in_ok-n-2.ensures in
    plain_is _ _ c.in_ok-n-2.n (to_z w32 c.in_ok-n-2.n) p n.1 (omega arith) (omega (arith, ints))
