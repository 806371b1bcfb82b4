use Rattle.std.proofs.Common.{◌≡◌, ◌+◌, ◌-◌, min, vec_items, sym, refl, ap, ◌∙◌, arith, Bor}
use Rattle.code.specs.Machine.{advance, status_with, fetch}
use Rattle.image.specs.declared.admitted.Image.{Image}
use Rattle.machine.specs.Numbers.{fault_of, status_number}
use Rattle.machine.specs.View.{unit_of}
use Rattle.machine.specs.Runs.{code_of, state_of}
use Rattle.machine.proofs.Stepping.{made_of, halted_of}
use Rattle.machine.proofs.Advancing.{status_is, faulted_stays, faulted_status, step_more, advance_is}
use Rattle.machine.proofs.run.Run.advance.Goals as goal

pub returns-then-is_some : goal.returns-then-is_some
returns-then-is_some g c =
    let unit = unit_of g.U.Arithmetic.LEAST g.U.Arithmetic.GREATEST g.U.Arithmetic.narrowed in
    let run = c.args.self.now in
    let view = state_of g.I.InputTape.waiting g.O.OutputTape.means run in
    let e = c.if-is_some.ensures in
    record {
      moved = faulted_stays unit (code_of run) run.core.fault (min c.args.allowance (run.lid - run.core.steps)) view refl e;
      image = refl;
      lid = refl;
      steps = omega arith;
      status = faulted_status c.args.self.now.core.fault _ _ _ e;
      rests = omega arith;
    }

pub loop-self-preserved : goal.loop-self-preserved
loop-self-preserved g c =
    let unit = unit_of g.U.Arithmetic.LEAST g.U.Arithmetic.GREATEST g.U.Arithmetic.narrowed in
    let inv = c.loop-self.invariant in
    let made = made_of _ _ _ _ _ _ _ _ _ _ c.step.ensures c.loop-self-test.true in (
      step_more unit _ _ _ _ _ _ _ inv.1 made.counted inv.0 made.ran,
      omega (arith, made.counted, inv.1),
      omega (arith, made.counted, made.below),
      inv.3,
      inv.4,
      omega (arith, c.step.ensures.kept, inv.5),
    )

pub returns : goal.returns
returns g c =
    let unit = unit_of g.U.Arithmetic.LEAST g.U.Arithmetic.GREATEST g.U.Arithmetic.narrowed in
    let run = c.args.self.now in
    let view = state_of g.I.InputTape.waiting g.O.OutputTape.means run in
    let code = c.instructions-code.result.now in
    let inv = c.loop-self.invariant in
    let halted = halted_of _ _ _ _ _ _ _ _ _ _ c.step.ensures c.loop-self-test.false in
    let least : c.min.result ≡ min (run.lid - run.core.steps) c.args.allowance = omega (arith, c.min.ensures, c.from.ensures) in
    let value = c.instructions-code.ensures.value in
    let same = sym (ap (λ (im : Bor Image). vec_items im.now.code) inv.3) in
    record {
      moved = advance_is unit code run.lid c.args.allowance c.min.result (run.core.steps + c.min.result) c.loop-self.core.steps _ _ _ least refl inv.1 inv.2 inv.0 halted.rests ∙ ap (λ xs. advance unit xs run.lid c.args.allowance view) value;
      image = inv.3;
      lid = inv.4;
      steps = omega (arith, halted.counted, inv.1);
      status = ap status_number c.status.ensures ∙ status_is c.step.new.self.fault code _ _ _ c.step.new.self.counted (omega (arith, least, halted.counted, inv.2, inv.4, run.lidded)) ∙ ap (λ xs. status_with c.loop-self.self.lid c.step.new.self.steps (fault_of c.step.new.self.fault) (fetch xs c.step.new.self.counter)) (value ∙ same);
      rests = omega (arith, c.step.ensures.kept, inv.5);
    }
