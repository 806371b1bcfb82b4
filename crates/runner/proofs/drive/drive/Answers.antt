use Rattle.std.proofs.Common.{◌≡◌, ℕ, List, [], length, take, vec_items, sym, refl, ap, ◌∙◌, subst, arith, take_all, Bor}
use Rattle.image.specs.declared.admitted.Image.{Image}
use Rattle.code.specs.World.{Report}
use Rattle.code.specs.Machine as am
use Rattle.tapes.specs.Meaning.{Meaning}
use Rattle.machine.specs.Numbers.{status_number}
use Rattle.machine.specs.Runs.{code_of, state_of}
use Rattle.machine.specs.Finishing.{report_of}
use Rattle.machine.specs.View.{unit_of, tapes_of}
use Rattle.meaning.specs.Promise.{advances}
use Rattle.runner.specs.Driving.{LastOf}
use Rattle.runner.proofs.Driving.{one_more, last_more, status_same, finish_same, advances_same, driven_means}
use Rattle.runner.proofs.drive.drive.Goals as goal

pub loop-allowance-init : goal.loop-allowance-init
loop-allowance-init g c = (refl, refl, refl, sym (ap (λ (m : am.Run). m.steps) c.start-run.ensures.new), refl)

pub overflow_add-steps : goal.overflow_add-steps
overflow_add-steps g c =
    let inv = c.loop-allowance.invariant in
    let after = c.advance-advanced.new.self in
    record { fits = omega (arith, inv.3, c.from-steps.ensures, c.advance-advanced.ensures.steps, after.lidded, after.wide) }

pub loop-allowance-preserved : goal.loop-allowance-preserved
loop-allowance-preserved g c =
    let inv = c.loop-allowance.invariant in
    let told = c.advance-advanced.ensures in
    let view = state_of g.I.InputTape.waiting g.O.OutputTape.means in
    let unit = unit_of g.U.Arithmetic.LEAST g.U.Arithmetic.GREATEST g.U.Arithmetic.narrowed in
    let run = c.loop-allowance.run in
    let after = c.advance-advanced.new.self in
    let first = c.start-run.result in
    let xs = c.args.allowances.now in
    let i = c.loop-allowance.allowance-index in
    let taken = c.loop-allowance-test.true in
    let same : code_of run ≡ code_of first = ap (λ (image : Bor Image). vec_items image.now.code) inv.1 in
    let same_after : code_of after ≡ code_of first = ap (λ (image : Bor Image). vec_items image.now.code) (told.image ∙ inv.1) in (
      one_more unit (code_of first) (code_of run) first.lid run.lid xs i (view first) (view run) (view after) taken same inv.2 inv.0 told.moved,
      told.image ∙ inv.1,
      told.lid ∙ inv.2,
      omega (arith, inv.3, c.from-steps.ensures, told.steps),
      last_more xs i c.advance-advanced.result.status _ taken (told.status ∙ status_same (code_of first) (code_of after) first.lid after.lid (view after) same_after (told.lid ∙ inv.2)),
    )

pub returns : goal.returns
returns g c =
    let inv = c.loop-allowance.invariant in
    let view = state_of g.I.InputTape.waiting g.O.OutputTape.means in
    let unit = unit_of g.U.Arithmetic.LEAST g.U.Arithmetic.GREATEST g.U.Arithmetic.narrowed in
    let run = c.loop-allowance.run in
    let first = c.start-run.result in
    let xs = c.args.allowances.now in
    let code = vec_items c.args.image.now.code in
    let lid = c.args.lid in
    let all : take c.loop-allowance.allowance-index xs ≡ xs = take_all _ _ c.loop-allowance-test.false in
    let same : code_of run ≡ code_of first = ap (λ (image : Bor Image). vec_items image.now.code) inv.1 in
    let started = c.start-run.ensures in
    let report = c.finish.ensures.report in
    let settled = c.finish.ensures.settled in
    let moved = inv.0 ∙ advances_same unit code (code_of first) lid first.lid xs _ _ (view first) started.image started.lid all started.new in
    let t = tapes_of (g.I.InputTape.waiting c.args.input) (g.O.OutputTape.means c.args.output) in
    let given : List ℕ → Report = λ places. report_of g.I.InputTape.waiting g.O.OutputTape.means places c.finish.result in
    let whole : ((places : List ℕ) → given places ≡ am.finish lid code places (advances unit code lid xs (am.start t))) = λ places.
    report places ∙ finish_same code (code_of run) lid run.lid _ (view run) places (same ∙ started.image) (inv.2 ∙ started.lid) moved in
    record {
      report = whole;
      meant = driven_means c.one_word_each.ensures.each unit t lid xs code given whole;
      steps = inv.3 ∙ sym (ap (λ (r : Report). r.steps) (report []));
      last = subst (λ (ys : List ℕ). LastOf ys c.loop-allowance.last (status_number c.finish.result.status)) all
          (subst (λ (n : ℕ). LastOf (take c.loop-allowance.allowance-index xs) c.loop-allowance.last n)
          (sym (ap (λ (r : Report). r.status) (report []) ∙ status_same (code_of first) (code_of run) first.lid run.lid (view run) same inv.2)) inv.4);
      rest = ap (λ (m : Meaning). m.rest) settled ∙ sym (ap (λ (m : Meaning). length m.written) settled);
    }
