use Rattle.std.proofs.Common.{◌≡◌, ◌≢◌, length, sym, ◌∙◌, arith, rules}
use Rattle.machine.specs.declared.status.Status.TheVariants.{Running}
use Rattle.machine.proofs.Fetching.{inside_at}
use Rattle.machine.proofs.Stepping.{running_placed, none_there, not_running, acted}
use Rattle.machine.proofs.run.Core.step.Goals as goal

pub returns-in_default : goal.returns-in_default
returns-in_default g c = none_there _ c.args.code.now _ _ _ _ _ c.in_default.ensures

pub returns-then-ne : goal.returns-then-ne
returns-then-ne g c =
    let not : c.status.result ≢ Running = search rules in
    not_running _ c.args.code.now _ _ c.args.limit _ _ c.status.result c.status.ensures not

pub execute-done-requires : goal.execute-done-requires
execute-done-requires g c =
    let run : c.status.result ≡ Running = search rules in
    let placed = running_placed c.args.self.now.fault _ _ _ _ (sym run ∙ c.status.ensures) in
    record {
      sound = (length c.args.code.now, inside_at _ c.args.code.now _ _ c.requires.sound c.in-Some.ensures);
      placed = omega (arith, placed, c.requires.few);
    }

pub returns : goal.returns
returns g c =
    let run : c.status.result ≡ Running = search rules in
    let close = c.close.ensures in
    acted _ c.args.code.now _ _ c.args.limit _ c.execute-done.new.core _ _ _ _ _ _ (sym run ∙ c.status.ensures) c.in-Some.ensures c.execute-done.ensures close.closed close.value
