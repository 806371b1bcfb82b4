use Rattle.names.specs.Declares.{Apart}
use Rattle.names.specs.Scopes.{entries}
use Rattle.names.proofs.cells.Scope.check_declared.Given as goal

abbrev pub invariant-loop-i : goal.invariant-loop-i
invariant-loop-i l = Apart (entries l.self) l.i
