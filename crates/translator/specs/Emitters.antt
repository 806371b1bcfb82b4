-- What emitters look up and put.
--   table_of   the cells of the declared names of a scope
--   Emits      an emitter puts this code behind what it had, for the same names
use Rattle.std.specs.Prelude.{◌≡◌, ℕ, ◌++◌}
use Rattle.syntax.specs.Tokens.{Name}
use Rattle.names.specs.Scopes.{entries}
use Rattle.names.specs.declared.cells.Scope.{Scope}
use Rattle.translator.specs.declared.emitter.Emitter.{Emitter}
use Rattle.translator.specs.Linear.{Code}
use Rattle.translator.specs.Published.{mksymtab}

abbrev pub table_of : Scope → Name → ℕ
table_of s = mksymtab (entries s)

pub record Emits (before : Emitter) (put : Code) (after : Emitter) : Type 0 where
  pub scope : after.scope ≡ before.scope
  pub code : after.code.items ≡ before.code.items ++ put
