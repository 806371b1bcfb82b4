-- What a scope declares.
--   entries   its names, read from its source
use Rattle.syntax.specs.TreeOf.{declared_of}
use Rattle.names.specs.Cells.{Entries}
use Rattle.names.specs.declared.cells.Scope.{Scope}

abbrev pub entries : Scope → Entries
entries s = declared_of s.source.now s.declared.now
