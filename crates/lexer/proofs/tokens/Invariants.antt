use Rattle.std.proofs.Common.{◌-◌, length, vec_items}
use Rattle.lexer.proofs.Turns.{ReadTo}
use Rattle.lexer.proofs.tokens.Given as goal

abbrev pub invariant-loop-first : goal.invariant-loop-first
invariant-loop-first l = ReadTo l.source (vec_items l.tokens) l.rest (length l.source - length l.rest)

abbrev pub decreases-loop-first : goal.decreases-loop-first
decreases-loop-first l = length l.rest
