use Rattle.std.proofs.Common.{rules}
use Rattle.syntax.specs.TreeOf.{tree_of}
use Rattle.names.proofs.Sequences.{used}
use Rattle.names.proofs.check_names.Goals as goal

pub returns : goal.returns
returns c = used (tree_of c.args.source.now c.args.program.now) c.check_statements.result (search rules) (search rules)
