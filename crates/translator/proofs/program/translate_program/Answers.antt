use Rattle.std.proofs.Common.{vec_items, arith}
use Rattle.names.proofs.Spells.{length_entries}
use Rattle.translator.proofs.program.translate_program.Goals as goal

pub emit-requires : goal.emit-requires
emit-requires c =
    omega (arith, c.in_ok-check_names.ensures.declaration.few, length_entries c.args.source.now (vec_items c.args.program.now.declared), c.args.program.now.declared.ok.0)
