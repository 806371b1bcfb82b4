use Rattle.std.proofs.Common.{◌≡◌, take, vec_items}
use Rattle.translator.specs.Written.{words_of, Fits}
use Rattle.translator.proofs.emit.words_of.Given as goal

abbrev pub invariant-loop-instruction : goal.invariant-loop-instruction
invariant-loop-instruction l =
    (vec_items l.words ≡ words_of (take l.instruction-index l.code)) × Fits (take l.instruction-index l.code)
