use Rattle.std.proofs.Common.{◌≡◌, ◌≤◌, length, take, vec_items, vec_len, vec_capacity}
use Rattle.image.specs.Admission.{Decodes}
use Rattle.image.proofs.admission.decode_all.Given as goal

abbrev pub invariant-loop-k : goal.invariant-loop-k
invariant-loop-k l = (vec_len l.code ≡ l.k) × (length l.words ≤ vec_capacity l.code) × Decodes (take l.k l.words) (vec_items l.code)
