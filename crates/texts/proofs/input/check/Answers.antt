use Rattle.std.proofs.Common.{rules, ap, ◌∙◌}
use Rattle.std.specs.Slice.Iter.{chunks_rest, chunks_size}
use Rattle.std.specs.Prelude.{slice_index_or}
use Rattle.texts.proofs.Lines.{none_read, some_read, first_bad, all_lines}
use Rattle.texts.proofs.input.check.Goals as goal

pub returns-in-Some : goal.returns-in-Some
returns-in-Some c =
    let found = c.in-Some.ensures.runs in
    let run = found.0 in
    let from = found.1 in
    let cut = c.chunks.ensures.runs run run.seen (search rules) in
    let first = found.2.1 (λ a r f called. search rules) in
    first_bad _ _ (λ x q. search (rules, none_read)) (λ x q. search (rules, some_read)) c.args.bytes.now _ _ run.at c.in-Some.before (ap chunks_rest from ∙ c.chunks.ensures.rest) (ap chunks_size from ∙ c.chunks.ensures.size) cut.2 first

pub returns-in-None : goal.returns-in-None
returns-in-None c =
    let found = c.in-None.ensures.runs in
    let run = found.0 in
    let from = found.1 in
    let cut = c.chunks.ensures.runs run run.seen (search rules) in
    let none = found.2.1 (λ a r f called. search rules) in
    all_lines _ (λ x q. search (rules, some_read)) c.args.bytes.now _ _ run.at run.len (λ i. slice_index_or run.items i c.args.bytes) (ap chunks_rest from ∙ c.chunks.ensures.rest) (ap chunks_size from ∙ c.chunks.ensures.size) cut.2 (cut.1 found.2.0) (λ i h. run.reads i c.args.bytes h) none
