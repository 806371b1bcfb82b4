use Rattle.std.proofs.Common.{◌≡◌, length, ap, ◌∙◌, arith, w32}
use Rattle.std.specs.Prelude.{IsOk}
use Rattle.std.proofs.lemmas.Int.{to_z-of_z}
use Rattle.lines.specs.Lines.{line_of}
use Rattle.lines.proofs.Reading.{line_long}
use Rattle.texts.proofs.output.append_line.Goals as goal

pub returns : goal.returns
returns c =
    let line : c.write_line.result ≡ line_of c.args.x = c.write_line.ensures ∙ ap line_of (to_z-of_z w32 c.args.x c.ranges.x) in
    let long = ap length line ∙ line_long c.args.x c.ranges.x.sfits in
    let ok : IsOk c.extend_from_slice.result = c.extend_from_slice.ensures.succeeds (omega (arith, c.requires, long)) in
    record {
      items = grind (arith, ok, line, c.extend_from_slice.ensures.items);
      len = rw (ok, long) at c.extend_from_slice.ensures.len;
      capacity = c.extend_from_slice.ensures.capacity;
    }
