use Rattle.std.proofs.Common.{◌≡◌, ◌*◌, ◌≤◌, length}
use Rattle.formats.specs.Limits.{most_tag_bytes}
use Rattle.writing.specs.Writes.{Wrote}
use Rattle.writing.specs.Sheets.{offsets_to, tags_to}
use Rattle.writing.proofs.sheeting.put_nodes.Given as goal

-- the offsets and the tags of the nodes below v are written
abbrev pub invariant-loop-v : goal.invariant-loop-v
invariant-loop-v g l =
    let f = g.C.Code.words l.marks.words.code.now in
    let up = l.marks.words.up.row.now in
    record {
      sum : l.end ≡ length (tags_to f up l.number l.v);
      small : l.end ≤ most_tag_bytes * l.v;
      offsets : Wrote 0 (offsets_to f up l.number l.v) l.initial.offsets l.offsets;
      tags : Wrote 0 (tags_to f up l.number l.v) l.initial.tags l.tags;
    }
