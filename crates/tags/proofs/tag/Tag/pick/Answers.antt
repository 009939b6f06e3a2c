use Rattle.std.proofs.Common.{rules, arith}
use Rattle.formats.proofs.Readable.{is_readable}
use Rattle.formats.proofs.Spans.{span}
use Rattle.tags.specs.Views.{path_view, branch_view}
use Rattle.tags.proofs.Showing.{view_says}
use Rattle.tags.proofs.tag.Tag.pick.Goals as goal

pub slice_bounds-bytes-count : goal.slice_bounds-bytes-count
slice_bounds-bytes-count c =
    let ok = is_readable c.args.self.now.bytes.now c.args.self.now.readable in
    omega (arith, span c.args.self.now.bytes.now ok c.args.i c.requires)

pub slice_bounds-bytes-start : goal.slice_bounds-bytes-start
slice_bounds-bytes-start c =
    let ok = is_readable c.args.self.now.bytes.now c.args.self.now.readable in
    omega (arith, span c.args.self.now.bytes.now ok c.args.i c.requires)

pub slice_bounds-bytes-end : goal.slice_bounds-bytes-end
slice_bounds-bytes-end c =
    let ok = is_readable c.args.self.now.bytes.now c.args.self.now.readable in
    omega (arith, ok.size, span c.args.self.now.bytes.now ok c.args.i c.requires)

pub overflow_sub-len : goal.overflow_sub-len
overflow_sub-len c =
    let ok = is_readable c.args.self.now.bytes.now c.args.self.now.readable in
    omega (arith, span c.args.self.now.bytes.now ok c.args.i c.requires)

pub returns-then-i-eq0-clause-reads : goal.returns-then-i-eq0-clause-reads
returns-then-i-eq0-clause-reads c =
    view_says c.args.self.now.bytes.now c.args.self.now.readable c.args.i c.requires (path_view _ _ _ _) (search rules)

pub returns-else-i-eq0-clause-reads : goal.returns-else-i-eq0-clause-reads
returns-else-i-eq0-clause-reads c =
    view_says c.args.self.now.bytes.now c.args.self.now.readable c.args.i c.requires (branch_view _ _ _) (search rules)
