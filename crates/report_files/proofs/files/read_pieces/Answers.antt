use Rattle.std.proofs.Common.{rules, ◌∙◌, ◌≤◌, ◌++◌, take, arith}
use Rattle.edge.proofs.Known.{Consumes-more}
use Rattle.report_files.specs.Lines.{lines_given}
use Rattle.report_files.proofs.FileLemmas.{taken_more, consumes_too_many, count_more, more_lines}
use Rattle.report_files.proofs.files.read_pieces.Goals as goal

pub returns-then-count-room-clause-read : goal.returns-then-count-room-clause-read
returns-then-count-room-clause-read g c =
    let inv = c.loop-chunk.invariant in
    let first = c.args.reader.now in
    let old = c.loop-chunk.reader in
    let new = c.piece.new.self in
    let name = c.args.name.now in
    let chunk = c.read.new.into in
    let room = c.loop-chunk.room in (
      inv.bytes ++ take room chunk,
      consumes_too_many (g.S.Shelf.left c.args.shelf.now name) (g.S.Shelf.left c.loop-chunk.shelf name) (g.S.Shelf.left c.read.new.self name) inv.bytes chunk c.in_ok-count.count room c.if-count-room.true c.in_ok-count.ensures.bound.0 inv.read.count inv.read.consumed c.in_ok-count.ensures.bytes.0,
      taken_more first old new inv.bytes (take room chunk) inv.taken c.in_ok-piece.ensures.taken,
    )

pub loop-chunk-preserved : goal.loop-chunk-preserved
loop-chunk-preserved g c =
    let inv = c.loop-chunk.invariant in
    let first = c.args.reader.now in
    let old = c.loop-chunk.reader in
    let new = c.piece-in-loop-chunk.new.self in
    let name = c.args.name.now in
    let chunk = c.read.new.into in
    let count = c.in_ok-count.count in
    let fits : count ≤ c.loop-chunk.room = search rules in
    record {
      study = c.piece-in-loop-chunk.ensures.study ∙ inv.study;
      admits = c.piece-in-loop-chunk.ensures.admits ∙ inv.admits;
      bytes = inv.bytes ++ take count chunk;
      lines = more_lines (lines_given new.checker) (lines_given old.checker) inv.bytes (take count chunk) inv.lines c.in_ok-piece-2.ensures.lines;
      read = record {
        count = count_more inv.bytes chunk count c.loop-chunk.room fits c.in_ok-count.ensures.bound.0 inv.read.count;
        consumed = Consumes-more (g.S.Shelf.left c.args.shelf.now name) (g.S.Shelf.left c.loop-chunk.shelf name) (g.S.Shelf.left c.read.new.self name) inv.bytes (take count chunk) inv.read.consumed c.in_ok-count.ensures.bytes.0;
        same = c.read.ensures.same ∙ inv.read.same;
        others = λ other differs. c.read.ensures.others other differs ∙ inv.read.others other differs;
        none_fell = λ other. let one : g.S.Shelf.faults c.args.shelf.now other ≤ g.S.Shelf.faults c.loop-chunk.shelf other = inv.read.none_fell other in let two : g.S.Shelf.faults c.loop-chunk.shelf other ≤ g.S.Shelf.faults c.read.new.self other = c.read.ensures.none_fell other in omega (arith, one, two);
      };
      taken = taken_more first old new inv.bytes (take count chunk) inv.taken c.in_ok-piece-2.ensures.taken;
      chunk = search rules;
    }
