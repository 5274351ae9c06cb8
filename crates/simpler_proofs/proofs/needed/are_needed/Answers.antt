use Rattle.std.proofs.Common.{◌++◌}
use Rattle.line_hints.specs.Ids.{all_added}
use Rattle.simpler_proofs.proofs.Named.{named_more}
use Rattle.simpler_proofs.proofs.needed.are_needed.Goals as goal

pub loop-k-preserved : goal.loop-k-preserved
loop-k-preserved c =
    let needs = rw c.as_slice.ensures at c.needs_each.ensures in
    record {
      end = c.loop-k.invariant.end;
      each = named_more (c.args.clauses.now.clauses ++ all_added c.args.lines.now) c.args.lines.now c.loop-k.k c.get.result.now c.get.ensures
          (needs c.if-not-needs_each.false) c.loop-k.invariant.each;
    }
