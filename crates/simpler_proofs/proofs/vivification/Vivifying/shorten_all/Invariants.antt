use Rattle.std.proofs.Common.{◌≡◌, true, length}
use Rattle.simpler_proofs.proofs.vivification.Vivifying.shorten_all.Given as goal

abbrev pub invariant-loop-k : goal.invariant-loop-k
invariant-loop-k l = record {
  propagated : l.self.draft.marked.trail.propagated ≡ true;
  given : l.self.given ≡ l.fn.self.given;
  end : l.k-end ≡ length l.fn.self.given.now.lines.now;
}
