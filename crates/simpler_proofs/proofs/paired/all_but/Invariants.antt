use Rattle.std.proofs.Common.{◌≡◌, Bool, length}
use Rattle.cnf.specs.Sat.{Clause}
use Rattle.simpler_proofs.specs.Made.{EachPasses}
use Rattle.simpler_proofs.proofs.paired.all_but.Given as goal

abbrev pub invariant-loop-k : goal.invariant-loop-k
invariant-loop-k l = record {
  end : l.k-end ≡ length l.lines;
  passes : (test : Clause → Bool) → EachPasses test l.lines → EachPasses test l.rest;
}
