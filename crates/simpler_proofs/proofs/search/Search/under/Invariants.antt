use Rattle.simpler_proofs.specs.Search.{IsAtRoot, IsSameSearch}
use Rattle.simpler_proofs.proofs.search.Search.under.Given as goal

abbrev pub invariant-loop-second : goal.invariant-loop-second
invariant-loop-second l = record {
  root : IsAtRoot l.self;
  same : IsSameSearch l.fn.self l.self;
}
