use Rattle.simpler_proofs.specs.Search.{IsAtRoot, IsSameSearch}
use Rattle.simpler_proofs.proofs.search.Search.each_alone.Given as goal

abbrev pub invariant-loop-lit : goal.invariant-loop-lit
invariant-loop-lit l = record {
  root : IsAtRoot l.self;
  same : IsSameSearch l.fn.self l.self;
}
