use Rattle.simpler_proofs.specs.Search.{IsAtRoot, IsSameSearch}
use Rattle.simpler_proofs.proofs.search.Search.each_in_turn.Given as goal

abbrev pub invariant-loop-first : goal.invariant-loop-first
invariant-loop-first l = record {
  root : IsAtRoot l.self;
  same : IsSameSearch l.fn.self l.self;
}
