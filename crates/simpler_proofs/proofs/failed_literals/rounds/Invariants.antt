use Rattle.simpler_proofs.specs.Search.{IsAtRoot, IsSameSearch}
use Rattle.simpler_proofs.proofs.failed_literals.rounds.Given as goal

abbrev pub invariant-loop : goal.invariant-loop
invariant-loop l = record {
  root : IsAtRoot l.search;
  same : IsSameSearch l.fn.search l.search;
}
