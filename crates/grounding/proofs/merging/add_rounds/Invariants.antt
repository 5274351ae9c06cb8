use Rattle.std.proofs.Common.{◌-◌, ◌+◌, ◌<◌, ◌≤◌, [], fold, length}
use Rattle.crew.specs.Right.{AreRight}
use Rattle.clause_form.specs.Sources.{sourced}
use Rattle.grounding.specs.Distinct.{kept_with}
use Rattle.grounding.specs.Kept.{AreKeptClauses}
use Rattle.grounding.specs.Pieces.{IsPartOf, sources_of, part_start}
use Rattle.grounding.proofs.merging.add_rounds.Given as goal

-- the clauses of the instances before a round are kept, and its parts are made
abbrev pub invariant-loop-from : goal.invariant-loop-from
invariant-loop-from g l = record {
  within : l.to ≤ l.numbered.count;
  rising : l.from ≤ l.to;
  more : l.from < l.numbered.count → l.from < l.to;
  short : l.to ≤ l.from + 524288;
  right : AreRight (IsPartOf (g.K.OutcomeKind.size l.numbered.kind.now) l.numbered.named.now.sentence l.numbered.base l.from l.to) 0 l.parts;
  whole : l.to ≤ part_start l.from (length l.parts);
  kept : AreKeptClauses l.seen l.out (sourced l.fn.out.clauses l.fn.out.origins)
      (fold kept_with [] (sources_of (g.K.OutcomeKind.size l.numbered.kind.now) l.numbered.named.now.sentence l.numbered.base 0 l.from));
}

abbrev pub decreases-loop-from : goal.decreases-loop-from
decreases-loop-from g l = l.numbered.count - l.from
