use Rattle.std.proofs.Common.{◌≤◌, length, map}
use Rattle.grounding.proofs.MergedLaws.{IsMerged}
use Rattle.instance_stories.specs.Codes.{code_of, HaveAxiomRoom}
use Rattle.instance_stories.proofs.codes.merged.Given as goal

abbrev pub invariant-loop-i : goal.invariant-loop-i
invariant-loop-i l = record {
  merged : IsMerged l.codes (map code_of l.instances) l.last l.i;
  small : HaveAxiomRoom l.instances;
  few : length l.instances ≤ l.i;
}
