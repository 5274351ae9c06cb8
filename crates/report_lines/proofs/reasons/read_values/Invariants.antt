use Rattle.std.proofs.Common.{◌≡◌, ◌+◌, ◌≤◌, ◌++◌, length, option_map}
use Rattle.vocab.specs.Formula.{prefix_of, quantifier_depth}
use Rattle.vocab.specs.Study.{Question}
use Rattle.vocab.specs.Tree.{tree_of}
use Rattle.verdicts.specs.Reading.{read_values}
use Rattle.report_lines.specs.Rest.{words_after}
use Rattle.report_lines.proofs.reasons.read_values.Given as goal

abbrev pub invariant-loop-sort : goal.invariant-loop-sort
invariant-loop-sort l = record {
  room : length l.values + quantifier_depth (tree_of l.body) ≤ 12;
  told : (study : Question) → l.space ≡ study.size → read_values study (prefix_of (tree_of l.sentence)) (words_after l.rest) ≡ option_map (λ others. l.values ++ others) (read_values study (prefix_of (tree_of l.body)) (words_after l.left));
}

abbrev pub decreases-loop-sort : goal.decreases-loop-sort
decreases-loop-sort l = length l.left
