use Rattle.std.proofs.Common.{◌≡◌, length}
use Rattle.verdicts.specs.Faults.{named_places}
use Rattle.report_lines.specs.Held.{named_core}
use Rattle.report_lines.specs.Rest.{words_after}
use Rattle.report_lines.proofs.NameLemmas.{and_those}
use Rattle.report_lines.proofs.core_line.read_core.Given as goal

abbrev pub invariant-loop-word : goal.invariant-loop-word
invariant-loop-word l = named_core l.study l.text ≡ and_those l.from (length l.study.axioms) l.core (named_places l.study.axioms (words_after l.left))

abbrev pub decreases-loop-word : goal.decreases-loop-word
decreases-loop-word l = length l.left
