use Rattle.std.proofs.Common.{◌≡◌, drop}
use Rattle.std.specs.Cmp.Lexicographic.{pointwise}
use Rattle.std.specs.Str.{bytes_eq}
use Rattle.report_lines.specs.Rest.{words_after}
use Rattle.report_lines.proofs.NameLemmas.{names_of}
use Rattle.report_lines.proofs.all_axioms.are_all_axioms.Given as goal

abbrev pub invariant-loop-k : goal.invariant-loop-k
invariant-loop-k l = pointwise bytes_eq (words_after l.rest) (names_of l.study.axioms) ≡ pointwise bytes_eq (words_after l.left) (drop l.k (names_of l.study.axioms))
