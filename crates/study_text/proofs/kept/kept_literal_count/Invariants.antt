use Rattle.std.proofs.Common.{◌≡◌, length, take}
use Rattle.std.specs.List.{sum_by}
use Rattle.clause_form.specs.Sources.{clauses_in}
use Rattle.study_text.proofs.kept.kept_literal_count.Given as goal

-- those of the clauses so far
abbrev pub invariant-loop-k : goal.invariant-loop-k
invariant-loop-k l = l.literals ≡ sum_by length (take l.k (clauses_in l.ground))
