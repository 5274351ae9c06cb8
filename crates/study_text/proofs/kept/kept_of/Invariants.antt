use Rattle.std.proofs.Common.{◌≡◌, ◌≤◌, take}
use Rattle.std.specs.List.{count_by}
use Rattle.clause_form.specs.Sources.{origins_in}
use Rattle.study_text.specs.Shares.{is_from}
use Rattle.study_text.proofs.kept.kept_of.Given as goal

-- those of the clauses so far
abbrev pub invariant-loop-k : goal.invariant-loop-k
invariant-loop-k l = (l.kept ≡ count_by (is_from l.place) (take l.k (origins_in l.ground))) × (l.kept ≤ l.k)
