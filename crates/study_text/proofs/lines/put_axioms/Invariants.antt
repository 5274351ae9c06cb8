use Rattle.std.proofs.Common.{◌≡◌, ◌++◌}
use Rattle.std.specs.List.{flat_map}
use Rattle.vocab.specs.Range.{below}
use Rattle.study_text.specs.LookText.{lines_at}
use Rattle.study_text.proofs.lines.put_axioms.Given as goal

-- the lines so far were added
abbrev pub invariant-loop-place : goal.invariant-loop-place
invariant-loop-place l = l.out ≡ l.initial.out ++ flat_map (lines_at l.study l.ground) (below l.place)
