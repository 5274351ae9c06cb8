use Rattle.std.proofs.Common.{◌≡◌, ◌++◌, take}
use Rattle.std.specs.List.{flat_map}
use Rattle.study_text.specs.Shares.{shares_of}
use Rattle.study_text.proofs.shares.add_axioms.Given as goal

-- what is limited of the axioms so far was added
abbrev pub invariant-loop-place : goal.invariant-loop-place
invariant-loop-place l = l.shares ≡ l.initial.shares ++ flat_map (shares_of l.study.size) (take l.place l.study.axioms)
