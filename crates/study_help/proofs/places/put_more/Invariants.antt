use Rattle.std.proofs.Common.{◌≡◌, ◌++◌, take}
use Rattle.std.specs.List.{flat_map}
use Rattle.study_help.specs.Places.{next_kind_text}
use Rattle.study_help.proofs.places.put_more.Given as goal

-- the kinds so far were added
abbrev pub invariant-loop-kind : goal.invariant-loop-kind
invariant-loop-kind l = l.out ≡ l.initial.out ++ flat_map next_kind_text (take l.kind-index l.kinds)
