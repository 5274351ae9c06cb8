use Rattle.std.proofs.Common.{◌≡◌, drop, map, true}
use Rattle.std.specs.List.{list_all}
use Rattle.study.specs.Sentences.{resolved_all}
use Rattle.study.specs.Unresolved.{worded_of, is_sound}
use Rattle.study.proofs.Resolved.{resolved_after}
use Rattle.study.proofs.sentences.resolve_all.Given as goal

abbrev pub invariant-loop-written : goal.invariant-loop-written
invariant-loop-written l =
    (resolved_after l.space l.axioms (drop l.written-index l.sentences) ≡ resolved_all l.space (map worded_of l.sentences))
    × (list_all (is_sound l.space) l.axioms ≡ true)
