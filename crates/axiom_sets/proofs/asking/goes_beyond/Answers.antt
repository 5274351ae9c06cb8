use Rattle.std.proofs.Common.{rules, ◌≡◌, [], ◌∷◌, ◌++◌, ◌+◌, cond, false}
use Rattle.std.specs.Prelude.{not}
use Rattle.axiom_sets.proofs.AskLaws.{beyond_step}
use Rattle.axiom_sets.proofs.asking.goes_beyond.Goals as goal
use Rattle.axiom_sets.proofs.asking.goes_beyond.Goals.{then-not-has_place+in_ok-push, else-not-has_place}

pub loop-place-preserved : goal.loop-place-preserved
loop-place-preserved c = elim c.if-not-has_place.branch [
  | then-not-has_place+in_ok-push w ↦
      let is : c.if-not-has_place.clause.items ≡ c.loop-place.clause.items ++ cond (not c.has_place.result) (record { variable = c.loop-place.place + 1; positive = false } ∷ []) [] = search rules in
      beyond_step c.loop-place.place c.args.set.now c.has_place.result c.loop-place.clause.items c.if-not-has_place.clause.items c.has_place.ensures c.loop-place.invariant is
  | else-not-has_place w ↦
      let is : c.if-not-has_place.clause.items ≡ c.loop-place.clause.items ++ cond (not c.has_place.result) (record { variable = c.loop-place.place + 1; positive = false } ∷ []) [] = search rules in
      beyond_step c.loop-place.place c.args.set.now c.has_place.result c.loop-place.clause.items c.if-not-has_place.clause.items c.has_place.ensures c.loop-place.invariant is
]
