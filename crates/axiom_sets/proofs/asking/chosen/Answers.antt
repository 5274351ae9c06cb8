use Rattle.std.proofs.Common.{rules, ◌≡◌, [], ◌∷◌, ◌++◌, cond}
use Rattle.std.specs.Prelude.{not}
use Rattle.cnf.specs.Assignment.{value_of}
use Rattle.axiom_sets.proofs.AskLaws.{chosen_step}
use Rattle.axiom_sets.proofs.asking.chosen.Goals as goal
use Rattle.axiom_sets.proofs.asking.chosen.Goals.{then-not-get+in_ok-push, else-not-get}

pub loop-place-preserved : goal.loop-place-preserved
loop-place-preserved c = elim c.if-not-get.branch [
  | then-not-get+in_ok-push w ↦
      let h = w.if-not-get in let k = w.in_ok-push in
      let is : c.if-not-get.set ≡ c.loop-place.set ++ cond (not c.get.result) (c.loop-place.place ∷ []) [] = search rules in
      chosen_step (value_of c.args.bits.now) c.loop-place.place c.get.result c.loop-place.set c.if-not-get.set c.get.ensures c.loop-place.invariant is
  | else-not-get w ↦
      let h = w.if-not-get in
      let is : c.if-not-get.set ≡ c.loop-place.set ++ cond (not c.get.result) (c.loop-place.place ∷ []) [] = search rules in
      chosen_step (value_of c.args.bits.now) c.loop-place.place c.get.result c.loop-place.set c.if-not-get.set c.get.ensures c.loop-place.invariant is
]
