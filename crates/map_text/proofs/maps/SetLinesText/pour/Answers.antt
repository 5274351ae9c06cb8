use Rattle.std.proofs.Common.{◌≡◌, sym, ap, subst, ℕ, List, true}
use Rattle.lists.proofs.TestLaws.{all_read}
use Rattle.texts.proofs.LoopLemmas.{loop_stops, loop_goes_on}
use Rattle.map_text.specs.MapText.{are_axiom_places, set_text}
use Rattle.map_text.proofs.maps.SetLinesText.pour.Goals as goal

pub pour-requires : goal.pour-requires
pour-requires g c =
    let study = c.args.self.now.study.now in
    let sets : List (List ℕ) = c.args.self.now.sets.now in
    (tt, (subst (λ (set : List ℕ). are_axiom_places study set ≡ true) (sym c.as_slice.ensures) (all_read (are_axiom_places study) sets c.loop-place.place _ c.loop-place-test.true c.requires), tt))

pub returns-in_err-pour : goal.returns-in_err-pour
returns-in_err-pour g c =
    let text = set_text c.args.self.now.study.now c.args.self.now.word.now in
    let sets : List (List ℕ) = c.args.self.now.sets.now in
    loop_stops text sets c.loop-place.place c.index-self-place.result _ _ _ _ _ _ c.loop-place.invariant _ _ _ c.in_err-pour.field-0.0 c.from_residual.result _ c.loop-place-test.true
    (ap text c.as_slice.ensures) c.from_residual.ensures.0 c.in_err-pour.ensures

pub loop-place-preserved : goal.loop-place-preserved
loop-place-preserved g c =
    let text = set_text c.args.self.now.study.now c.args.self.now.word.now in
    let sets : List (List ℕ) = c.args.self.now.sets.now in
    loop_goes_on text sets c.loop-place.place c.index-self-place.result _ _ _ _ _ _ c.loop-place.invariant _ _ _ c.in_ok-pour.field-0 _ c.loop-place-test.true
    (ap text c.as_slice.ensures) c.in_ok-pour.ensures
