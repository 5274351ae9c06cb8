use Rattle.std.proofs.Common.{◌≡◌, ◌<◌, ◌≤◌, Some, arith, length, slice_get, slice_index_or, subst}
use Rattle.vocab.specs.Limits.{instance_count}
use Rattle.vocab.specs.Size.{Extent}
use Rattle.grounding.proofs.ChosenLemmas.{chosen_below}
use Rattle.grounding.proofs.making.Chosen.get.Goals as goal
use Rattle.vocab.proofs.StudyLaws.{few_at, sentence_at}

pub get-requires : goal.get-requires
get-requires g c =
    let chosen = c.args.self.now in
    rw (c.as_slice.ensures, c.axioms.ensures.axioms) (chosen_below (length chosen.study.now.axioms) chosen.places.now c.args.k chosen.core c.requires)

pub invariant_of-result-clause-sentence : goal.invariant_of-result-clause-sentence
invariant_of-result-clause-sentence g c =
    let chosen = c.args.self.now in
    let at : slice_get chosen.study.now.axioms (slice_index_or chosen.places.now c.args.k 0) ≡ Some c.get.result.now = rw (c.axioms.ensures.axioms, c.as_slice.ensures) at c.get.ensures in
    rw (← chosen.size) (sentence_at chosen.study.now (slice_index_or chosen.places.now c.args.k 0) c.get.result.now c.axioms.ensures.study at)

pub invariant_of-result-clause-few : goal.invariant_of-result-clause-few
invariant_of-result-clause-few g c =
    let chosen = c.args.self.now in
    let at : slice_get chosen.study.now.axioms (slice_index_or chosen.places.now c.args.k 0) ≡ Some c.get.result.now = rw (c.axioms.ensures.axioms, c.as_slice.ensures) at c.get.ensures in
    subst (λ (s : Extent). instance_count s c.get.result.now.sentence ≤ 40000000) chosen.size (few_at chosen.study.now (slice_index_or chosen.places.now c.args.k 0) c.get.result.now c.axioms.ensures.study at)

pub invariant_of-result-clause-low : goal.invariant_of-result-clause-low
invariant_of-result-clause-low g c =
    let chosen = c.args.self.now in
    let below : slice_index_or chosen.places.now c.args.k 0 < length chosen.study.now.axioms = chosen_below (length chosen.study.now.axioms) chosen.places.now c.args.k chosen.core c.requires in
    rw c.as_slice.ensures (omega (arith, below, c.axioms.ensures.study.few_axioms))
