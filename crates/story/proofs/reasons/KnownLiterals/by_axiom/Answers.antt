use Rattle.std.proofs.Common.{◌≡◌, ◌∙◌, sym, slice_get, Some}
use Rattle.story.proofs.PlaceLemmas.{core_place}
use Rattle.story.proofs.reasons.KnownLiterals.by_axiom.Goals as goal
use Rattle.vocab.proofs.StudyLaws.{sentence_at}

pub get-cited-requires : goal.get-cited-requires
get-cited-requires g c =
    let grounds = c.args.self.now.grounds.now in
    rw c.axioms.ensures.axioms (core_place grounds.setting.now.study.now.axioms grounds.core.now c.args.place (sym c.is_in.ensures ∙ c.if-not-is_in.false) grounds.places)

pub is_instance_false-requires-clause-sentence : goal.is_instance_false-requires-clause-sentence
is_instance_false-requires-clause-sentence g c κs within =
    let setting = c.args.self.now.grounds.now.setting.now in
    let at : slice_get setting.study.now.axioms c.args.place ≡ Some c.get-cited.result.now = rw c.axioms.ensures.axioms at c.get-cited.ensures in
    rw (← setting.same) (sentence_at setting.study.now c.args.place c.get-cited.result.now c.axioms.ensures.study at)
