use Rattle.std.proofs.Common.{◌≡◌, slice_get, Some, true}
use Rattle.vocab.specs.Formula.{body_of}
use Rattle.vocab.specs.Study.{is_sentence}
use Rattle.worlds.specs.Conditions.{IsFormulaAt}
use Rattle.needed_facts.proofs.facts.Facts.spoken_by.Goals as goal
use Rattle.vocab.proofs.StudyLaws.{sentence_at}

pub literals_of-requires-clause-body : goal.literals_of-requires-clause-body
literals_of-requires-clause-body g c =
    let study = c.args.self.now.grounds.now.setting.now.study.now in
    let size = g.K.OutcomeKind.size c.args.self.now.grounds.now.setting.now.kind.now in
    let at : slice_get study.axioms c.args.place ≡ Some c.get.result.now = rw c.axioms-axioms.ensures.axioms at c.get.ensures in
    let sentence : is_sentence size c.get.result.now ≡ true = rw (← c.args.self.now.grounds.now.setting.now.same) (sentence_at study c.args.place c.get.result.now c.axioms-axioms.ensures.study at) in
    let fact : IsFormulaAt size (body_of c.get.result.now.sentence) c.args.values.now = c.bodies_have_values.ensures size c.get.result.now sentence c.args.values.now (c.requires.values c.get.result.now at) in
    rw (c.space.ensures, c.body.ensures, c.sentence-sentence.ensures) fact
