use Rattle.std.proofs.Common.{◌≡◌, ap, ◌+◌, ℕ, get_or, arith}
use Rattle.verdicts.specs.Report.{lemma_lines}
use Rattle.meaning.specs.declared.stories.Lemma.{Lemma}
use Rattle.report_text.specs.Pieces.{lines_text}
use Rattle.texts.proofs.LoopLemmas.{spelled_stops, spelled_goes_on}
use Rattle.report_text.proofs.lines.StoryLinesText.pour.Goals as goal

pub returns-in_err-pour : goal.returns-in_err-pour
returns-in_err-pour g c =
    let study = c.args.self.now.of.study.now in
    let lemmas = c.args.self.now.lemmas.now in
    let next : c.loop-place.place + 1 ≡ 1 + c.loop-place.place = omega arith in
    spelled_stops (λ (number : ℕ) (lemma : Lemma). lines_text study (lemma_lines number lemma)) lemmas 1 c.loop-place.place c.index-self-place.result _ _ _ _ _ _ c.loop-place.invariant _ _ _ c.in_err-pour.field-0.0 c.from_residual.result _ c.loop-place-test.true
    (ap (λ (n : ℕ). lines_text study (lemma_lines n (get_or lemmas c.loop-place.place c.index-self-place.result))) next)
    c.from_residual.ensures.0 c.in_err-pour.ensures

pub loop-place-preserved : goal.loop-place-preserved
loop-place-preserved g c =
    let study = c.args.self.now.of.study.now in
    let lemmas = c.args.self.now.lemmas.now in
    let next : c.loop-place.place + 1 ≡ 1 + c.loop-place.place = omega arith in
    spelled_goes_on (λ (number : ℕ) (lemma : Lemma). lines_text study (lemma_lines number lemma)) lemmas 1 c.loop-place.place c.index-self-place.result _ _ _ _ _ _ c.loop-place.invariant _ _ _ c.in_ok-pour.field-0 _ c.loop-place-test.true
    (ap (λ (n : ℕ). lines_text study (lemma_lines n (get_or lemmas c.loop-place.place c.index-self-place.result))) next)
    c.in_ok-pour.ensures
