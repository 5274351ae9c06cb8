use Rattle.report_text.proofs.LineLemmas.{lemma_text}
use Rattle.texts.proofs.PourLemmas.{renamed}
use Rattle.report_text.proofs.lines.LemmaLinesText.pour.Goals as goal

pub returns : goal.returns
returns g c =
    let study = c.args.self.now.of.study.now in
    let lemma = c.args.self.now.lemma.now in
    renamed _ _ _ _ _ _ c.pour.result _ _ (lemma_text study c.args.self.now.number lemma.suppose lemma.steps lemma.last)
    (rw (c.as_slice.ensures, c.as_slice-2.ensures) at c.pour.ensures)
