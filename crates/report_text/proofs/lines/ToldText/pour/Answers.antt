use Rattle.report_text.proofs.ReportLemmas.{told_text}
use Rattle.texts.proofs.PourLemmas.{renamed}
use Rattle.report_text.proofs.lines.ToldText.pour.Goals as goal

pub returns : goal.returns
returns g c =
    let told = c.args.self.now in
    renamed _ _ _ _ _ _ c.pour.result _ _ (told_text told.of.study.now told.core.now told.lemmas.now) c.pour.ensures
