use Rattle.verdicts.specs.Report.{own_version}
use Rattle.report_text.proofs.ReportLemmas.{head_text}
use Rattle.texts.proofs.PourLemmas.{renamed}
use Rattle.report_text.proofs.head.HeadText.pour.Goals as goal

pub returns : goal.returns
returns g c =
    let study = c.args.self.now.of.study.now in
    renamed _ _ _ _ _ _ c.pour.result _ _ (head_text study (own_version study)) (rw c.version_of.ensures at c.pour.ensures)
