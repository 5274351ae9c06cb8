use Rattle.verdicts.specs.Report.{own_version}
use Rattle.report_text.proofs.ReportLemmas.{about_text}
use Rattle.texts.proofs.PourLemmas.{renamed}
use Rattle.report_text.proofs.head.AboutText.pour.Goals as goal

pub returns : goal.returns
returns g c =
    let study = c.args.self.now.of.study.now in
    renamed _ _ _ _ _ _ c.pour.result _ _ (about_text study (own_version study))
    (rw (c.kind_word.ensures, c.kind.ensures, c.from.ensures, c.voters.ensures, c.from-2.ensures, c.alternatives.ensures, c.as_slice.ensures, c.axioms.ensures.axioms, c.size-size.ensures) at c.pour.ensures)
