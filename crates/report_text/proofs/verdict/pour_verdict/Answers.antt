use Rattle.vocab.specs.Size.{Extent}
use Rattle.report_text.proofs.ReportLemmas.{possible_text, undecided_text}
use Rattle.texts.proofs.PourLemmas.{renamed}
use Rattle.report_text.proofs.verdict.pour_verdict.Goals as goal

pub returns-in-Possible : goal.returns-in-Possible
returns-in-Possible g c =
    let size : Extent = g.K.OutcomeKind.size c.args.kind.now in
    rw c.in-Possible.is (renamed _ _ _ _ _ _ c.pour.result _ _ (possible_text c.args.study.now size c.requires.size c.in-Possible.table)
    (rw (c.from.ensures, c.count.ensures.value, c.space.ensures) at c.pour.ensures))

pub returns-in-Impossible : goal.returns-in-Impossible
returns-in-Impossible g c = rw c.in-Impossible.is c.pour_impossible.ensures

pub returns-in-Undecided : goal.returns-in-Undecided
returns-in-Undecided g c =
    rw c.in-Undecided.is (renamed _ _ _ _ _ _ c.pour-in-Undecided.result _ _ (undecided_text c.args.study.now)
    (rw (c.from-in-Undecided.ensures, c.conflicts.ensures) at c.pour-in-Undecided.ensures))
