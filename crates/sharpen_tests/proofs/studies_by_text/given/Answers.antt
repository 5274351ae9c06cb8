use Rattle.study.proofs.WholeStudies.{studies_whole}
use Rattle.sharpen_tests.proofs.studies_by_text.given.Goals as goal

pub returns-in-Ok-clause-reportable : goal.returns-in-Ok-clause-reportable
returns-in-Ok-clause-reportable c =
    let whole = studies_whole _ _ c.in-Ok.ensures.ok in
    record { taken = whole.0; size = whole.1; names = whole.2 }

pub returns-in-Ok-clause-listed : goal.returns-in-Ok-clause-listed
returns-in-Ok-clause-listed c = (studies_whole _ _ c.in-Ok.ensures.ok).3
