use Rattle.texts.proofs.FinishLemmas.{flushed}
use Rattle.texts.proofs.writing.write_text.Goals as goal

pub returns-clause-err : goal.returns-clause-err
returns-clause-err g c = flushed c.flush.result _ _ _ _ c.in_ok-put_text.ensures.ok c.flush.ensures.bytes
