use Rattle.std.proofs.Common.{subst, Bool, []}
use Rattle.std.specs.Prelude.{IfOk}
use Rattle.vocab.specs.Study.{Question}
use Rattle.verdicts.specs.Judge.{pieces, front, final}
use Rattle.sharp_verdicts.specs.Judged.{has_sharp_title}
use Rattle.verdict_reading.specs.Told.{HasCollected}
use Rattle.verdict_reading.specs.Readings.{IsTextRead}
use Rattle.verdict_reading.proofs.reading.read_text.Goals as goal

pub read_lines-requires-clause-unread : goal.read_lines-requires-clause-unread
read_lines-requires-clause-unread g c κs within =
    subst (λ (sharp : Bool). HasCollected c.in_ok-subject.subject.setting.study.now sharp c.in_ok-collector.collector []) c.has_sharp_title.ensures c.in_ok-collector.ensures

pub returns : goal.returns
returns g c =
    let text = c.args.text.now in
    subst (λ (q : Question). IfOk c.reading_at.result (IsTextRead q c.args.whole text)) c.in_ok-subject.ensures.study
    (c.reading_at.ensures c.in_ok-subject.subject.setting.study.now (has_sharp_title text) (front (pieces text)) (final (pieces text)) c.in_ok-told.ensures)
