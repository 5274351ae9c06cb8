use Rattle.std.proofs.Common.{ap, ◌∙◌}
use Rattle.verdict_reading.specs.Readings.{reading_of}
use Rattle.report_files.proofs.JudgedLemmas.{if_ok}
use Rattle.verdict_reading.proofs.ReadingLemmas.{right_of, whole_is_front}
use Rattle.verdict_reading.proofs.reading.read_verdict.Goals as goal

pub returns-clause-value : goal.returns-clause-value
returns-clause-value g c = if_ok c.read_text.result c.read_text.ensures (λ r e. e ∙ ap reading_of (whole_is_front c.args.topic.now.study.now c.args.text.now))

pub returns-clause-right : goal.returns-clause-right
returns-clause-right g c = if_ok c.read_text.result c.read_text.ensures (λ r e. right_of c.args.topic.now.study.now c.args.text.now r (e ∙ ap reading_of (whole_is_front c.args.topic.now.study.now c.args.text.now)))
