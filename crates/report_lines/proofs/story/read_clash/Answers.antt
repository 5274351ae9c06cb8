use Rattle.verdicts.specs.Texts.{words_of}
use Rattle.report_lines.specs.Rest.{words_after}
use Rattle.report_lines.proofs.LineLemmas.{a_clash, no_clash}
use Rattle.report_lines.proofs.story.read_clash.Goals as goal

pub returns-in-Some-read_reason : goal.returns-in-Some-read_reason
returns-in-Some-read_reason c =
    a_clash c.args.study.now (words_of c.args.text.now) (words_after c.in-Some.rest.now) (words_after c.in-Some-after_key.words.now) c.in-Some-read_reason.reason c.in-Some.ensures c.in-Some-after_key.ensures c.in-Some-read_reason.ensures

pub returns-in-None : goal.returns-in-None
returns-in-None c = no_clash c.args.study.now (words_of c.args.text.now) (words_after c.in-Some.rest.now) (words_after c.in-Some-after_key.words.now) c.in-Some.ensures c.in-Some-after_key.ensures c.in-None.ensures
