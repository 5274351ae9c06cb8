use Rattle.verdicts.specs.Texts.{words_of}
use Rattle.report_lines.specs.Rest.{words_after}
use Rattle.sharp_lines.proofs.NeedLemmas.{a_cited}
use Rattle.sharp_lines.proofs.needs.read_words.Goals as goal

pub returns : goal.returns
returns c =
    a_cited c.args.study.now (words_of c.args.text.now) (words_after c.in-Some.rest.now) (words_after c.in-Some-last_two.cited.now) c.in-Some-last_two.word.now c.in-Some-last_two.last.now c.in-Some-read_cited.reason c.read_mark.result c.in-Some.ensures c.in-Some-last_two.ensures c.in-Some-read_cited.ensures c.read_mark.ensures
