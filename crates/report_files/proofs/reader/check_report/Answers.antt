use Rattle.std.proofs.Common.{◌∙◌, sym, subst, [], inr}
use Rattle.vocab.specs.Size.{Extent, IsSize}
use Rattle.vocab.specs.Study.{Question}
use Rattle.verdicts.specs.Judge.{answer}
use Rattle.report.specs.Answers.{Concludes}
use Rattle.report.proofs.AnswerLemmas.{true_if_right}
use Rattle.report_files.proofs.TextLemmas.{text_right, text_all}
use Rattle.report_files.proofs.reader.check_report.Goals as goal

pub returns-clause-value : goal.returns-clause-value
returns-clause-value g c =
    let study = c.piece.ensures.study ∙ c.in_ok-reader.ensures.study in
    inr (subst (λ (q : Question). Concludes (answer q c.args.text.now) c.end.result) study
    (c.end.ensures c.args.text.now (c.in_ok-piece.ensures.taken [] c.in_ok-reader.ensures.stands)))

pub returns-clause-right : goal.returns-clause-right
returns-clause-right g c = text_right c.args.study.now c.args.text.now c.end.result (returns-clause-value g c)

pub returns-clause-all : goal.returns-clause-all
returns-clause-all g c = text_all c.args.study.now c.args.text.now c.requires.listed c.end.result c.requires.room (returns-clause-value g c)

pub returns-clause-holds : goal.returns-clause-holds
returns-clause-holds g c =
    let size : IsSize c.args.study.now.size = subst (λ (n : Extent). IsSize n) (sym c.requires.size) c.kinds_have_sizes.ensures in
    true_if_right c.args.study.now c.args.text.now c.end.result size (returns-clause-right g c)
