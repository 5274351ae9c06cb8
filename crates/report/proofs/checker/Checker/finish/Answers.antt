use Rattle.std.proofs.Common.{◌≤◌, ℕ, length, sym, subst}
use Rattle.vocab.specs.Size.{Extent, IsSize}
use Rattle.report.proofs.AnswerLemmas.{lines_right, lines_all, true_if_right}
use Rattle.verdicts.specs.Judge.{ended}
use Rattle.report.proofs.checker.Checker.finish.Goals as goal

pub returns-clause-right : goal.returns-clause-right
returns-clause-right g c = λ lines h. lines_right c.args.self.now.subject.setting.study.now lines c.conclude.result (c.conclude.ensures.value lines h)

pub returns-clause-all : goal.returns-clause-all
returns-clause-all g c = λ lines h none.
    let few : length lines ≤ 4294967294 = subst (λ (n : ℕ). n ≤ 4294967294) h.0 c.requires.room in
    let subject = c.args.self.now.subject in
    lines_all subject.setting.study.now lines subject.listed c.conclude.result few none (c.conclude.ensures.value lines h)

pub returns-clause-holds : goal.returns-clause-holds
returns-clause-holds g c = λ lines h.
    let study = c.args.self.now.subject.setting.study.now in
    let size : IsSize study.size = subst (λ (n : Extent). IsSize n) (sym c.args.self.now.subject.setting.same) c.kinds_have_sizes.ensures in
    true_if_right study (ended lines) c.conclude.result size (lines_right study lines c.conclude.result (c.conclude.ensures.value lines h))
