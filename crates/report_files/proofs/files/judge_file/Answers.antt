use Rattle.std.proofs.Common.{sym, subst}
use Rattle.std.specs.Prelude.{IfOk, IfSome}
use Rattle.vocab.specs.Size.{Extent, IsSize}
use Rattle.vocab.specs.Study.{Question}
use Rattle.report_files.specs.Files.{IsJudgedWorthOf, JudgedWorthHolds}
use Rattle.report_files.proofs.JudgedLemmas.{if_ok, if_some, file_right, right_file}
use Rattle.report_files.proofs.files.judge_file.Goals as goal

pub returns-clause-worth : goal.returns-clause-worth
returns-clause-worth g c =
    subst (λ (q : Question). IfSome (g.S.Shelf.files c.args.shelf.now) (λ files. IfOk c.judged_worth_of.result (IsJudgedWorthOf q files c.args.name.now)))
    c.in_ok-reader.ensures.study c.judged_worth_of.ensures.worth

pub returns-clause-right : goal.returns-clause-right
returns-clause-right g c =
    if_some (g.S.Shelf.files c.args.shelf.now) (returns-clause-worth g c) (λ files h.
    if_ok c.judged_worth_of.result h (λ w is. file_right c.args.topic.now.study.now files c.args.name.now w is))

pub returns-clause-all : goal.returns-clause-all
returns-clause-all g c =
    if_some (g.S.Shelf.files c.args.shelf.now) (returns-clause-worth g c) (λ files h.
    right_file c.args.topic.now.study.now files c.args.name.now c.args.topic.now.listed c.judged_worth_of.result h)

pub returns-clause-holds : goal.returns-clause-holds
returns-clause-holds g c =
    let size : IsSize c.args.topic.now.study.now.size = subst (λ (n : Extent). IsSize n) (sym c.args.topic.now.same) c.kinds_have_sizes.ensures in
    let same = c.in_ok-reader.ensures.study in
    subst (λ (q : Question). IfOk c.judged_worth_of.result (JudgedWorthHolds q)) same
    (c.judged_worth_of.ensures.holds (subst (λ (q : Question). IsSize q.size) (sym same) size))
