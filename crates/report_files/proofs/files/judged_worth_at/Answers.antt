use Rattle.std.proofs.Common.{sym, ◌∙◌}
use Rattle.report_files.proofs.CheckerLemmas.{no_sharp_of}
use Rattle.report_files.proofs.JudgedLemmas.{title_of_file, judged_report, judged_sharp}
use Rattle.report_files.proofs.files.judged_worth_at.Goals as goal

pub returns-in_ok-worth-clause-worth : goal.returns-in_ok-worth-clause-worth
returns-in_ok-worth-clause-worth g c = λ known left bytes held ended k stands.
    let reader = c.args.reader.now in
    judged_sharp reader.checker.study held c.in_ok-worth.worth (title_of_file reader c.args.ending known left bytes held c.requires.texts ended k stands ∙ sym c.is_sharp.ensures ∙ c.if-is_sharp.true)
    (c.in_ok-worth.ensures.worth known left bytes held ended k stands)

pub worth_at-requires-clause-reports : goal.worth_at-requires-clause-reports
worth_at-requires-clause-reports g c κs within = no_sharp_of c.args.reader.now.checker.sharp (sym c.is_sharp.ensures ∙ c.if-is_sharp.false)

pub returns-in_ok-worth-2-clause-worth : goal.returns-in_ok-worth-2-clause-worth
returns-in_ok-worth-2-clause-worth g c = λ known left bytes held ended k stands.
    let reader = c.args.reader.now in
    judged_report reader.checker.study held c.in_ok-worth-2.worth (title_of_file reader c.args.ending known left bytes held c.requires.texts ended k stands ∙ sym c.is_sharp.ensures ∙ c.if-is_sharp.false)
    (c.in_ok-worth-2.ensures.worth known left bytes held ended k stands)
