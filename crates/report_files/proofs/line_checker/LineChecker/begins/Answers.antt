use Rattle.std.proofs.Common.{◌≡◌, ◌∙◌, ap, sym, true, [], ◌∷◌}
use Rattle.std.specs.Prelude.{◌&&◌}
use Rattle.report_files.specs.Lines.{has_title, is_undecided}
use Rattle.report_files.proofs.CheckerLemmas.{is_title_told}
use Rattle.report_files.proofs.line_checker.LineChecker.begins.Goals as goal

pub returns-then-is_undecided : goal.returns-then-is_undecided
returns-then-is_undecided g c =
    let undecided : is_undecided c.args.self.now ≡ true = sym c.is_undecided.ensures ∙ c.if-is_undecided.true in
    is_title_told c.args.self.now.study c.is_title.result c.args.line.now (c.is_title.ensures c.args.self.now.study)
    ∙ sym (ap (λ b. b && has_title (c.args.line.now ∷ [])) undecided)
