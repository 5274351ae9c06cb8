use Rattle.std.proofs.Common.{ap, List, ℕ, ◌++◌}
use Rattle.std.specs.Prelude.{codes}
use Rattle.verdicts.specs.Report.{own_version}
use Rattle.report_text.specs.Pieces.{about_lines, lines_text}
use Rattle.texts.proofs.PourLemmas.{renamed}
use Rattle.study_text.proofs.look.pour_look.Goals as goal

pub returns : goal.returns
returns g c =
    let study = c.args.setting.now.study.now in
    let front : List ℕ = codes "bench study 1\n" ++ lines_text study (about_lines study (own_version study)) in
    renamed _ _ _ _ _ _ c.pour.result _ _ (ap (λ (l : List ℕ). front ++ l) c.as_slice.ensures) c.pour.ensures
