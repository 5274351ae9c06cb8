use Rattle.std.proofs.Common.{sym, subst, ℕ, List, ◌++◌}
use Rattle.std.specs.Prelude.{codes}
use Rattle.verdicts.specs.Report.{own_version}
use Rattle.report_text.specs.Pieces.{about_lines, lines_text}
use Rattle.texts.proofs.PourLemmas.{renamed}
use Rattle.map_text.specs.MapText.{are_named}
use Rattle.map_text.proofs.MapLemmas.{same_text}
use Rattle.map_text.proofs.maps.pour_map.Goals as goal

pub pour-requires : goal.pour-requires
pour-requires g c =
    let study = c.args.setting.now.study.now in (
      (tt, tt),
      (
        subst (are_named study) (sym c.as_slice.ensures) c.requires.impossible,
        (
          subst (are_named study) (sym c.as_slice-2.ensures) c.requires.possible,
          (subst (are_named study) (sym c.as_slice-3.ensures) c.requires.open_sets, (tt, tt)),
        ),
      ),
    )

pub returns : goal.returns
returns g c =
    let study = c.args.setting.now.study.now in
    let front : List ℕ = codes "bench cores 1\n" ++ lines_text study (about_lines study (own_version study)) in
    renamed _ _ _ _ _ _ c.pour.result _ _ (same_text study front _ _ _ _ _ _ _ _ c.as_slice.ensures c.as_slice-2.ensures c.as_slice-3.ensures c.ending_word.ensures) c.pour.ensures
