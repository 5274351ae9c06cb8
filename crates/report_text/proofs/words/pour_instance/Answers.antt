use Rattle.std.proofs.Common.{◌≡◌, slice_get, Some}
use Rattle.report_text.proofs.WordLemmas.{named_instance}
use Rattle.texts.proofs.PourLemmas.{renamed}
use Rattle.report_text.proofs.words.pour_instance.Goals as goal

pub returns : goal.returns
returns g c =
    let study = c.args.of.now.study.now in
    let at : slice_get study.axioms c.args.place ≡ Some c.get-named.result.now = rw c.axioms.ensures.axioms at c.get-named.ensures in
    renamed _ _ _ _ _ _ c.pour.result _ _ (named_instance study c.args.place c.args.values c.get-named.result.now at)
    (rw (c.bytes.ensures, c.name-name.ensures, c.sentence.ensures) at c.pour.ensures)
