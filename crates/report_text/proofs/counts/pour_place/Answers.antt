use Rattle.std.proofs.Common.{◌≡◌, ap, ◌∙◌, ℕ, ◌+◌, ◌<◌, ◌^◌, List, ◌++◌, arith}
use Rattle.std.specs.Fmt.{decimal}
use Rattle.verdicts.specs.Numbers.{number_text}
use Rattle.verdicts.proofs.PrintLaws.{decimal_is}
use Rattle.texts.proofs.PourLemmas.{renamed}
use Rattle.report_text.proofs.counts.pour_place.Goals as goal

pub returns : goal.returns
returns g c =
    let fits : c.args.place + 1 < 2 ^ 64 = omega (arith, c.ranges.place.fits) in
    let text : decimal (c.from.result + 1) ≡ number_text (c.args.place + 1) = ap (λ (n : ℕ). decimal (n + 1)) c.from.ensures ∙ decimal_is (c.args.place + 1) fits in
    renamed _ _ _ _ _ _ c.pour.result _ _ (ap (λ (n : List ℕ). c.args.words.now ++ n) text) c.pour.ensures
