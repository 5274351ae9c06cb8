use Rattle.std.proofs.Common.{◌≡◌, ap, ◌∙◌, ℕ, ◌<◌, ◌^◌, List, [], ◌∷◌, ◌++◌, codes, arith}
use Rattle.std.specs.Fmt.{decimal}
use Rattle.verdicts.specs.Numbers.{number_text}
use Rattle.verdicts.proofs.PrintLaws.{decimal_is}
use Rattle.texts.proofs.PourLemmas.{renamed}
use Rattle.answer_text.proofs.worth.pour_refused.Goals as goal

pub returns : goal.returns
returns g c =
    let fits : c.args.line < 2 ^ 64 = omega (arith, c.ranges.line.fits) in
    let number : decimal c.from.result ≡ number_text c.args.line = ap (λ (n : ℕ). decimal n) c.from.ensures ∙ decimal_is c.args.line fits in
    renamed _ _ _ _ _ _ c.pour.result _ _ (ap (λ (n : List ℕ). codes "refused line " ++ (((n ++ codes ": ") ++ g.W.Text.text c.args.word) ++ 10 ∷ [])) number) c.pour.ensures
