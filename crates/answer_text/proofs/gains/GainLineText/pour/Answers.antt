use Rattle.std.proofs.Common.{◌≡◌, ap, ◌∙◌, ℕ, ◌<◌, ◌^◌, List, ◌++◌, codes, arith}
use Rattle.std.specs.Fmt.{decimal}
use Rattle.verdicts.specs.Numbers.{number_text}
use Rattle.verdicts.proofs.PrintLaws.{decimal_is}
use Rattle.texts.proofs.PourLemmas.{renamed}
use Rattle.answer_text.proofs.gains.GainLineText.pour.Goals as goal

pub returns : goal.returns
returns g c =
    let w = c.args.self.now.0.now in
    let fits : w.voter < 2 ^ 64 = omega (arith, c.from.ensures) in
    let number : decimal c.from.result ≡ number_text w.voter = ap (λ (n : ℕ). decimal n) c.from.ensures ∙ decimal_is w.voter fits in
    renamed _ _ _ _ _ _ c.pour.result _ _
    (ap (λ (n : List ℕ). codes "voter " ++ (n ++ (codes " at " ++ (w.profile ++ (codes " gains by " ++ (w.ballot
    ++ (codes ": " ++ (w.after ++ (codes " over " ++ (w.before ++ codes "\n")))))))))) number)
    (rw (c.bytes.ensures, c.bytes-2.ensures, c.bytes-3.ensures, c.bytes-4.ensures) at c.pour.ensures)
