use Rattle.std.proofs.Common.{◌≡◌, ap, subst, ◌∙◌, ℕ, ◌+◌, ◌<◌, ◌^◌, List, ◌++◌, OnOk, arith}
use Rattle.std.specs.Fmt.{decimal}
use Rattle.verdicts.specs.Numbers.{number_text}
use Rattle.verdicts.proofs.PrintLaws.{decimal_is}
use Rattle.instance_text.proofs.lines.put_voter.Goals as goal

pub returns : goal.returns
returns c =
    let fits : c.args.i + 1 < 2 ^ 64 = omega (arith, c.ranges.i.fits) in
    let text : decimal (c.from.result + 1) ≡ number_text (c.args.i + 1) = ap (λ (n : ℕ). decimal (n + 1)) c.from.ensures ∙ decimal_is (c.args.i + 1) fits in
    subst (λ (t : List ℕ). OnOk c.put_number.result (c.put_number.new.out ≡ c.args.out.now ++ t)) text c.put_number.ensures
