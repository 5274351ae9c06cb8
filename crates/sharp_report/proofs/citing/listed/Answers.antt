use Rattle.std.proofs.Common.{◌∙◌, ap, List, ℕ}
use Rattle.grounding.specs.Rising.{includes}
use Rattle.told_instances.proofs.ToldLaws.{all_high, lists_told}
use Rattle.sharp_report.proofs.CitedLemmas.{whole_codes}
use Rattle.sharp_report.proofs.citing.listed.Goals as goal

pub rising-requires : goal.rising-requires
rising-requires c =
    let cited = c.requires.cited in
    record { some = all_high c.args.study.now cited.0 c.args.cited.now.items (whole_codes c.args.study.now c.args.cited.now.items cited.0 cited.1) }

pub returns : goal.returns
returns c = λ story k.
    lists_told c.args.study.now story c.in_ok-instances.instances c.axioms-axioms.ensures.study k.lemmas_named c.in_ok-instances.ensures.small c.in_ok-instances.ensures.rising
    (λ n. c.in_ok-instances.ensures.has n ∙ ap (λ (xs : List ℕ). includes xs n) (whole_codes c.args.study.now c.args.cited.now.items story k))
